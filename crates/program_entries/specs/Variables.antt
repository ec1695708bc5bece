-- The entries of variables, by the debug metadata.
use Rattle.std.specs.Prelude.{ℕ, ◌+◌, false, nat_le, List, [], ◌∷◌, Option, Some, None}
use Rattle.std.specs.List.{slice_get}
use Rattle.std.specs.Option.{option_and_then, option_map}
use Rattle.dwarf_info.specs.declared.unit.VariableEntry.{VariableEntry}
use Rattle.read_debug_nodes.specs.declared.node.DebugNode.{DebugNode}
use Rattle.read_debug_nodes.specs.declared.node.DebugNode.TheVariants as nodes
use Rattle.read_debug_nodes.specs.declared.node.DebugVariable.{DebugVariable}
use Rattle.read_debug_nodes.specs.Maps.{DebugMaps}
use Rattle.read_debug_nodes.specs.Metadata.{node_at}
use Rattle.read_types.specs.Indices.{index_in}
use Rattle.mir_func.specs.declared.variable.VarId.{VarId}
use Rattle.dwarf_line_table.specs.declared.file.SourceFile.{SourceFile}
use Rattle.typed_unit.specs.declared.content.TypedVariable.{TypedVariable}
use Rattle.typed_unit.specs.declared.content.Inner.{Inner}
use Rattle.typed_unit.specs.declared.content.Inner.TheVariants.{Variable}
use Rattle.program_entries.specs.Declarations.{declared_in}

abbrev pub as_variable : DebugNode → Option DebugVariable
as_variable (nodes.Variable v) = Some v
as_variable _ = None

-- a variable with a location list, of which nothing is known if its node isn't readable
abbrev pub typed_variable : DebugMaps → (types : List ℕ) → (unit : SourceFile) → Option DebugVariable → (list : Option ℕ) → TypedVariable
typed_variable debug types unit None list = record { name = []; argument = false; declared = None; base = None; list = list }
typed_variable debug types unit (Some v) list = record {
  name = v.name;
  argument = nat_le 1 v.arg;
  declared = declared_in unit debug v.file v.line;
  base = option_map (index_in types) v.type_node;
  list = list;
}

-- the location list of the entry with this index
abbrev pub list_at : List VariableEntry → ℕ → Option ℕ
list_at entries k = option_map (λ (e : VariableEntry). e.list) (slice_get entries k)

-- variables, the first of which has this entry
abbrev pub typed_variables : DebugMaps → (types : List ℕ) → (unit : SourceFile) → List VariableEntry → (index : ℕ) → List VarId → List Inner
typed_variables debug types unit entries k [] = []
typed_variables debug types unit entries k (v ∷ vs) =
    Variable (typed_variable debug types unit (option_and_then as_variable (node_at debug v.node)) (list_at entries k))
    ∷ typed_variables debug types unit entries (k + 1) vs
