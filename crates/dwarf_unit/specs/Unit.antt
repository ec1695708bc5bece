-- The entries of a program's unit.
use Rattle.std.specs.Prelude.{ℕ, suc, ◌+◌, ◌*◌, min, false, List, [], ◌∷◌, map, length, Option, Some, None, nat_eq, nat_le}
use Rattle.std.specs.List.{flat_map, position_or_len}
use Rattle.std.specs.Option.{option_and_then}
use Rattle.dwarf_info.specs.declared.unit.BaseEntry.{BaseEntry}
use Rattle.dwarf_info.specs.declared.unit.VariableEntry.{VariableEntry}
use Rattle.dwarf_info.specs.declared.unit.FunctionEntry.{FunctionEntry}
use Rattle.dwarf_info.specs.declared.unit.Unit.{Unit as CompilationUnit}
use Rattle.read_metadata.specs.Maps.{Maps}
use Rattle.read_metadata.specs.Metadata.{variable_at, base_type_at}
use Rattle.read_metadata.specs.declared.node.VariableNode.{VariableNode}
use Rattle.read_metadata.specs.declared.node.BaseTypeNode.{BaseTypeNode}
use Rattle.mir_func.specs.declared.variable.VarId.{VarId}
use Rattle.dwarf_line_table.specs.declared.source_and_code.SourceAndCode.{SourceAndCode}
use Rattle.dwarf_line_table.specs.Files.{first_uses}
use Rattle.dwarf_line_table.specs.Program.{program_file}
use Rattle.dwarf_unit.specs.Variables.{variables_of_function}

-- the node, if it is readable as a DIBasicType
abbrev pub if_type : Option BaseTypeNode → (node : ℕ) → Option ℕ
if_type None node = None
if_type (Some t) node = Some node

-- the node of a base type, if it is readable
abbrev pub readable_type : Maps → Option ℕ → Option ℕ
readable_type meta base = option_and_then (λ node. if_type (base_type_at meta node) node) base

-- a list of the node, if there is one
abbrev pub listed : Option ℕ → List ℕ
listed None = []
listed (Some node) = node ∷ []

-- the base type of a DILocalVariable node, as a list: empty unless both nodes are readable
abbrev pub node_uses : Maps → Option VariableNode → List ℕ
node_uses meta None = []
node_uses meta (Some d) = listed (readable_type meta d.base)

-- the node of a variable's base type, as a list: empty unless it is readable
abbrev pub type_uses : Maps → VarId → List ℕ
type_uses meta v = node_uses meta (variable_at meta v.node)

-- the index of a type among types, which are identified by their nodes
abbrev pub type_in : (types : List ℕ) → Option ℕ → Option ℕ
type_in types None = None
type_in types (Some node) = Some (position_or_len (nat_eq node) types)

-- the entry of a variable by its node. If the node isn't readable it has an empty name and no type
abbrev pub node_entry : Maps → (types : List ℕ) → Option VariableNode → (list : ℕ) → VariableEntry
node_entry meta types None k = record { name = []; argument = false; base = None; list = k }
node_entry meta types (Some d) k =
    record { name = d.name; argument = nat_le 1 d.arg; base = type_in types (readable_type meta d.base); list = k }

-- the entry of a variable with this index of its location list
abbrev pub variable_entry : Maps → (types : List ℕ) → (list : ℕ) → VarId → VariableEntry
variable_entry meta types k v = node_entry meta types (variable_at meta v.node) k

-- the entries of variables, whose location lists are numbered from this index on
abbrev pub variables_from : Maps → (types : List ℕ) → (list : ℕ) → List VarId → List VariableEntry
variables_from meta types k [] = []
variables_from meta types k (v ∷ vs) = variable_entry meta types k v ∷ variables_from meta types (suc k) vs

-- the variables of a function, as it was read
abbrev pub function_variables : SourceAndCode → List VarId
function_variables f = variables_of_function f.source.now.blocks

-- the length of its code in bytes
abbrev pub code_length : SourceAndCode → ℕ
code_length f = 4 * length f.code.now.words

-- the content of a function's DW_TAG_subprogram, with its variables' location lists numbered from this index on
abbrev pub function_entry : Maps → (types : List ℕ) → (list : ℕ) → SourceAndCode → FunctionEntry
function_entry meta types k f = record {
  name = f.source.now.name;
  lo = f.code.now.base;
  len = code_length f;
  variables = variables_from meta types k (function_variables f);
}

-- the entries of functions, with their variables' location lists numbered from this index on
abbrev pub functions_from : Maps → (types : List ℕ) → (list : ℕ) → List SourceAndCode → List FunctionEntry
functions_from meta types k [] = []
functions_from meta types k (f ∷ fs) = function_entry meta types k f ∷ functions_from meta types (k + length (function_variables f)) fs

-- all variables of a program, in the order of their location lists
abbrev pub program_variables : List SourceAndCode → List VarId
program_variables functions = flat_map function_variables functions

-- the nodes of the base types of a program, in the order of their first use by variables
abbrev pub program_types : Maps → List SourceAndCode → List ℕ
program_types meta functions = first_uses nat_eq [] (flat_map (λ f. flat_map (type_uses meta) (function_variables f)) functions)

-- a base type's entry, with the size capped at 255
abbrev pub base_entry : Option BaseTypeNode → BaseEntry
base_entry None = record { name = []; size = 0; encoding = 0 }
base_entry (Some t) = record { name = t.name; size = min t.size 255; encoding = t.encoding }

-- the entries of the unit's base types, one for each node
abbrev pub base_entries : Maps → (types : List ℕ) → List BaseEntry
base_entries meta types = map (λ node. base_entry (base_type_at meta node)) types

-- the unit of a program, with the length of its code in bytes
unfoldable pub unit_of : Maps → (text_len : ℕ) → List SourceAndCode → CompilationUnit
unit_of meta text_len functions = record {
  name = (program_file meta functions).name;
  dir = (program_file meta functions).dir;
  text_len = text_len;
  types = base_entries meta (program_types meta functions);
  functions = functions_from meta (program_types meta functions) 0 functions;
}
