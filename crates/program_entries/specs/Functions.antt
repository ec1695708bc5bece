-- The entries of functions, by the debug metadata.
use Rattle.std.specs.Prelude.{ℕ, ◌+◌, Bool, true, not, List, [], ◌∷◌, Option, Some, None}
use Rattle.std.specs.List.{slice_get}
use Rattle.std.specs.Option.{option_and_then, option_map}
use Rattle.dwarf_info.specs.declared.unit.FunctionEntry.{FunctionEntry}
use Rattle.dwarf_info.specs.declared.unit.Unit.{Unit as CompilationUnit}
use Rattle.read_metadata.specs.Maps.{Maps}
use Rattle.read_metadata.specs.Metadata.{subprogram_at}
use Rattle.read_debug_nodes.specs.declared.node.DebugNode.{DebugNode}
use Rattle.read_debug_nodes.specs.declared.node.DebugNode.TheVariants as nodes
use Rattle.read_debug_nodes.specs.declared.node.DebugSubprogram.{DebugSubprogram}
use Rattle.read_debug_nodes.specs.Maps.{DebugMaps}
use Rattle.read_types.specs.Indices.{index_in}
use Rattle.dwarf_line_table.specs.declared.file.SourceFile.{SourceFile}
use Rattle.dwarf_line_table.specs.declared.source_and_code.SourceAndCode.{SourceAndCode}
use Rattle.dwarf_unit.specs.Unit.{function_variables}
use Rattle.typed_unit.specs.declared.content.Subprogram.{Subprogram}
use Rattle.typed_unit.specs.declared.content.TypedFunction.{TypedFunction}
use Rattle.typed_unit.specs.declared.content.TypedUnit.{TypedUnit}
use Rattle.typed_unit.specs.Plain.{plain_function, plain_subprogram}
use Rattle.program_entries.specs.Declarations.{declared_in, node_of}
use Rattle.program_entries.specs.Variables.{typed_variables}

abbrev pub as_subprogram : DebugNode → Option DebugSubprogram
as_subprogram (nodes.Subprogram s) = Some s
as_subprogram _ = None

-- a function as it is declared, of which only the name is known if its subprogram isn't readable
abbrev pub typed_subprogram : DebugMaps → (types : List ℕ) → (unit : SourceFile) → (name : List ℕ) → Option DebugSubprogram → Subprogram
typed_subprogram debug types unit name None = plain_subprogram name
typed_subprogram debug types unit name (Some s) = record {
  name = s.name;
  linkage_name = s.linkage_name;
  declared = declared_in unit debug s.file s.line;
  external = not s.local;
  prototyped = s.prototyped;
  signature = option_map (index_in types) s.type_node;
}

-- the subprogram of the function with a name
abbrev pub subprogram_of : DebugMaps → Maps → (name : List ℕ) → Option DebugSubprogram
subprogram_of debug meta name = option_and_then as_subprogram (node_of debug (subprogram_at meta name))

-- a function with its entry
abbrev pub typed_function : DebugMaps → (types : List ℕ) → Maps → (unit : SourceFile) → FunctionEntry → Option SourceAndCode → TypedFunction
typed_function debug types meta unit e None = plain_function e
typed_function debug types meta unit e (Some f) = record {
  subprogram = typed_subprogram debug types unit e.name (subprogram_of debug meta e.name);
  lo = e.lo;
  len = e.len;
  inside = typed_variables debug types unit e.variables 0 (function_variables f);
}

-- functions with these entries, the first of which has this index
abbrev pub typed_functions : DebugMaps → (types : List ℕ) → Maps → (unit : SourceFile) → List SourceAndCode → (index : ℕ) → List FunctionEntry
    → List TypedFunction
typed_functions debug types meta unit functions k [] = []
typed_functions debug types meta unit functions k (e ∷ es) =
    typed_function debug types meta unit e (slice_get functions k) ∷ typed_functions debug types meta unit functions (k + 1) es

-- the unit of functions with these entries, whose file is this one
abbrev pub typed_unit : DebugMaps → (types : List ℕ) → Maps → SourceFile → List SourceAndCode → CompilationUnit → (frame_base : Bool) → TypedUnit
typed_unit debug types meta unit functions u frame_base = record {
  language = debug.language;
  name = unit.name;
  dir = unit.dir;
  text_len = u.text_len;
  abstracts = [];
  functions = typed_functions debug types meta unit functions 0 u.functions;
  frame_base = frame_base;
  ranges = true;
}
