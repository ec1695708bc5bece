-- The line number table of a program.
use Rattle.std.specs.Prelude.{◌≡◌, ℕ, nat_eq, cond, List, [], map, Option, Some, None}
use Rattle.std.specs.List.{flat_map}
use Rattle.std.specs.Option.{option_and_then}
use Rattle.dwarf_line.specs.declared.table.LineTable.{LineTable}
use Rattle.read_metadata.specs.Maps.{Maps}
use Rattle.read_metadata.specs.Metadata.{subprogram_at}
use Rattle.read_debug_nodes.specs.declared.node.DebugNode.{DebugNode}
use Rattle.read_debug_nodes.specs.declared.node.DebugNode.TheVariants as nodes
use Rattle.read_debug_nodes.specs.declared.node.DebugSubprogram.{DebugSubprogram}
use Rattle.read_debug_nodes.specs.Maps.{DebugMaps}
use Rattle.read_debug_nodes.specs.Metadata.{node_at}
use Rattle.dwarf_line_table.specs.declared.source_and_code.SourceAndCode.{SourceAndCode}
use Rattle.dwarf_line_table.specs.Program.{program_file}
use Rattle.prologue_rows.specs.declared.function.LinedFunction.{LinedFunction}
use Rattle.prologue_rows.specs.Table.{declared_of, table_of}

abbrev pub as_subprogram : DebugNode → Option DebugSubprogram
as_subprogram (nodes.Subprogram s) = Some s
as_subprogram _ = None

-- the subprogram of the function with a name
abbrev pub subprogram_of : DebugMaps → Maps → (name : List ℕ) → Option DebugSubprogram
subprogram_of debug meta name = option_and_then as_subprogram (option_and_then (node_at debug) (subprogram_at meta name))

-- the line of a subprogram's body, or of its declaration if the body has none
abbrev pub line_by : DebugSubprogram → ℕ
line_by s = cond (nat_eq s.scope_line 0) s.line s.scope_line

abbrev pub line_or_none : Option DebugSubprogram → ℕ
line_or_none None = 0
line_or_none (Some s) = line_by s

-- the line of a function's body, 0 if its subprogram isn't readable
abbrev pub body_line : DebugMaps → Maps → SourceAndCode → ℕ
body_line debug meta f = line_or_none (subprogram_of debug meta f.source.now.name)

-- the functions, each with the line of its body, and without files of entries
pub record AreLined (debug : DebugMaps) (meta : Maps) (functions : List SourceAndCode) (lined : List LinedFunction) : Type 0 where
  pub same : map (λ l. l.function) lined ≡ functions
  pub lines : map (λ l. l.line) lined ≡ map (body_line debug meta) functions
  pub declared : flat_map declared_of lined ≡ []

-- The table is that of these functions in the unit of their file: in each sequence the first row has the line of the function's body, and the second one is at
-- the first word behind the prologue.
pub record IsTableOf (debug : DebugMaps) (meta : Maps) (functions : List SourceAndCode) (t : LineTable) : Type 0 where
  pub lined : List LinedFunction
  pub are : AreLined debug meta functions lined
  pub table : t ≡ table_of meta (program_file meta functions) lined
