-- Where functions and variables are declared. (DWARF 5, section 2.14.)
use Rattle.std.specs.Prelude.{ℕ, Bool, false, ◌&&◌, not, nat_eq, cond, Option, Some, None}
use Rattle.std.specs.Option.{option_and_then}
use Rattle.std.specs.Str.{bytes_eq}
use Rattle.dwarf_info.specs.Entries.{named}
use Rattle.read_metadata.specs.declared.node.FileNode.{FileNode}
use Rattle.read_debug_nodes.specs.declared.node.DebugNode.{DebugNode}
use Rattle.read_debug_nodes.specs.declared.node.DebugNode.TheVariants as nodes
use Rattle.read_debug_nodes.specs.Maps.{DebugMaps}
use Rattle.read_debug_nodes.specs.Metadata.{node_at}
use Rattle.dwarf_line_table.specs.declared.file.SourceFile.{SourceFile}
use Rattle.typed_unit.specs.declared.content.Declared.{Declared}

-- the node that another one names, if it names one and that is readable
abbrev pub node_of : DebugMaps → Option ℕ → Option DebugNode
node_of debug node = option_and_then (node_at debug) node

abbrev pub as_file : DebugNode → Option FileNode
as_file (nodes.File f) = Some f
as_file _ = None

-- whether a file is the unit's, if it is readable
abbrev pub is_unit_file : SourceFile → Option FileNode → Bool
is_unit_file unit None = false
is_unit_file unit (Some f) = bytes_eq (named f.name) unit.name && bytes_eq (named f.dir) unit.dir

-- the line of the unit's file, whose number is 0, in which something is declared: none where the file is another one, or the line isn't given
abbrev pub declared_in : (unit : SourceFile) → DebugMaps → (file : Option ℕ) → (line : ℕ) → Option Declared
declared_in unit debug file line =
    cond (is_unit_file unit (option_and_then as_file (node_of debug file)) && not (nat_eq line 0)) (Some (record { file = 0; line = line })) None
