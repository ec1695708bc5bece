-- The node with given fields, by its kind: nodes that describe code and variables. In the kinds that are read for source locations too only what is read there
-- makes a line unreadable. (LLVM Language Reference Manual, "DIFile", "DICompileUnit", "DISubprogram", "DILexicalBlock", "DILexicalBlockFile", "DILocation"
-- and "DILocalVariable".)
use Rattle.std.specs.Prelude.{ℕ, Bool, if◌then◌else◌, unwrap_or, codes, List, [], Option, Some, None}
use Rattle.std.specs.Option.{option_map}
use Rattle.std.specs.Str.{bytes_eq}
use Rattle.read_metadata.specs.Text.{text_value}
use Rattle.read_debug_nodes.specs.declared.field.NodeField.{NodeField}
use Rattle.read_debug_nodes.specs.declared.node.DebugNode.{DebugNode}
use Rattle.read_debug_nodes.specs.declared.node.DebugNode.TheVariants as nodes
use Rattle.read_debug_nodes.specs.Codes.{language_code}
use Rattle.read_debug_nodes.specs.Value.{number_at, line_at, node_at, node_or_none, text_at, text_or_none, word_or_none, has_flag}
use Rattle.read_debug_nodes.specs.Types.{type_of_kind}

-- a file, if its fields are readable
abbrev pub file_with : Option (List ℕ) → Option (List ℕ) → Option DebugNode
file_with (Some name) (Some dir) = Some (nodes.File (record { name = text_value name; dir = text_value dir }))
file_with _ _ = None

-- a source location, if its fields are readable and it has a line
abbrev pub location_with : Option (Option ℕ) → Option (Option ℕ) → Option (Option ℕ) → Option (Option ℕ) → Option DebugNode
location_with (Some (Some line)) (Some column) (Some scope) (Some inlined_at) = Some nodes.Location
location_with _ _ _ _ = None

-- the scope of a lexical block, if its file is readable
abbrev pub scope_with : Option (Option ℕ) → (scope : Option ℕ) → Option (Option ℕ)
scope_with None scope = None
scope_with (Some file) scope = Some scope

-- a variable, if its name, its number as a parameter and its type are readable
abbrev pub variable_with : Option (List ℕ) → Option (Option ℕ) → Option (Option ℕ) → (scope file : Option ℕ) → (line : ℕ) → Option DebugNode
variable_with (Some name) (Some arg) (Some type_node) scope file line =
    Some (nodes.Variable (record {
      name = text_value name;
      arg = unwrap_or arg 0;
      scope = scope;
      file = file;
      line = line;
      type_node = type_node;
    }))
variable_with _ _ _ scope file line = None

-- a subprogram, if its file is readable
abbrev pub subprogram_with : Option (Option ℕ) → (name linkage_name : List ℕ) → (line scope_line : ℕ) → (type_node : Option ℕ) → (prototyped local : Bool)
    → Option DebugNode
subprogram_with None name linkage_name line scope_line type_node prototyped local = None
subprogram_with (Some file) name linkage_name line scope_line type_node prototyped local =
    Some (nodes.Subprogram (record {
      name = text_value name;
      linkage_name = text_value linkage_name;
      file = file;
      line = line;
      scope_line = scope_line;
      type_node = type_node;
      prototyped = prototyped;
      local = local;
    }))

unfoldable pub file_of : (line : List ℕ) → List NodeField → Option DebugNode
file_of line fields = file_with (text_at line (codes "filename") fields) (text_at line (codes "directory") fields)

unfoldable pub location_of : (line : List ℕ) → List NodeField → Option DebugNode
location_of line fields = location_with (number_at line (codes "line") fields) (number_at line (codes "column") fields) (node_at line (codes "scope") fields)
    (node_at line (codes "inlinedAt") fields)

unfoldable pub unit_of : (line : List ℕ) → List NodeField → DebugNode
unit_of line fields = nodes.Unit (language_code (word_or_none line (codes "language") fields))

unfoldable pub block_scope_of : (line : List ℕ) → List NodeField → Option (Option ℕ)
block_scope_of line fields = scope_with (node_at line (codes "file") fields) (node_or_none line (codes "scope") fields)

unfoldable pub variable_of : (line : List ℕ) → List NodeField → Option DebugNode
variable_of line fields =
    variable_with (text_at line (codes "name") fields) (number_at line (codes "arg") fields) (node_at line (codes "type") fields)
    (node_or_none line (codes "scope") fields) (node_or_none line (codes "file") fields) (line_at line (codes "line") fields)

unfoldable pub subprogram_of : (line : List ℕ) → List NodeField → Option DebugNode
subprogram_of line fields =
    subprogram_with (node_at line (codes "file") fields) (text_or_none line (codes "name") fields) (text_or_none line (codes "linkageName") fields)
    (line_at line (codes "line") fields) (line_at line (codes "scopeLine") fields) (node_or_none line (codes "type") fields)
    (has_flag line (codes "flags") (codes "DIFlagPrototyped") fields) (has_flag line (codes "spFlags") (codes "DISPFlagLocalToUnit") fields)

-- the node of one of the kinds of files, units, code and source locations with these fields
unfoldable pub scope_of_kind : (line kind : List ℕ) → List NodeField → Option DebugNode
scope_of_kind line kind fields =
    if bytes_eq kind (codes "!DILocation") then location_of line fields
    else (if bytes_eq kind (codes "!DIFile") then file_of line fields
    else (if bytes_eq kind (codes "!DISubprogram") then subprogram_of line fields
    else (if bytes_eq kind (codes "!DILexicalBlock") then option_map nodes.Block (block_scope_of line fields)
    else (if bytes_eq kind (codes "!DILexicalBlockFile") then option_map nodes.FileBlock (block_scope_of line fields)
    else (if bytes_eq kind (codes "!DICompileUnit") then Some (unit_of line fields)
    else None)))))

abbrev pub or_else : Option DebugNode → Option DebugNode → Option DebugNode
or_else None other = other
or_else (Some node) other = Some node

-- the node of this kind with these fields; none if nodes of the kind aren't kept
unfoldable pub node_of_kind : (line kind : List ℕ) → List NodeField → Option DebugNode
node_of_kind line kind fields =
    if bytes_eq kind (codes "!DILocalVariable") then variable_of line fields
    else or_else (type_of_kind line kind fields) (scope_of_kind line kind fields)
