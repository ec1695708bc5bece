-- The node with given fields, by its kind. (LLVM Language Reference Manual, "DILocalVariable", "DILocation", "DIFile", "DIBasicType", "DISubprogram",
-- "DILexicalBlock" and "DILexicalBlockFile".)
use Rattle.std.specs.Prelude.{ℕ, ◌/◌, ◌%◌, Bool, ◌&&◌, ◌||◌, ◌==◌, nat_le, if◌then◌else◌, unwrap_or, codes, List, [], Option, Some, None}
use Rattle.std.specs.Str.{bytes_eq}
use Rattle.read_metadata.specs.declared.field.Field.{Field}
use Rattle.read_metadata.specs.declared.node.Node.{Node}
use Rattle.read_metadata.specs.declared.node.Node.TheVariants as nodes
use Rattle.read_metadata.specs.Encoding.{DW_ATE_address, DW_ATE_boolean, DW_ATE_float, DW_ATE_signed, DW_ATE_signed_char, DW_ATE_unsigned, DW_ATE_unsigned_char}
use Rattle.read_metadata.specs.Encoding.{DW_ATE_UTF}
use Rattle.read_metadata.specs.Text.{text_value}
use Rattle.read_metadata.specs.Field.{number_at, node_at, text_at, word_at}

-- whether nodes of a kind are lexical blocks
unfoldable pub is_block : List ℕ → Bool
is_block kind = bytes_eq kind (codes "!DILexicalBlock") || bytes_eq kind (codes "!DILexicalBlockFile")

-- the code of a base type's encoding, if it is supported (DWARF 5, section 7.8)
unfoldable pub encoding_code : List ℕ → Option ℕ
encoding_code name =
    if bytes_eq name (codes "DW_ATE_address") then Some DW_ATE_address
    else (if bytes_eq name (codes "DW_ATE_boolean") then Some DW_ATE_boolean
    else (if bytes_eq name (codes "DW_ATE_float") then Some DW_ATE_float
    else (if bytes_eq name (codes "DW_ATE_signed") then Some DW_ATE_signed
    else (if bytes_eq name (codes "DW_ATE_signed_char") then Some DW_ATE_signed_char
    else (if bytes_eq name (codes "DW_ATE_unsigned") then Some DW_ATE_unsigned
    else (if bytes_eq name (codes "DW_ATE_unsigned_char") then Some DW_ATE_unsigned_char
    else (if bytes_eq name (codes "DW_ATE_UTF") then Some DW_ATE_UTF
    else None)))))))

-- the greatest size of a base type in bits: 255 bytes
abbrev pub MAX_BITS : ℕ
MAX_BITS = 2040

-- a base type's size in bytes, if its size in bits is a multiple of 8 from 8 to the greatest
abbrev pub size_in_bytes : Option ℕ → Option ℕ
size_in_bytes None = None
size_in_bytes (Some bits) = if bits % 8 == 0 && (nat_le 8 bits && nat_le bits MAX_BITS) then Some (bits / 8) else None

-- a variable, if its fields are readable
abbrev pub variable_with : Option (List ℕ) → Option (Option ℕ) → Option (Option ℕ) → Option Node
variable_with (Some name) (Some arg) (Some base) = Some (nodes.Variable (record { name = text_value name; arg = unwrap_or arg 0; base = base }))
variable_with _ _ _ = None

-- a source location, if its fields are readable and it has a line
abbrev pub location_with : Option (Option ℕ) → Option (Option ℕ) → Option (Option ℕ) → Option (Option ℕ) → Option Node
location_with (Some (Some line)) (Some column) (Some scope) (Some inlined_at) =
    Some (nodes.Location (record { line = line; column = unwrap_or column 0; scope = scope; inlined_at = inlined_at }))
location_with _ _ _ _ = None

-- a file, if its fields are readable
abbrev pub file_with : Option (List ℕ) → Option (List ℕ) → Option Node
file_with (Some name) (Some dir) = Some (nodes.File (record { name = text_value name; dir = text_value dir }))
file_with _ _ = None

-- a base type, if its fields are readable and its size and its encoding are supported
abbrev pub base_type_with : Option (List ℕ) → Option ℕ → Option ℕ → Option Node
base_type_with (Some name) (Some size) (Some encoding) = Some (nodes.BaseType (record { name = text_value name; size = size; encoding = encoding }))
base_type_with _ _ _ = None

-- a subprogram, if its file is readable. A name that isn't readable is as if it were missing
abbrev pub subprogram_with : Option (List ℕ) → Option (Option ℕ) → Option Node
subprogram_with name None = None
subprogram_with name (Some file) = Some (nodes.Subprogram (record { name = text_value (unwrap_or name []); file = file }))

-- a lexical block, if its file is readable. A scope that isn't readable is as if it were missing
abbrev pub block_with : Option (Option ℕ) → Option (Option ℕ) → Option Node
block_with scope None = None
block_with scope (Some file) = Some (nodes.Block (record { scope = unwrap_or scope None; file = file }))

-- what is read from a value, if there is one
abbrev pub and_read : {A B : Type 0} → Option A → (A → Option B) → Option B
and_read None read = None
and_read (Some x) read = read x

-- the variable with these fields
unfoldable pub variable_of : List ℕ → List Field → Option Node
variable_of line fields = variable_with (text_at line (codes "name") fields) (number_at line (codes "arg") fields) (node_at line (codes "type") fields)

-- the source location with these fields
unfoldable pub location_of : List ℕ → List Field → Option Node
location_of line fields = location_with (number_at line (codes "line") fields) (number_at line (codes "column") fields) (node_at line (codes "scope") fields)
    (node_at line (codes "inlinedAt") fields)

-- the file with these fields
unfoldable pub file_of : List ℕ → List Field → Option Node
file_of line fields = file_with (text_at line (codes "filename") fields) (text_at line (codes "directory") fields)

-- the base type with these fields
unfoldable pub base_type_of : List ℕ → List Field → Option Node
base_type_of line fields = base_type_with (text_at line (codes "name") fields) (and_read (number_at line (codes "size") fields) size_in_bytes)
    (and_read (word_at line (codes "encoding") fields) encoding_code)

-- the subprogram with these fields
unfoldable pub subprogram_of : List ℕ → List Field → Option Node
subprogram_of line fields = subprogram_with (text_at line (codes "name") fields) (node_at line (codes "file") fields)

-- the lexical block with these fields
unfoldable pub block_of : List ℕ → List Field → Option Node
block_of line fields = block_with (node_at line (codes "scope") fields) (node_at line (codes "file") fields)

-- the node of this kind with these fields; none if nodes of the kind aren't kept
unfoldable pub node_of_kind : List ℕ → List ℕ → List Field → Option Node
node_of_kind line kind fields =
    if bytes_eq kind (codes "!DILocalVariable") then variable_of line fields
    else (if bytes_eq kind (codes "!DILocation") then location_of line fields
    else (if bytes_eq kind (codes "!DIFile") then file_of line fields
    else (if bytes_eq kind (codes "!DIBasicType") then base_type_of line fields
    else (if bytes_eq kind (codes "!DISubprogram") then subprogram_of line fields
    else (if is_block kind then block_of line fields
    else None)))))
