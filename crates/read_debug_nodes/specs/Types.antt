-- The node with given fields, by its kind: nodes that describe types. (LLVM Language Reference Manual, "DIBasicType", "DIDerivedType", "DICompositeType",
-- "DISubroutineType", "DIEnumerator" and "DISubrange".)
use Rattle.std.specs.Prelude.{ℕ, Bool, if◌then◌else◌, codes, List, Option, Some, None}
use Rattle.std.specs.Str.{bytes_eq}
use Rattle.read_metadata.specs.Text.{text_value}
use Rattle.read_metadata.specs.Kind.{and_read, encoding_code, size_in_bytes as bytes_of}
use Rattle.read_debug_nodes.specs.declared.field.NodeField.{NodeField}
use Rattle.read_debug_nodes.specs.declared.number.EnumeratorValue.{EnumeratorValue}
use Rattle.read_debug_nodes.specs.declared.node.DebugNode.{DebugNode}
use Rattle.read_debug_nodes.specs.declared.node.DebugNode.TheVariants as nodes
use Rattle.read_debug_nodes.specs.Codes.{derived_form, composite_form}
use Rattle.read_debug_nodes.specs.Value.{number_at, size_at, count_at, enumerator_at, node_at, text_at, word_at, has_flag}

-- a base type's size in bytes, if its size in bits is a multiple of 8 from 8 to 2,040
abbrev pub size_in_bytes : Option ℕ → Option ℕ
size_in_bytes bits = bytes_of bits

-- a base type, if its fields are readable and its size and its encoding are supported
abbrev pub base_type_with : Option (List ℕ) → Option ℕ → Option ℕ → Option DebugNode
base_type_with (Some name) (Some size) (Some encoding) = Some (nodes.BaseType (record { name = text_value name; size = size; encoding = encoding }))
base_type_with _ _ _ = None

abbrev pub derived_with : Option (List ℕ) → Option (List ℕ) → Option (Option ℕ) → Option ℕ → Option ℕ → (bit_field in_no_record : Bool) → Option DebugNode
derived_with (Some tag) (Some name) (Some base) (Some size) (Some offset) bit_field in_no_record =
    Some (nodes.Derived (record {
      form = derived_form tag;
      name = text_value name;
      base = base;
      size = size;
      offset = offset;
      bit_field = bit_field;
      in_no_record = in_no_record;
    }))
derived_with _ _ _ _ _ bit_field in_no_record = None

abbrev pub composite_with : Option (List ℕ) → Option (List ℕ) → Option (Option ℕ) → Option ℕ → Option (Option ℕ) → (declaration vector : Bool)
    → Option DebugNode
composite_with (Some tag) (Some name) (Some base) (Some size) (Some elements) declaration vector =
    Some (nodes.Composite (record {
      form = composite_form tag;
      name = text_value name;
      base = base;
      size = size;
      elements = elements;
      declaration = declaration;
      vector = vector;
    }))
composite_with _ _ _ _ _ declaration vector = None

abbrev pub subroutine_with : Option (Option ℕ) → Option DebugNode
subroutine_with None = None
subroutine_with (Some types) = Some (nodes.Subroutine types)

abbrev pub enumerator_with : Option (List ℕ) → Option EnumeratorValue → Option DebugNode
enumerator_with (Some name) (Some v) = Some (nodes.Enumerator (record { name = text_value name; value = v.value; negative = v.negative }))
enumerator_with _ _ = None

-- a dimension of an array. A count that isn't a number isn't known
abbrev pub subrange_with : Option ℕ → (count : Option ℕ) → Option DebugNode
subrange_with None count = None
subrange_with (Some lower) count = Some (nodes.Subrange (record { lower = lower; count = count }))

unfoldable pub base_type_of : (line : List ℕ) → List NodeField → Option DebugNode
base_type_of line fields =
    base_type_with (text_at line (codes "name") fields) (and_read (number_at line (codes "size") fields) size_in_bytes)
    (and_read (word_at line (codes "encoding") fields) encoding_code)

unfoldable pub derived_of : (line : List ℕ) → List NodeField → Option DebugNode
derived_of line fields =
    derived_with (word_at line (codes "tag") fields) (text_at line (codes "name") fields) (node_at line (codes "baseType") fields)
    (size_at line (codes "size") fields) (size_at line (codes "offset") fields) (has_flag line (codes "flags") (codes "DIFlagBitField") fields)
    (has_flag line (codes "flags") (codes "DIFlagStaticMember") fields)

unfoldable pub composite_of : (line : List ℕ) → List NodeField → Option DebugNode
composite_of line fields =
    composite_with (word_at line (codes "tag") fields) (text_at line (codes "name") fields) (node_at line (codes "baseType") fields)
    (size_at line (codes "size") fields) (node_at line (codes "elements") fields) (has_flag line (codes "flags") (codes "DIFlagFwdDecl") fields)
    (has_flag line (codes "flags") (codes "DIFlagVector") fields)

unfoldable pub subroutine_of : (line : List ℕ) → List NodeField → Option DebugNode
subroutine_of line fields = subroutine_with (node_at line (codes "types") fields)

unfoldable pub enumerator_of : (line : List ℕ) → List NodeField → Option DebugNode
enumerator_of line fields = enumerator_with (text_at line (codes "name") fields) (enumerator_at line (codes "value") fields)

unfoldable pub subrange_of : (line : List ℕ) → List NodeField → Option DebugNode
subrange_of line fields = subrange_with (size_at line (codes "lowerBound") fields) (count_at line (codes "count") fields)

-- the node of one of the kinds of types with these fields
unfoldable pub type_of_kind : (line kind : List ℕ) → List NodeField → Option DebugNode
type_of_kind line kind fields =
    if bytes_eq kind (codes "!DIDerivedType") then derived_of line fields
    else (if bytes_eq kind (codes "!DICompositeType") then composite_of line fields
    else (if bytes_eq kind (codes "!DIBasicType") then base_type_of line fields
    else (if bytes_eq kind (codes "!DISubroutineType") then subroutine_of line fields
    else (if bytes_eq kind (codes "!DIEnumerator") then enumerator_of line fields
    else (if bytes_eq kind (codes "!DISubrange") then subrange_of line fields
    else None)))))
