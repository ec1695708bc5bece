-- The entries of a type. (DWARF 5, chapter 5.)
use Rattle.std.specs.Prelude.{ℤ, ℕ, ◌+◌, ◌*◌, ◌/◌, ◌%◌, ◌&&◌, ◌||◌, not, nat_eq, nat_lt, Bool, true, false, cond}
use Rattle.std.specs.Prelude.{Option, Some, None, is_some, List, [], ◌∷◌, ◌++◌, map, slice_index_or}
use Rattle.std.specs.List.{filter, slice_get}
use Rattle.dwarf_info.specs.Standard.{DW_TAG_base_type, DW_TAG_formal_parameter, DW_AT_name, DW_AT_byte_size, DW_AT_encoding, DW_AT_type}
use Rattle.dwarf_entry.specs.declared.tree.Value.{Value}
use Rattle.dwarf_entry.specs.declared.tree.Value.TheVariants.{Data1, Unsigned, Signed, Text, Reference, Flag, Present}
use Rattle.dwarf_entry.specs.declared.tree.Attribute.{Attribute}
use Rattle.dwarf_entry.specs.declared.tree.TreeItem.{TreeItem}
use Rattle.dwarf_entry.specs.declared.tree.TreeItem.TheVariants.{Die, Null}
use Rattle.graph_cycles.specs.Ends.{is_marked}
use Rattle.type_nodes.specs.declared.shape.Member.{Member}
use Rattle.type_nodes.specs.declared.shape.Enumerator.{Enumerator}
use Rattle.type_nodes.specs.declared.shape.Shape.{Shape}
use Rattle.type_nodes.specs.declared.shape.Shape.TheVariants.{Base, Pointer, Qualifier, Typedef, Declaration, Record, Enumeration, Array, Subroutine}
use Rattle.type_nodes.specs.Sizes.{size_at}
use Rattle.type_entries.specs.declared.table.TypeTable.{TypeTable}
use Rattle.type_entries.specs.Standard.{DW_TAG_array_type, DW_TAG_enumeration_type, DW_TAG_member, DW_TAG_subroutine_type, DW_TAG_typedef, DW_TAG_subrange_type}
use Rattle.type_entries.specs.Standard.{DW_TAG_unspecified_parameters, DW_TAG_enumerator, DW_AT_bit_size, DW_AT_const_value, DW_AT_prototyped, DW_AT_count}
use Rattle.type_entries.specs.Standard.{DW_AT_data_member_location, DW_AT_declaration, DW_AT_data_bit_offset}

abbrev pub at : ℕ → Value → Attribute
at name value = record { name = name; value = value }

abbrev pub entry : (tag : ℕ) → (children : Bool) → List Attribute → TreeItem
entry tag children attributes = Die (record { tag = tag; children = children; attributes = attributes })

-- an entry with children and their end
abbrev pub parent : (tag : ℕ) → List Attribute → List TreeItem → List TreeItem
parent tag attributes inside = entry tag true attributes ∷ (inside ++ Null ∷ [])

-- a name, if there is one
abbrev pub name_attribute : List ℕ → List Attribute
name_attribute [] = []
name_attribute (b ∷ name) = at DW_AT_name (Text (b ∷ name)) ∷ []

-- ---- other types

abbrev pub item_of : TypeTable → (type : ℕ) → ℕ
item_of t n = slice_index_or t.items.items n 0

-- a type, if it stands. What doesn't is void
abbrev pub type_attribute : TypeTable → Option ℕ → List Attribute
type_attribute t None = []
type_attribute t (Some n) = cond (is_marked t.stands.items n) (at DW_AT_type (Reference (item_of t n)) ∷ []) []

-- whether the size of a variable is known, and isn't 0
abbrev pub is_whole : Option ℕ → Bool
is_whole None = false
is_whole (Some size) = not (nat_eq size 0)

-- whether a type that a variable or a parameter has can be told of it: it stands, and its size is known and isn't 0
abbrev pub is_known : (stands : List Bool) (sizes : List (Option ℕ)) → Option ℕ → Bool
is_known stands sizes None = false
is_known stands sizes (Some n) = is_marked stands n && is_whole (size_at sizes n)

-- the type of a variable or of a parameter: an unknown one of eight bytes if its own can't be told
abbrev pub variable_type : TypeTable → Option ℕ → Value
variable_type t None = Reference t.unknown
variable_type t (Some n) = cond (is_known t.stands.items t.sizes.items (Some n)) (Reference (item_of t n)) (Reference t.unknown)

-- ---- members

abbrev pub is_array : Option Shape → Bool
is_array None = false
is_array (Some (Base name size encoding)) = false
is_array (Some (Pointer tag to)) = false
is_array (Some (Qualifier tag to)) = false
is_array (Some (Typedef name to)) = false
is_array (Some (Declaration tag name)) = false
is_array (Some (Record tag name size members)) = false
is_array (Some (Enumeration name size to enumerators)) = false
is_array (Some (Array to counts)) = true
is_array (Some (Subroutine result parameters more)) = false

-- a member that is told of a record of so many bytes: its type stands and has a size or is an array, it begins at a byte or is a bit field, and it ends in
-- the record
abbrev pub is_told : TypeTable → (size : ℕ) → Member → Bool
is_told t size m =
    is_marked t.stands.items m.base && (is_some (size_at t.sizes.items m.base) || is_array (slice_get t.types m.base))
    && (m.bit_field || nat_eq (m.offset % 8) 0) && not (nat_lt (8 * size) (m.offset + m.size))

abbrev pub place_attributes : Member → List Attribute
place_attributes m =
    cond m.bit_field (at DW_AT_bit_size (Unsigned m.size) ∷ at DW_AT_data_bit_offset (Unsigned m.offset) ∷ [])
    (at DW_AT_data_member_location (Unsigned (m.offset / 8)) ∷ [])

abbrev pub member_item : TypeTable → Member → TreeItem
member_item t m = entry DW_TAG_member false (name_attribute m.name ++ type_attribute t (Some m.base) ++ place_attributes m)

abbrev pub value_of : (value : ℕ) → (negative : Option ℤ) → Value
value_of value None = Unsigned value
value_of value (Some v) = Signed v

abbrev pub enumerator_item : Enumerator → TreeItem
enumerator_item e = entry DW_TAG_enumerator false (at DW_AT_name (Text e.name) ∷ at DW_AT_const_value (value_of e.value e.negative) ∷ [])

abbrev pub subrange_item : Option ℕ → TreeItem
subrange_item None = entry DW_TAG_subrange_type false []
subrange_item (Some count) = entry DW_TAG_subrange_type false (at DW_AT_count (Unsigned count) ∷ [])

abbrev pub parameter_item : TypeTable → ℕ → TreeItem
parameter_item t n = entry DW_TAG_formal_parameter false (at DW_AT_type (variable_type t (Some n)) ∷ [])

-- ---- a type

abbrev pub base_item : (name : List ℕ) (size encoding : ℕ) → TreeItem
base_item name size encoding =
    entry DW_TAG_base_type false (at DW_AT_name (Text name) ∷ at DW_AT_byte_size (Data1 size) ∷ at DW_AT_encoding (Data1 encoding) ∷ [])

abbrev pub shape_items : TypeTable → Shape → List TreeItem
shape_items t (Base name size encoding) = base_item name size encoding ∷ []
shape_items t (Pointer tag to) = entry tag false (at DW_AT_byte_size (Data1 8) ∷ type_attribute t to) ∷ []
shape_items t (Qualifier tag to) = entry tag false (type_attribute t to) ∷ []
shape_items t (Typedef name to) = entry DW_TAG_typedef false (name_attribute name ++ type_attribute t to) ∷ []
shape_items t (Declaration tag name) = entry tag false (name_attribute name ++ at DW_AT_declaration Present ∷ []) ∷ []
shape_items t (Record tag name size members) =
    parent tag (name_attribute name ++ at DW_AT_byte_size (Unsigned size) ∷ []) (map (member_item t) (filter (is_told t size) members))
shape_items t (Enumeration name size to enumerators) =
    parent DW_TAG_enumeration_type (name_attribute name ++ at DW_AT_byte_size (Unsigned size) ∷ type_attribute t to) (map enumerator_item enumerators)
shape_items t (Array to counts) = parent DW_TAG_array_type (type_attribute t (Some to)) (map subrange_item counts)
shape_items t (Subroutine result parameters more) =
    parent DW_TAG_subroutine_type (at DW_AT_prototyped (Flag true) ∷ type_attribute t result)
    (map (parameter_item t) parameters ++ cond more (entry DW_TAG_unspecified_parameters false [] ∷ []) [])
