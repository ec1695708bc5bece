-- The references of the items of types are to items.
use Rattle.std.proofs.Common.{◌≡◌, ℕ, suc, ◌<◌, ◌&&◌, Bool, true, false, cond, Option, Some, None, List, [], ◌∷◌, ◌++◌, map, filter, refl}
use Rattle.std.specs.Prelude.{ℤ, ◌/◌, All, codes}
use Rattle.std.specs.List.{AllByRecursion}
use Rattle.std.proofs.lemmas.List.Elements.{All-from_recursion}
use Rattle.dwarf_info.specs.Standard.{DW_AT_name, DW_AT_type, DW_AT_byte_size, DW_AT_encoding}
use Rattle.dwarf_entry.specs.declared.tree.Value.TheVariants.{Data1, Unsigned, Text, Reference, Flag, Present}
use Rattle.dwarf_entry.specs.declared.tree.Attribute.{Attribute}
use Rattle.dwarf_entry.specs.declared.tree.TreeItem.{TreeItem}
use Rattle.dwarf_entry.specs.declared.tree.TreeItem.TheVariants.{Null}
use Rattle.dwarf_entry.specs.Entries.{RefersBelow, AttributeRefersBelow, ItemRefersBelow}
use Rattle.graph_cycles.specs.Ends.{is_marked}
use Rattle.type_nodes.specs.declared.shape.Member.{Member}
use Rattle.type_nodes.specs.declared.shape.Enumerator.{Enumerator}
use Rattle.type_nodes.specs.declared.shape.Shape.{Shape}
use Rattle.type_nodes.specs.declared.shape.Shape.TheVariants.{Base, Pointer, Qualifier, Typedef, Declaration, Record, Enumeration, Array, Subroutine}
use Rattle.type_nodes.specs.Sizes.{size_at}
use Rattle.type_entries.specs.declared.table.TypeTable.{TypeTable}
use Rattle.type_entries.specs.Standard.{DW_TAG_unspecified_parameters, DW_AT_bit_size, DW_AT_prototyped, DW_AT_count, DW_AT_declaration}
use Rattle.type_entries.specs.Standard.{DW_AT_data_bit_offset, DW_AT_data_member_location, DW_AT_const_value}
use Rattle.type_entries.specs.Entries.{at, entry, name_attribute, type_attribute, is_whole, variable_type, item_of, place_attributes, value_of}
use Rattle.type_entries.specs.Entries.{is_told, member_item, enumerator_item, subrange_item, parameter_item, shape_items}
use Rattle.type_entries.specs.Types.{items_from, unknown_item}

-- ---- what is true of each element, by recursion

pub each_append : {X : Type 0} (P : X → Type 0) (xs ys : List X) → AllByRecursion P xs → AllByRecursion P ys → AllByRecursion P (xs ++ ys)
each_append P [] ys first second = second
each_append P (x ∷ xs) ys first second = (first.0, each_append P xs ys first.1 second)

pub each_map : {X Y : Type 0} (P : Y → Type 0) (f : X → Y) (xs : List X) → ((x : X) → P (f x)) → AllByRecursion P (map f xs)
each_map P f [] is = tt
each_map P f (x ∷ xs) is = (is x, each_map P f xs is)

module _ (count : ℕ) (t : TypeTable) (placed : (n : ℕ) → is_marked t.stands.items n ≡ true → item_of t n < count) (unknown : t.unknown < count) where
  named : (name : List ℕ) → AllByRecursion (AttributeRefersBelow count) (name_attribute name)
  named [] = tt
  named (b ∷ name) = (tt, tt)

  typed : (o : Option ℕ) → AllByRecursion (AttributeRefersBelow count) (type_attribute t o)
  typed None = tt
  typed (Some n) = by_mark (is_marked t.stands.items n) refl
    where
      by_mark : (z : Bool) → is_marked t.stands.items n ≡ z
          → AllByRecursion (AttributeRefersBelow count) (cond z (at DW_AT_type (Reference (item_of t n)) ∷ []) [])
      by_mark true e = (placed n e, tt)
      by_mark false e = tt

  pub variable_refers : (o : Option ℕ) → RefersBelow count (variable_type t o)
  variable_refers None = unknown
  variable_refers (Some n) = by_case (is_marked t.stands.items n) (is_whole (size_at t.sizes.items n)) refl
    where
      by_case : (z w : Bool) → is_marked t.stands.items n ≡ z → RefersBelow count (cond (z && w) (Reference (item_of t n)) (Reference t.unknown))
      by_case true true e = placed n e
      by_case true false e = unknown
      by_case false w e = unknown

  -- ---- items

  own : (attributes : List Attribute) → AllByRecursion (AttributeRefersBelow count) attributes → All (AttributeRefersBelow count) attributes
  own attributes each = All-from_recursion (AttributeRefersBelow count) attributes each

  closed : (inside : List TreeItem) → AllByRecursion (ItemRefersBelow count) inside → AllByRecursion (ItemRefersBelow count) (inside ++ Null ∷ [])
  closed inside each = each_append (ItemRefersBelow count) inside (Null ∷ []) each (tt, tt)

  place : (m : Member) → AllByRecursion (AttributeRefersBelow count) (place_attributes m)
  place m = by_case m.bit_field
    where
      by_case : (z : Bool) → AllByRecursion (AttributeRefersBelow count) (cond z (at DW_AT_bit_size (Unsigned m.size)
          ∷ at DW_AT_data_bit_offset (Unsigned m.offset) ∷ []) (at DW_AT_data_member_location (Unsigned (m.offset / 8)) ∷ []))
      by_case true = (tt, (tt, tt))
      by_case false = (tt, tt)

  member_refers : (m : Member) → ItemRefersBelow count (member_item t m)
  member_refers m =
      own (name_attribute m.name ++ type_attribute t (Some m.base) ++ place_attributes m)
      (each_append (AttributeRefersBelow count) (name_attribute m.name ++ type_attribute t (Some m.base)) (place_attributes m)
      (each_append (AttributeRefersBelow count) (name_attribute m.name) (type_attribute t (Some m.base)) (named m.name) (typed (Some m.base))) (place m))

  enumerator_refers : (e : Enumerator) → ItemRefersBelow count (enumerator_item e)
  enumerator_refers e =
      own (at DW_AT_name (Text e.name) ∷ at DW_AT_const_value (value_of e.value e.negative) ∷ []) (tt, (value e.value e.negative, tt))
    where
      value : (n : ℕ) (negative : Option ℤ) → RefersBelow count (value_of n negative)
      value n None = tt
      value n (Some v) = tt

  subrange_refers : (o : Option ℕ) → ItemRefersBelow count (subrange_item o)
  subrange_refers None = own [] tt
  subrange_refers (Some n) = own (at DW_AT_count (Unsigned n) ∷ []) (tt, tt)

  parameter_refers : (n : ℕ) → ItemRefersBelow count (parameter_item t n)
  parameter_refers n = own (at DW_AT_type (variable_type t (Some n)) ∷ []) (variable_refers (Some n), tt)

  more_refers : (more : Bool) → AllByRecursion (ItemRefersBelow count) (cond more (entry DW_TAG_unspecified_parameters false [] ∷ []) [])
  more_refers true = (own [] tt, tt)
  more_refers false = tt

  shape_refers : (s : Shape) → AllByRecursion (ItemRefersBelow count) (shape_items t s)
  shape_refers (Base name size encoding) =
      (own (at DW_AT_name (Text name) ∷ at DW_AT_byte_size (Data1 size) ∷ at DW_AT_encoding (Data1 encoding) ∷ []) (tt, (tt, (tt, tt))), tt)
  shape_refers (Pointer tag to) = (own (at DW_AT_byte_size (Data1 8) ∷ type_attribute t to) (tt, typed to), tt)
  shape_refers (Qualifier tag to) = (own (type_attribute t to) (typed to), tt)
  shape_refers (Typedef name to) = (
    own (name_attribute name ++ type_attribute t to)
        (each_append (AttributeRefersBelow count) (name_attribute name) (type_attribute t to) (named name) (typed to)),
    tt,
  )
  shape_refers (Declaration tag name) = (
    own (name_attribute name ++ at DW_AT_declaration Present ∷ [])
        (each_append (AttributeRefersBelow count) (name_attribute name) (at DW_AT_declaration Present ∷ []) (named name) (tt, tt)),
    tt,
  )
  shape_refers (Record tag name size members) = (
    own (name_attribute name ++ at DW_AT_byte_size (Unsigned size) ∷ [])
        (each_append (AttributeRefersBelow count) (name_attribute name) (at DW_AT_byte_size (Unsigned size) ∷ []) (named name) (tt, tt)),
    closed (map (member_item t) (filter (is_told t size) members))
        (each_map (ItemRefersBelow count) (member_item t) (filter (is_told t size) members) member_refers),
  )
  shape_refers (Enumeration name size to enumerators) = (
    own (name_attribute name ++ at DW_AT_byte_size (Unsigned size) ∷ type_attribute t to)
        (each_append (AttributeRefersBelow count) (name_attribute name) (at DW_AT_byte_size (Unsigned size) ∷ type_attribute t to) (named name)
        (tt, typed to)),
    closed (map enumerator_item enumerators) (each_map (ItemRefersBelow count) enumerator_item enumerators enumerator_refers),
  )
  shape_refers (Array to counts) = (
    own (type_attribute t (Some to)) (typed (Some to)),
    closed (map subrange_item counts) (each_map (ItemRefersBelow count) subrange_item counts subrange_refers),
  )
  shape_refers (Subroutine result parameters more) = (
    own (at DW_AT_prototyped (Flag true) ∷ type_attribute t result) (tt, typed result),
    closed (map (parameter_item t) parameters ++ cond more (entry DW_TAG_unspecified_parameters false [] ∷ []) [])
        (each_append (ItemRefersBelow count) (map (parameter_item t) parameters) (cond more (entry DW_TAG_unspecified_parameters false [] ∷ []) [])
        (each_map (ItemRefersBelow count) (parameter_item t) parameters parameter_refers) (more_refers more)),
  )

  pub types_refer : (n : ℕ) (types : List Shape) → AllByRecursion (ItemRefersBelow count) (items_from t n types)
  types_refer n [] = tt
  types_refer n (s ∷ types) =
      each_append (ItemRefersBelow count) (cond (is_marked t.stands.items n) (shape_items t s) []) (items_from t (suc n) types)
      (by_mark (is_marked t.stands.items n)) (types_refer (suc n) types)
    where
      by_mark : (z : Bool) → AllByRecursion (ItemRefersBelow count) (cond z (shape_items t s) [])
      by_mark true = shape_refers s
      by_mark false = tt

  pub unknown_refers : ItemRefersBelow count unknown_item
  unknown_refers =
      own (at DW_AT_name (Text (codes "unknown")) ∷ at DW_AT_byte_size (Data1 8) ∷ at DW_AT_encoding (Data1 7) ∷ []) (tt, (tt, (tt, tt)))
