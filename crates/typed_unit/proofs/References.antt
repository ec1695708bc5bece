-- The references of a unit's tree are to its items.
use Rattle.std.proofs.Common.{◌≡◌, ℕ, ◌+◌, ◌<◌, Bool, true, false, cond, Option, Some, None, List, [], ◌∷◌, ◌++◌, length, map, arith, subst, refl, sym}
use Rattle.std.proofs.Common.{length-append, ltb-true}
use Rattle.std.specs.Prelude.{All, codes, nat_lt}
use Rattle.std.specs.List.{flat_map, AllByRecursion}
use Rattle.std.proofs.lemmas.List.Elements.{All-from_recursion}
use Rattle.dwarf_info.specs.Standard.{DW_AT_name, DW_AT_type, DW_AT_stmt_list, DW_AT_low_pc, DW_AT_high_pc, DW_AT_language, DW_AT_comp_dir, DW_AT_inline}
use Rattle.dwarf_info.specs.Standard.{DW_AT_abstract_origin, DW_AT_ranges, DW_AT_call_file, DW_AT_call_line, DW_AT_call_column, DW_AT_loclists_base}
use Rattle.dwarf_info.specs.Standard.{DW_INL_inlined, LOCLISTS_BASE}
use Rattle.dwarf_entry.specs.declared.tree.Value.TheVariants.{Address, Data1, Data2, Data4, Unsigned, Text, Reference, SectionOffset, RangeList, Flag}
use Rattle.dwarf_entry.specs.declared.tree.Attribute.{Attribute}
use Rattle.dwarf_entry.specs.declared.tree.TreeItem.{TreeItem}
use Rattle.dwarf_entry.specs.declared.tree.TreeItem.TheVariants.{Null}
use Rattle.dwarf_entry.specs.Entries.{AttributeRefersBelow, ItemRefersBelow, RefersWithin}
use Rattle.graph_cycles.specs.Ends.{is_marked}
use Rattle.type_nodes.specs.declared.shape.Shape.{Shape}
use Rattle.type_entries.specs.declared.table.TypeTable.{TypeTable}
use Rattle.type_entries.specs.Standard.{DW_AT_prototyped}
use Rattle.type_entries.specs.Entries.{at, item_of, variable_type}
use Rattle.type_entries.specs.Types.{items_from}
use Rattle.type_entries.proofs.Places.{placed_within}
use Rattle.type_entries.proofs.References.{each_append, each_map, variable_refers, types_refer, unknown_refers}
use Rattle.typed_unit.specs.declared.content.Declared.{Declared}
use Rattle.typed_unit.specs.declared.content.Subprogram.{Subprogram}
use Rattle.typed_unit.specs.declared.content.TypedVariable.{TypedVariable}
use Rattle.typed_unit.specs.declared.content.Inner.{Inner}
use Rattle.typed_unit.specs.declared.content.Inner.TheVariants as inner
use Rattle.typed_unit.specs.declared.content.TypedFunction.{TypedFunction}
use Rattle.typed_unit.specs.declared.content.TypedUnit.{TypedUnit}
use Rattle.typed_unit.specs.Standard.{DW_AT_producer, DW_AT_external}
use Rattle.typed_unit.specs.Entries.{declared_attributes, linkage_attribute, result_type, result_attribute, description, abstract_item, list_attribute}
use Rattle.typed_unit.specs.Entries.{variable_item, origin_attribute, inner_item, frame_attribute, function_items}
use Rattle.typed_unit.specs.Unit.{ranges_attribute, unit_item, unknown_items, uses_unknown, head_items, with_types, with_abstracts, unit_tree}
use Rattle.typed_unit.specs.Unit.{IsTypedTree}

module _ (count : ℕ) (t : TypeTable) (placed : (n : ℕ) → is_marked t.stands.items n ≡ true → item_of t n < count) (unknown : t.unknown < count) where
  both : (a b : List Attribute) → AllByRecursion (AttributeRefersBelow count) a → AllByRecursion (AttributeRefersBelow count) b
      → AllByRecursion (AttributeRefersBelow count) (a ++ b)
  both a b first second = each_append (AttributeRefersBelow count) a b first second

  own : (attributes : List Attribute) → AllByRecursion (AttributeRefersBelow count) attributes → All (AttributeRefersBelow count) attributes
  own attributes each = All-from_recursion (AttributeRefersBelow count) attributes each

  declared : (d : Option Declared) → AllByRecursion (AttributeRefersBelow count) (declared_attributes d)
  declared None = tt
  declared (Some d) = (tt, (tt, tt))

  linked : (name : List ℕ) → AllByRecursion (AttributeRefersBelow count) (linkage_attribute name)
  linked [] = tt
  linked (b ∷ name) = (tt, tt)

  result : (o : Option ℕ) → AllByRecursion (AttributeRefersBelow count) (result_attribute t o)
  result None = tt
  result (Some n) = (variable_refers count t placed unknown (Some n), tt)

  described : (s : Subprogram) → AllByRecursion (AttributeRefersBelow count) (description t s)
  described s = (
    tt,
    both (linkage_attribute s.linkage_name ++ declared_attributes s.declared)
        (at DW_AT_external (Flag s.external) ∷ at DW_AT_prototyped (Flag s.prototyped)
        ∷ result_attribute t (result_type t.types t.stands.items s.signature))
        (both (linkage_attribute s.linkage_name) (declared_attributes s.declared) (linked s.linkage_name) (declared s.declared))
        (tt, (tt, result (result_type t.types t.stands.items s.signature))),
  )

  abstract_refers : (s : Subprogram) → ItemRefersBelow count (abstract_item t s)
  abstract_refers s =
      own (description t s ++ at DW_AT_inline (Data1 DW_INL_inlined) ∷ [])
      (both (description t s) (at DW_AT_inline (Data1 DW_INL_inlined) ∷ []) (described s) (tt, tt))

  listed : (o : Option ℕ) → AllByRecursion (AttributeRefersBelow count) (list_attribute o)
  listed None = tt
  listed (Some list) = (tt, tt)

  variable_item_refers : (v : TypedVariable) → ItemRefersBelow count (variable_item t v)
  variable_item_refers v =
      own (at DW_AT_name (Text v.name) ∷ (declared_attributes v.declared ++ at DW_AT_type (variable_type t v.base) ∷ list_attribute v.list)) (
        tt,
        both (declared_attributes v.declared) (at DW_AT_type (variable_type t v.base) ∷ list_attribute v.list) (declared v.declared)
            (variable_refers count t placed unknown v.base, listed v.list),
      )

  module _ (begin last : ℕ) (inside : last < count) where
    origin : (k : ℕ) → AllByRecursion (AttributeRefersBelow count) (origin_attribute begin last k)
    origin k = by_case (nat_lt (begin + k) last) refl
      where
        below : begin + k < last → begin + k < count
        below less = omega (arith, inside, less)

        by_case : (z : Bool) → nat_lt (begin + k) last ≡ z
            → AllByRecursion (AttributeRefersBelow count) (cond z (at DW_AT_abstract_origin (Reference (begin + k)) ∷ []) [])
        by_case true e = (below (ltb-true (begin + k) last e), tt)
        by_case false e = tt

    inner_refers : (i : Inner) → ItemRefersBelow count (inner_item t begin last i)
    inner_refers (inner.Variable v) = variable_item_refers v
    inner_refers (inner.Block list) = own (at DW_AT_ranges (RangeList list) ∷ []) (tt, tt)
    inner_refers (inner.Inlined c) =
        let rest : List Attribute =
        at DW_AT_ranges (RangeList c.list) ∷ at DW_AT_call_file (Unsigned c.file) ∷ at DW_AT_call_line (Unsigned c.line)
        ∷ at DW_AT_call_column (Unsigned c.column) ∷ [] in
        own (origin_attribute begin last c.origin ++ rest)
        (both (origin_attribute begin last c.origin) rest (origin c.origin) (tt, (tt, (tt, (tt, tt)))))
    inner_refers inner.End = tt

    frame : (told : Bool) → AllByRecursion (AttributeRefersBelow count) (frame_attribute told)
    frame false = tt
    frame true = (tt, tt)

    function_refers : (frame_base : Bool) (f : TypedFunction) → AllByRecursion (ItemRefersBelow count) (function_items t begin last frame_base f)
    function_refers frame_base f =
        let rest : List Attribute = at DW_AT_low_pc (Address f.lo) ∷ at DW_AT_high_pc (Data4 f.len) ∷ frame_attribute frame_base in (
          own (description t f.subprogram ++ rest) (both (description t f.subprogram) rest (described f.subprogram) (tt, (tt, frame frame_base))),
          each_append (ItemRefersBelow count) (map (inner_item t begin last) f.inside) (Null ∷ [])
              (each_map (ItemRefersBelow count) (inner_item t begin last) f.inside inner_refers) (tt, tt),
        )

    functions_refer : (frame_base : Bool) (fs : List TypedFunction)
        → AllByRecursion (ItemRefersBelow count) (flat_map (function_items t begin last frame_base) fs)
    functions_refer frame_base [] = tt
    functions_refer frame_base (f ∷ fs) =
        each_append (ItemRefersBelow count) (function_items t begin last frame_base f) (flat_map (function_items t begin last frame_base) fs)
        (function_refers frame_base f) (functions_refer frame_base fs)

  ranged : (ranges : Bool) → AllByRecursion (AttributeRefersBelow count) (ranges_attribute ranges)
  ranged false = tt
  ranged true = (tt, tt)

  unit_refers : (u : TypedUnit) → ItemRefersBelow count (unit_item u)
  unit_refers u =
      own (at DW_AT_producer (Text (codes "mirdwarf")) ∷ at DW_AT_language (Data2 u.language) ∷ at DW_AT_name (Text u.name)
      ∷ at DW_AT_comp_dir (Text u.dir) ∷ at DW_AT_stmt_list (SectionOffset 0) ∷ at DW_AT_low_pc (Address 0) ∷ at DW_AT_high_pc (Data4 u.text_len)
      ∷ at DW_AT_loclists_base (SectionOffset LOCLISTS_BASE) ∷ ranges_attribute u.ranges)
      (tt, (tt, (tt, (tt, (tt, (tt, (tt, (tt, ranged u.ranges))))))))

  head_refers : (u : TypedUnit) → AllByRecursion (ItemRefersBelow count) (head_items t u)
  head_refers u = (unit_refers u, used (uses_unknown t u))
    where
      used : (z : Bool) → AllByRecursion (ItemRefersBelow count) (unknown_items z)
      used true = (unknown_refers count t placed unknown, tt)
      used false = tt

  pub tree_refers : (u : TypedUnit) → length (with_abstracts t u (head_items t u)) < count → AllByRecursion (ItemRefersBelow count) (unit_tree t u)
  tree_refers u inside =
      let begin : ℕ = length (with_types t (head_items t u)) in
      let last : ℕ = length (with_abstracts t u (head_items t u)) in
      let functions : List TreeItem = flat_map (function_items t begin last u.frame_base) u.functions in
      each_append (ItemRefersBelow count) (with_abstracts t u (head_items t u) ++ functions) (Null ∷ [])
      (each_append (ItemRefersBelow count) (with_abstracts t u (head_items t u)) functions
      (each_append (ItemRefersBelow count) (with_types t (head_items t u)) (map (abstract_item t) u.abstracts)
      (each_append (ItemRefersBelow count) (head_items t u) (items_from t 0 t.types) (head_refers u) (types_refer count t placed unknown 0 t.types))
      (each_map (ItemRefersBelow count) (abstract_item t) u.abstracts abstract_refers))
      (functions_refer begin last inside u.frame_base u.functions)) (tt, tt)

-- the references of a unit's tree are to its items
pub refers_within : (shapes : List Shape) (u : TypedUnit) (tree : List TreeItem) → IsTypedTree shapes u tree → RefersWithin tree
refers_within shapes u tree is =
    let t : TypeTable = is.table in
    let types : List TreeItem = items_from t 0 t.types in
    let abstracts : List TreeItem = map (abstract_item t) u.abstracts in
    let functions : List TreeItem =
    flat_map (function_items t (length (with_types t (head_items t u))) (length (with_abstracts t u (head_items t u))) u.frame_base) u.functions in
    let all : length (unit_tree t u) ≡ length (with_abstracts t u (head_items t u)) + length functions + 1 = omega (
      arith,
      length-append (with_abstracts t u (head_items t u) ++ functions) (Null ∷ []),
      length-append (with_abstracts t u (head_items t u)) functions,
    ) in
    let front : length (with_abstracts t u (head_items t u)) ≡ length (head_items t u) + length types + length abstracts = omega (
      arith,
      length-append (with_types t (head_items t u)) abstracts,
      length-append (head_items t u) types,
    ) in
    let placed : (n : ℕ) → is_marked t.stands.items n ≡ true → item_of t n < length (unit_tree t u) =
    λ n marked. omega (arith, all, front, placed_within (length (head_items t u)) t n is.is marked) in
    let unknown : t.unknown < length (unit_tree t u) = omega (arith, all, front, is.unknown, some (uses_unknown t u)) in
    let inside : length (with_abstracts t u (head_items t u)) < length (unit_tree t u) = omega (arith, all) in
    subst RefersWithin (sym is.items)
    (All-from_recursion (ItemRefersBelow (length (unit_tree t u))) (unit_tree t u) (tree_refers (length (unit_tree t u)) t placed unknown u inside))
  where
    some : (z : Bool) → 0 < length (unit_item u ∷ unknown_items z)
    some z = omega arith
