-- Each parameter and each variable of a unit's tree has a type.
use Rattle.std.proofs.Common.{◌≡◌, ℕ, suc, Bool, true, false, cond, Option, Some, None, List, [], ◌∷◌, ◌++◌, length, map, filter, refl, sym, ◌∙◌, subst}
use Rattle.std.specs.Prelude.{All}
use Rattle.std.specs.List.{flat_map, AllByRecursion}
use Rattle.std.proofs.lemmas.Bool.{false≢true}
use Rattle.std.proofs.lemmas.List.Elements.{All-from_recursion, All-head, All-tail}
use Rattle.dwarf_info.specs.Standard.{DW_AT_type}
use Rattle.dwarf_entry.specs.declared.tree.Value.{Value}
use Rattle.dwarf_entry.specs.declared.tree.Attribute.{Attribute}
use Rattle.dwarf_entry.specs.declared.tree.TreeItem.{TreeItem}
use Rattle.dwarf_entry.specs.declared.tree.TreeItem.TheVariants.{Null}
use Rattle.graph_cycles.specs.Ends.{is_marked}
use Rattle.type_nodes.specs.declared.shape.Member.{Member}
use Rattle.type_nodes.specs.declared.shape.Enumerator.{Enumerator}
use Rattle.type_nodes.specs.declared.shape.Shape.{Shape}
use Rattle.type_nodes.specs.declared.shape.Shape.TheVariants.{Base, Pointer, Qualifier, Typedef, Declaration, Record, Enumeration, Array, Subroutine}
use Rattle.type_entries.specs.declared.table.TypeTable.{TypeTable}
use Rattle.type_entries.specs.Standard.{DW_TAG_unspecified_parameters}
use Rattle.type_entries.specs.Entries.{at, entry, is_told, variable_type, member_item, enumerator_item, subrange_item, parameter_item, shape_items}
use Rattle.type_entries.specs.Types.{items_from}
use Rattle.type_entries.proofs.References.{each_append, each_map}
use Rattle.typed_unit.specs.declared.content.Declared.{Declared}
use Rattle.typed_unit.specs.declared.content.Subprogram.{Subprogram}
use Rattle.typed_unit.specs.declared.content.TypedVariable.{TypedVariable}
use Rattle.typed_unit.specs.declared.content.Inner.{Inner}
use Rattle.typed_unit.specs.declared.content.Inner.TheVariants as inner
use Rattle.typed_unit.specs.declared.content.TypedFunction.{TypedFunction}
use Rattle.typed_unit.specs.declared.content.TypedUnit.{TypedUnit}
use Rattle.typed_unit.specs.Entries.{declared_attributes, list_attribute, abstract_item, variable_item, inner_item, function_items}
use Rattle.typed_unit.specs.Unit.{unknown_items, uses_unknown, head_items, with_types, with_abstracts, unit_tree, IsTypedTree}
use Rattle.typed_unit.specs.Typed.{is_variable_tag, has_attribute, HasType, HasTypeTag}

-- what has another tag is neither a parameter nor a variable
other : {A : Type 0} → false ≡ true → A
other is = absurd (false≢true is)

tagged : {A : Type 0} (z : Bool) → z ≡ false → z ≡ true → A
tagged z is variable = absurd (false≢true (sym is ∙ variable))

closed : (inside : List TreeItem) → AllByRecursion HasType inside → AllByRecursion HasType (inside ++ Null ∷ [])
closed inside each = each_append HasType inside (Null ∷ []) each (tt, tt)

module _ (t : TypeTable) where
  member_typed : (m : Member) → HasType (member_item t m)
  member_typed m = λ is. other is

  enumerator_typed : (e : Enumerator) → HasType (enumerator_item e)
  enumerator_typed e = λ is. other is

  subrange_typed : (o : Option ℕ) → HasType (subrange_item o)
  subrange_typed None = λ is. other is
  subrange_typed (Some n) = λ is. other is

  parameter_typed : (n : ℕ) → HasType (parameter_item t n)
  parameter_typed n = λ is. refl

  more_typed : (more : Bool) → AllByRecursion HasType (cond more (entry DW_TAG_unspecified_parameters false [] ∷ []) [])
  more_typed true = ((λ is. other is), tt)
  more_typed false = tt

  shape_typed : (s : Shape) → HasTypeTag s → AllByRecursion HasType (shape_items t s)
  shape_typed (Base name size encoding) tag_is = ((λ is. other is), tt)
  shape_typed (Pointer tag to) tag_is = ((λ is. tagged (is_variable_tag tag) tag_is is), tt)
  shape_typed (Qualifier tag to) tag_is = ((λ is. tagged (is_variable_tag tag) tag_is is), tt)
  shape_typed (Typedef name to) tag_is = ((λ is. other is), tt)
  shape_typed (Declaration tag name) tag_is = ((λ is. tagged (is_variable_tag tag) tag_is is), tt)
  shape_typed (Record tag name size members) tag_is = (
    (λ is. tagged (is_variable_tag tag) tag_is is),
    closed (map (member_item t) (filter (is_told t size) members)) (each_map HasType (member_item t) (filter (is_told t size) members) member_typed),
  )
  shape_typed (Enumeration name size to enumerators) tag_is = (
    (λ is. other is),
    closed (map enumerator_item enumerators) (each_map HasType enumerator_item enumerators enumerator_typed),
  )
  shape_typed (Array to counts) tag_is = ((λ is. other is), closed (map subrange_item counts) (each_map HasType subrange_item counts subrange_typed))
  shape_typed (Subroutine result parameters more) tag_is = (
    (λ is. other is),
    closed (map (parameter_item t) parameters ++ cond more (entry DW_TAG_unspecified_parameters false [] ∷ []) [])
        (each_append HasType (map (parameter_item t) parameters) (cond more (entry DW_TAG_unspecified_parameters false [] ∷ []) [])
        (each_map HasType (parameter_item t) parameters parameter_typed) (more_typed more)),
  )

  types_typed : (n : ℕ) (types : List Shape) → All HasTypeTag types → AllByRecursion HasType (items_from t n types)
  types_typed n [] tags = tt
  types_typed n (s ∷ types) tags =
      each_append HasType (cond (is_marked t.stands.items n) (shape_items t s) []) (items_from t (suc n) types) (by_mark (is_marked t.stands.items n))
      (types_typed (suc n) types (All-tail HasTypeTag s types tags))
    where
      by_mark : (z : Bool) → AllByRecursion HasType (cond z (shape_items t s) [])
      by_mark true = shape_typed s (All-head HasTypeTag s types tags)
      by_mark false = tt

  -- ---- functions and variables

  has_type : (d : Option Declared) (type : Value) (rest : List Attribute)
      → has_attribute DW_AT_type (declared_attributes d ++ at DW_AT_type type ∷ rest) ≡ true
  has_type None type rest = refl
  has_type (Some d) type rest = refl

  variable_typed : (v : TypedVariable) → HasType (variable_item t v)
  variable_typed v = λ is. has_type v.declared (variable_type t v.base) (list_attribute v.list)

  inner_typed : (begin last : ℕ) (i : Inner) → HasType (inner_item t begin last i)
  inner_typed begin last (inner.Variable v) = variable_typed v
  inner_typed begin last (inner.Block list) = λ is. other is
  inner_typed begin last (inner.Inlined c) = λ is. other is
  inner_typed begin last inner.End = tt

  function_typed : (begin last : ℕ) (frame_base : Bool) (f : TypedFunction) → AllByRecursion HasType (function_items t begin last frame_base f)
  function_typed begin last frame_base f = (
    (λ is. other is),
    closed (map (inner_item t begin last) f.inside) (each_map HasType (inner_item t begin last) f.inside (inner_typed begin last)),
  )

  functions_typed : (begin last : ℕ) (frame_base : Bool) (fs : List TypedFunction)
      → AllByRecursion HasType (flat_map (function_items t begin last frame_base) fs)
  functions_typed begin last frame_base [] = tt
  functions_typed begin last frame_base (f ∷ fs) =
      each_append HasType (function_items t begin last frame_base f) (flat_map (function_items t begin last frame_base) fs)
      (function_typed begin last frame_base f) (functions_typed begin last frame_base fs)

  abstract_typed : (s : Subprogram) → HasType (abstract_item t s)
  abstract_typed s = λ is. other is

  head_typed : (u : TypedUnit) → AllByRecursion HasType (head_items t u)
  head_typed u = ((λ is. other is), used (uses_unknown t u))
    where
      used : (z : Bool) → AllByRecursion HasType (unknown_items z)
      used true = ((λ is. other is), tt)
      used false = tt

  tree_typed : (u : TypedUnit) → All HasTypeTag t.types → AllByRecursion HasType (unit_tree t u)
  tree_typed u tags =
      let begin : ℕ = length (with_types t (head_items t u)) in
      let last : ℕ = length (with_abstracts t u (head_items t u)) in
      let functions : List TreeItem = flat_map (function_items t begin last u.frame_base) u.functions in
      each_append HasType (with_abstracts t u (head_items t u) ++ functions) (Null ∷ [])
      (each_append HasType (with_abstracts t u (head_items t u)) functions
      (each_append HasType (with_types t (head_items t u)) (map (abstract_item t) u.abstracts)
      (each_append HasType (head_items t u) (items_from t 0 t.types) (head_typed u) (types_typed 0 t.types tags))
      (each_map HasType (abstract_item t) u.abstracts abstract_typed))
      (functions_typed begin last u.frame_base u.functions)) (tt, tt)

pub have_types : (shapes : List Shape) (u : TypedUnit) (tree : List TreeItem) → IsTypedTree shapes u tree → All HasTypeTag shapes → All HasType tree
have_types shapes u tree is tags =
    subst (All HasType) (sym is.items)
    (All-from_recursion HasType (unit_tree is.table u) (tree_typed is.table u (subst (All HasTypeTag) (sym is.types) tags)))
