-- The entries of types are where references to them lead.
use Rattle.std.proofs.Common.{◌≡◌, ℕ, zero, suc, ◌+◌, Bool, true, false, ◌||◌, not, List, [], ◌∷◌, ◌++◌, length, drop, map, Option, Some}
use Rattle.std.proofs.Common.{refl, sym, ap, ◌∙◌, subst, inl, inr, arith, length-append}
use Rattle.std.specs.Prelude.{Contains}
use Rattle.std.specs.List.{flat_map, list_any, slice_get}
use Rattle.std.proofs.lemmas.List.{append_assoc, drop_at}
use Rattle.std.proofs.lemmas.List.Elements.{Contains-append_cases}
use Rattle.dwarf_entry.specs.declared.tree.TreeItem.{TreeItem}
use Rattle.dwarf_entry.specs.declared.tree.TreeItem.TheVariants.{Null}
use Rattle.std.proofs.lemmas.Bool.{false≢true}
use Rattle.type_nodes.specs.declared.shape.Shape.{Shape}
use Rattle.type_nodes.specs.Standing.{Stands}
use Rattle.type_entries.specs.declared.table.TypeTable.{TypeTable}
use Rattle.type_entries.specs.Entries.{item_of, is_known, shape_items}
use Rattle.type_entries.specs.Types.{items_from, types_name_unknown, unknown_item}
use Rattle.type_entries.proofs.Places.{type_at}
use Rattle.typed_unit.specs.declared.content.Inner.TheVariants.{Variable}
use Rattle.typed_unit.specs.declared.content.TypedVariable.{TypedVariable}
use Rattle.typed_unit.specs.declared.content.TypedFunction.{TypedFunction}
use Rattle.typed_unit.specs.declared.content.TypedUnit.{TypedUnit}
use Rattle.typed_unit.specs.Entries.{abstract_item, function_items}
use Rattle.typed_unit.specs.Unknown.{subprogram_names_unknown, inner_names_unknown, function_names_unknown}
use Rattle.typed_unit.specs.Unit.{unit_item, unknown_items, uses_unknown, head_items, with_types, with_abstracts, unit_tree}
use Rattle.typed_unit.specs.Unit.{IsTypedTree}

module _ (t : TypeTable) (u : TypedUnit) where
  abbrev functions : List TreeItem
  functions =
      flat_map (function_items t (length (with_types t (head_items t u))) (length (with_abstracts t u (head_items t u))) u.frame_base) u.functions

  -- what stands behind the types
  abbrev behind : List TreeItem
  behind = map (abstract_item t) u.abstracts ++ (functions ++ Null ∷ [])

  grouped : unit_tree t u ≡ head_items t u ++ (items_from t 0 t.types ++ behind)
  grouped =
      append_assoc (with_abstracts t u (head_items t u)) functions (Null ∷ [])
      ∙ append_assoc (with_types t (head_items t u)) (map (abstract_item t) u.abstracts) (functions ++ Null ∷ [])
      ∙ append_assoc (head_items t u) (items_from t 0 t.types) behind

-- what a reference to a type that stands leads to is the type's own entry
pub told : (shapes : List Shape) (u : TypedUnit) (tree : List TreeItem) (is : IsTypedTree shapes u tree) (n : ℕ) (s : Shape)
    → slice_get shapes n ≡ Some s → Stands shapes n → (rest : List TreeItem) × (drop (item_of is.table n) tree ≡ shape_items is.table s ++ rest)
told shapes u tree is n s here stands =
    let t : TypeTable = is.table in
    let head : List TreeItem = head_items t u in
    let own : slice_get t.types n ≡ Some s = ap (λ (types : List Shape). slice_get types n) is.types ∙ here in
    let at = type_at (length head) t n s is.is own (subst (λ (types : List Shape). Stands types n) (sym is.types) stands) in
    let rest : List TreeItem = at.1 ++ behind t u in
    let all : tree ≡ (head ++ at.0) ++ (shape_items t s ++ rest) =
    is.items ∙ grouped t u ∙ ap (λ (items : List TreeItem). head ++ (items ++ behind t u)) at.3
    ∙ ap (λ (items : List TreeItem). head ++ items) (append_assoc at.0 (shape_items t s ++ at.1) (behind t u))
    ∙ ap (λ (items : List TreeItem). head ++ (at.0 ++ items)) (append_assoc (shape_items t s) at.1 (behind t u))
    ∙ sym (append_assoc head at.0 (shape_items t s ++ rest)) in
    let place : item_of t n ≡ length (head ++ at.0) = at.2 ∙ sym (length-append head at.0) in (
      rest,
      ap (λ (k : ℕ). drop k tree) place ∙ ap (drop (length (head ++ at.0))) all
          ∙ drop_at (head ++ at.0) (shape_items t s ++ rest) (length (head ++ at.0)) refl,
    )

-- ---- the unknown type

or_right : (a b : Bool) → b ≡ true → (a || b) ≡ true
or_right true b is = refl
or_right false b is = is

any_in : {X : Type 0} (p : X → Bool) (xs : List X) (x : X) → Contains xs x → p x ≡ true → list_any p xs ≡ true
any_in p [] x (k, less, same) is = absurd (omega (arith, less))
any_in {X} p (y ∷ ys) x held is = elim (Contains-append_cases (y ∷ []) ys x held) [
  | inl own ↦ first (p y) (ap p (only own) ∙ is)
  | inr more ↦ or_right (p y) (list_any p ys) (any_in p ys x more is)
]
  where
    only : Contains (y ∷ []) x → y ≡ x
    only (zero, less, same) = same
    only (suc k, less, same) = absurd (omega (arith, less))

    first : (z : Bool) → z ≡ true → (z || list_any p ys) ≡ true
    first true e = refl
    first false e = absurd (false≢true e)

-- where a variable's own type can't be told, what is told in its place is there
pub unknown_there : (shapes : List Shape) (u : TypedUnit) (tree : List TreeItem) (is : IsTypedTree shapes u tree) (f : TypedFunction) (v : TypedVariable)
    → Contains u.functions f → Contains f.inside (Variable v) → is_known is.table.stands.items is.table.sizes.items v.base ≡ false
    → (rest : List TreeItem) × (drop is.table.unknown tree ≡ unknown_item ∷ rest)
unknown_there shapes u tree is f v function variable out =
    let t : TypeTable = is.table in
    let stands : List Bool = t.stands.items in
    let sizes : List (Option ℕ) = t.sizes.items in
    let inside : list_any (inner_names_unknown stands sizes) f.inside ≡ true =
    any_in (inner_names_unknown stands sizes) f.inside (Variable v) variable (ap not out) in
    let own : function_names_unknown t.types stands sizes f ≡ true =
    or_right (subprogram_names_unknown t.types stands sizes f.subprogram) (list_any (inner_names_unknown stands sizes) f.inside) inside in
    let some : list_any (function_names_unknown t.types stands sizes) u.functions ≡ true =
    any_in (function_names_unknown t.types stands sizes) u.functions f function own in
    let used : uses_unknown t u ≡ true =
    or_right (types_name_unknown stands sizes 0 t.types)
    (list_any (subprogram_names_unknown t.types stands sizes) u.abstracts || list_any (function_names_unknown t.types stands sizes) u.functions)
    (or_right (list_any (subprogram_names_unknown t.types stands sizes) u.abstracts)
    (list_any (function_names_unknown t.types stands sizes) u.functions) some) in
    let rest : List TreeItem = items_from t 0 t.types ++ behind t u in
    let all : tree ≡ unit_item u ∷ unknown_item ∷ rest =
    is.items ∙ grouped t u ∙ ap (λ (z : Bool). (unit_item u ∷ unknown_items z) ++ rest) used in
    (rest, ap (λ (k : ℕ). drop k tree) is.unknown ∙ ap (drop 1) all)
