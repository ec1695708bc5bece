-- The place of a type among the types.
use Rattle.std.proofs.Common.{Ordering, Less, Equal, Greater, ◌≡◌, ℕ, suc, ◌+◌, ◌<◌, Bool, true, false}
use Rattle.std.proofs.Common.{◌||◌, cond, eqb, List, [], ◌∷◌, map, filter, Option, Some, None, refl}
use Rattle.std.proofs.Common.{sym, ap, ◌∙◌, add-one, arith}
use Rattle.std.specs.Prelude.{is_some}
use Rattle.std.specs.List.{filter_map, cons_option, slice_get, list_any, AllByRecursion}
use Rattle.std.specs.Option.{option_and_then}
use Rattle.std.specs.Ordering.{nat_cmp, is_eq, eq_by_cmp, MatchOrdering}
use Rattle.std.specs.FinMap.{contains_key, contains_key-keys}
use Rattle.std.proofs.lemmas.Bool.{eqb-true, ne_eqb, eq-eqb}
use Rattle.std.proofs.lemmas.Cmp.{ranked}
use Rattle.type_nodes.specs.declared.shape.Shape.{Shape}
use Rattle.read_debug_nodes.specs.declared.node.DebugNode.{DebugNode}
use Rattle.read_debug_nodes.specs.Maps.{DebugMaps, numbers_of}
use Rattle.read_debug_nodes.specs.Metadata.{node_at}
use Rattle.read_types.specs.Indices.{index_in}
use Rattle.read_types.specs.Shapes.{shape_of, shape_at}
use Rattle.read_types.specs.Types.{is_type, type_nodes, types_of}
use Rattle.read_types.proofs.Independent.{each_is, all_types}

-- whether a number is among others
abbrev among : (n : ℕ) → List ℕ → Bool
among n ns = list_any (λ (k : ℕ). eqb k n) ns

module _ (h : ℕ → Option Shape) (n k : ℕ) (ns : List ℕ) (rest : among n ns ≡ true → slice_get (filter_map h ns) (index_in ns n) ≡ h n) where
  step : (o : Option Shape) → h k ≡ o → is_some o ≡ true → (b : Bool) → eqb k n ≡ b → (b || among n ns) ≡ true
      → slice_get (cons_option o (filter_map h ns)) (cond b 0 (index_in ns n + 1)) ≡ h n
  step None is e b same has = absurd cc
  step (Some s) is e true same has = sym is ∙ ap h (eqb-true k n same)
  step (Some s) is e false same has = ap (slice_get (s ∷ filter_map h ns)) (add-one (index_in ns n)) ∙ rest has

at_index : (h : ℕ → Option Shape) (n : ℕ) (ns : List ℕ) → AllByRecursion (λ (k : ℕ). is_some (h k) ≡ true) ns → among n ns ≡ true
    → slice_get (filter_map h ns) (index_in ns n) ≡ h n
at_index h n [] all has = absurd cc
at_index h n (k ∷ ns) all has = step h n k ns (at_index h n ns all.1) (h k) refl all.0 (eqb k n) refl has

-- what passes a test is among those that pass it
module _ (p : ℕ → Bool) (n k : ℕ) (ks : List ℕ) (pass : p n ≡ true) (rest : among n ks ≡ true → among n (filter p ks) ≡ true) where
  passing : (a b : Bool) → p k ≡ a → eqb k n ≡ b → (b || among n ks) ≡ true → among n (cond a (k ∷ filter p ks) (filter p ks)) ≡ true
  passing true true is same has = ap (λ (z : Bool). z || among n (filter p ks)) same
  passing true false is same has = ap (λ (z : Bool). z || among n (filter p ks)) same ∙ rest has
  passing false true is same has = let bad : p k ≡ true = ap p (eqb-true k n same) ∙ pass in absurd cc
  passing false false is same has = rest has

in_filter : (p : ℕ → Bool) (n : ℕ) (ks : List ℕ) → p n ≡ true → among n ks ≡ true → among n (filter p ks) ≡ true
in_filter p n [] pass has = has
in_filter p n (k ∷ ks) pass has = passing p n k ks pass (in_filter p n ks pass) (p k) (eqb k n) refl refl has

by_order : (n k : ℕ) (o : Ordering) → MatchOrdering o (n < k) (n ≡ k) (k < n) → is_eq o ≡ eqb k n
by_order n k Less lt = sym (ne_eqb k n (λ e. omega (arith, lt, e)))
by_order n k Equal e = sym (eq-eqb k n (sym e))
by_order n k Greater gt = sym (ne_eqb k n (λ e. omega (arith, gt, e)))

same_among : (n : ℕ) (ks : List ℕ) → list_any (eq_by_cmp nat_cmp n) ks ≡ among n ks
same_among n [] = refl
same_among n (k ∷ ks) =
    ap (λ (b : Bool). b || list_any (eq_by_cmp nat_cmp n) ks) (by_order n k (nat_cmp n k) (ranked n k (nat_cmp n k) refl))
    ∙ ap (λ (b : Bool). eqb k n || b) (same_among n ks)

there : (f : DebugNode → Option Shape) (o : Option DebugNode) → is_some (option_and_then f o) ≡ true → is_some o ≡ true
there f None is = is
there f (Some node) is = refl

pub type_at : (m : DebugMaps) (n : ℕ) → is_type m n ≡ true → slice_get (types_of m) (index_in (type_nodes m) n) ≡ shape_at m (type_nodes m) n
type_at m n is =
    let known : among n (numbers_of m) ≡ true =
    sym (same_among n (numbers_of m)) ∙ sym (contains_key-keys m.nodes n) ∙ there (shape_of m []) (node_at m n) is in
    at_index (shape_at m (type_nodes m)) n (type_nodes m) (each_is m (type_nodes m) (all_types m (numbers_of m)) (type_nodes m))
    (in_filter (is_type m) n (numbers_of m) is known)
