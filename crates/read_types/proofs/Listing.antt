-- What is listed of a list's items, item by item.
use Rattle.std.proofs.Common.{Ordering, Less, Equal, Greater, ◌≡◌, ℕ, zero, suc, ◌+◌, ◌<◌, ◌≤◌, Bool, true}
use Rattle.std.proofs.Common.{false, ◌&&◌, cond, eqb, List, [], ◌∷◌, ◌++◌, length, get_or, take, drop, map, filter}
use Rattle.std.proofs.Common.{Option, Some, None, refl, sym, ap, subst, ◌∙◌, arith}
use Rattle.std.specs.Prelude.{is_some, T}
use Rattle.std.specs.List.{filter_map, cons_option, AllByRecursion}
use Rattle.std.specs.List.Sorted.{IsStrictlySortedBy}
use Rattle.std.specs.Ordering.{nat_cmp, is_lt}
use Rattle.std.specs.FinMap.{FinMap, is_sorted, entries, entries_sorted}
use Rattle.std.specs.FinMap.Entries.{below_all}
use Rattle.std.proofs.lemmas.List.{append-nil, take_more, drop_more, drop_all}
use Rattle.std.proofs.lemmas.List.Elements.{filter_map-append}
use Rattle.std.proofs.lemmas.List.Kept.{IsStrictlySortedBy-filter}
use Rattle.std.proofs.lemmas.Map.Keys.{below_from_sorted}
use Rattle.read_debug_nodes.specs.declared.node.DebugNode.{DebugNode}
use Rattle.read_debug_nodes.specs.Maps.{DebugMaps, numbers_of}
use Rattle.read_types.specs.Indices.{Ascends}

-- one more item
pub filter_map_turn : {X Y : Type 0} (h : X → Option Y) (xs : List X) (i : ℕ) (x d : X) (done more : List Y) → i < length xs → x ≡ get_or xs i d
    → done ≡ filter_map h (take i xs) → more ≡ done ++ cons_option (h x) [] → more ≡ filter_map h (take (i + 1) xs)
filter_map_turn {X} {Y} h xs i x d done more lt is so longer =
    longer ∙ ap (λ (ys : List Y). ys ++ cons_option (h x) []) so ∙ ap (λ (z : X). filter_map h (take i xs) ++ cons_option (h z) []) is
    ∙ sym (filter_map-append h (take i xs) (get_or xs i d ∷ [])) ∙ ap (filter_map h) (sym (take_more xs i d lt))

-- ---- the numbers of nodes ascend

parts : (a b : Bool) → T (a && b) → T a × T b
parts true b p = (tt, p)
parts false b p = absurd p

less : (r : Ordering) → T (is_lt r) → r ≡ Less
less Less p = refl
less Equal p = absurd p
less Greater p = absurd p

below : (x : ℕ) (es : List (ℕ × DebugNode)) → T (below_all nat_cmp x es) → AllByRecursion (λ (y : ℕ). nat_cmp x y ≡ Less) (map (λ (e : ℕ × DebugNode). e.0) es)
below x [] all = tt
below x (e ∷ es) all =
    let p = parts (is_lt (nat_cmp x e.0)) (below_all nat_cmp x es) all in (less (nat_cmp x e.0) p.0, below x es p.1)

keys_ascend : (es : List (ℕ × DebugNode)) → T (is_sorted nat_cmp es) → IsStrictlySortedBy nat_cmp (map (λ (e : ℕ × DebugNode). e.0) es)
unfolding IsStrictlySortedBy
keys_ascend [] all = tt
keys_ascend (e ∷ es) all =
    let p = parts (below_all nat_cmp e.0 es) (is_sorted nat_cmp es) all in (below e.0 es p.0, keys_ascend es p.1)

pub ascending : (m : DebugMaps) (p : ℕ → Bool) → Ascends (filter p (numbers_of m))
ascending m p i j less lt =
    below_from_sorted (filter p (numbers_of m)) i j 0
    (IsStrictlySortedBy-filter nat_cmp p (numbers_of m) (keys_ascend (entries m.nodes) (entries_sorted m.nodes))) less lt
