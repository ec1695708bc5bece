-- What types are made of, by the graph of the steps to it.
use Rattle.std.proofs.Common.{◌≡◌, ◌⊎◌, ◌↔◌, ℕ, ◌<◌, List, [], length, Bool, true, false, cond, Some, refl, sym, ◌∙◌, subst, inl, inr, arith}
use Rattle.std.proofs.Common.{ltb-true, ltb-false}
use Rattle.std.specs.Prelude.{slice_index_or, nat_lt, Contains}
use Rattle.std.specs.List.{slice_get}
use Rattle.std.proofs.lemmas.Bool.{false≢true}
use Rattle.std.proofs.lemmas.List.{get_or_default, get_or_past}
use Rattle.std.proofs.lemmas.Option.{slice_get_within}
use Rattle.dataflow.specs.Graph.{ways_at, IsEdge, AreBlocks, IsGraph}
use Rattle.graph_cycles.specs.Ends.{Ends, on, is_marked, AreEnds}
use Rattle.type_nodes.specs.declared.shape.Shape.{Shape}
use Rattle.type_nodes.specs.Standing.{made_of, IsMade, made}
use Rattle.type_nodes.specs.steps.Graphs.{IsGraphOf, chain_ways}
use Rattle.type_nodes.proofs.Members.{in_map, map_in, all_in, there}

-- a graph by a rule whose steps lead to types
pub is_graph : (ways : ℕ → Shape → List ℕ) (types : List Shape) (graph : List (List ℕ)) → IsGraphOf ways types graph
    → ((n : ℕ) (s : Shape) → n < length types → (m : ℕ) → Contains (ways n s) m → m < length types) → IsGraph graph
is_graph ways types graph g inside k d less =
    let below : k < length types = omega (arith, less, g.long) in
    let s = there types k below in
    let at : ways_at graph k ≡ ways k s.0 = g.each k s.0 s.1 in
    let all : AreBlocks (length types) (ways k s.0) = all_in (λ (m : ℕ). m < length types) (ways k s.0) (inside k s.0 below) in
    subst (λ (n : ℕ). AreBlocks n (slice_index_or graph k d)) (sym g.long)
    (subst (AreBlocks (length types)) (sym (get_or_default graph k d [] less ∙ at)) all)

module _ (types : List Shape) where
  chain_to : (n m : ℕ) → m < length types → cond (nat_lt m (length types)) m n ≡ m
  chain_to n m less = by_case (nat_lt m (length types)) refl
    where
      by_case : (z : Bool) → nat_lt m (length types) ≡ z → cond z m n ≡ m
      by_case true e = refl
      by_case false e = absurd (omega (arith, less, ltb-false m (length types) e))

  chain_either : (n m : ℕ) → n < length types
      → (cond (nat_lt m (length types)) m n < length types) × ((cond (nat_lt m (length types)) m n ≡ m) ⊎ (cond (nat_lt m (length types)) m n ≡ n))
  chain_either n m less = by_case (nat_lt m (length types)) refl
    where
      by_case : (z : Bool) → nat_lt m (length types) ≡ z → (cond z m n < length types) × ((cond z m n ≡ m) ⊎ (cond z m n ≡ n))
      by_case true e = (ltb-true m (length types) e, inl refl)
      by_case false e = (less, inr refl)

  pub chains_inside : (n : ℕ) (s : Shape) → n < length types → (m : ℕ) → Contains (chain_ways (length types) n s) m → m < length types
  chains_inside n s less m held =
      let from = in_map (λ (x : ℕ). cond (nat_lt x (length types)) x n) (made_of s) m held in
      subst (λ (x : ℕ). x < length types) from.2 (chain_either n from.0 less).0

  pub made_inside : {n : ℕ} → IsMade types n → n < length types
  made_inside {n} (made s is each) = slice_get_within types n s is

  -- what a type that is made of something is made of is made of something
  made_on : {n : ℕ} (s : Shape) → slice_get types n ≡ Some s → (m : ℕ) → Contains (made_of s) m → IsMade types n → IsMade types m
  made_on s is m held (made other own each) =
      let same : s ≡ other = cc in
      each m (subst (λ (x : Shape). Contains (made_of x) m) same held)

  back : (n : ℕ) (s : Shape) (m x : ℕ) → slice_get types n ≡ Some s → Contains (made_of s) m → (x ≡ m) ⊎ (x ≡ n) → IsMade types x → IsMade types m
  back n s m x is held (inl same) all = subst (IsMade types) same all
  back n s m x is held (inr same) all = made_on s is m held (subst (IsMade types) same all)

  module _ (graph : List (List ℕ)) (g : IsGraphOf (chain_ways (length types)) types graph) where
    edge_of : (n : ℕ) (s : Shape) (m : ℕ) → slice_get types n ≡ Some s → Contains (made_of s) m
        → IsEdge graph n (cond (nat_lt m (length types)) m n)
    edge_of n s m is held =
        subst (λ (ways : List ℕ). Contains ways (cond (nat_lt m (length types)) m n)) (sym (g.each n s is))
        (map_in (λ (x : ℕ). cond (nat_lt x (length types)) x n) (made_of s) m held)

    pub made_where_ends : {n : ℕ} → Ends (IsEdge graph) n → n < length types → IsMade types n
    made_where_ends {n} (on each) less =
        let s = there types n less in
        made s.0 s.1 (λ m held. let next = chain_either n m less in
        back n s.0 m (cond (nat_lt m (length types)) m n) s.1 held next.1
        (made_where_ends (each (cond (nat_lt m (length types)) m n) (edge_of n s.0 m s.1 held)) next.0))

    -- a type that is made of something has an edge to what it is made of
    pub edge_made : (n : ℕ) (s : Shape) (m : ℕ) → slice_get types n ≡ Some s → Contains (made_of s) m → IsMade types n → IsEdge graph n m
    edge_made n s m is held built =
        subst (IsEdge graph n) (chain_to n m (made_inside (made_on s is m held built))) (edge_of n s m is held)

    target_of : (n : ℕ) (s : Shape) (x : ℕ) → slice_get types n ≡ Some s → IsEdge graph n x
        → ((m : ℕ) → Contains (made_of s) m → m < length types) → (m : ℕ) × Contains (made_of s) m × (m ≡ x)
    target_of n s x is edge inside =
        let from = in_map (λ (y : ℕ). cond (nat_lt y (length types)) y n) (made_of s) x (subst (λ (ways : List ℕ). Contains ways x) (g.each n s is) edge) in
        (from.0, from.1, sym (chain_to n from.0 (inside from.0 from.1)) ∙ from.2)

    pub ends_where_made : {n : ℕ} → IsMade types n → Ends (IsEdge graph) n
    ends_where_made {n} (made s is each) =
        on (λ x edge. let t = target_of n s x is edge (λ m held. made_inside (each m held)) in
        subst (Ends (IsEdge graph)) t.2 (ends_where_made (each t.0 t.1)))

    -- the marks of the graph are those of the types that are made of something
    pub made_marked : (marks : List Bool) → AreEnds graph marks → (n : ℕ) → (is_marked marks n ≡ true) ↔ IsMade types n
    made_marked marks all n = (
      λ is. made_where_ends ((all.each n (within is)).0 is) (omega (arith, within is, g.long)),
      λ is. (all.each n (omega (arith, made_inside is, g.long))).1
          (ends_where_made is),
    )
      where
        by_place : (z : Bool) → nat_lt n (length graph) ≡ z → is_marked marks n ≡ true → n < length graph
        by_place true e is = ltb-true n (length graph) e
        by_place false e is =
            absurd (false≢true (sym (get_or_past marks n false (omega (arith, all.long, ltb-false n (length graph) e))) ∙ is))

        within : is_marked marks n ≡ true → n < length graph
        within is = by_place (nat_lt n (length graph)) refl is
