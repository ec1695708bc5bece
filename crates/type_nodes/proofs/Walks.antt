-- Walks between types, by the graphs of their steps.
use Rattle.std.proofs.Common.{◌≡◌, ◌↔◌, ℕ, zero, suc, ◌<◌, List, [], length, Bool, true, false, ◌&&◌, cond, filter, Some, refl, sym, ap, ◌∙◌, subst, arith}
use Rattle.std.proofs.Common.{ltb-true, ltb-false}
use Rattle.std.specs.Prelude.{nat_lt, Contains}
use Rattle.std.specs.List.{slice_get}
use Rattle.std.proofs.lemmas.List.{get_or_past}
use Rattle.dataflow.specs.Graph.{ways_at, IsEdge}
use Rattle.graph_cycles.specs.Ends.{Ends, on, is_marked, AreEnds}
use Rattle.graph_cycles.proofs.Searching.{none_in}
use Rattle.type_nodes.specs.declared.shape.Shape.{Shape}
use Rattle.type_nodes.specs.declared.shape.Walk.{Walk}
use Rattle.type_nodes.specs.declared.shape.Walk.TheVariants.{ByValue, ByName}
use Rattle.type_nodes.specs.Standing.{targets, IsMade, Step, Steps, Stands, AreStanding}
use Rattle.type_nodes.specs.steps.Graphs.{IsGraphOf, chain_ways, step_ways, AreAll}
use Rattle.type_nodes.proofs.Members.{in_filter, filter_in, there}
use Rattle.type_nodes.proofs.Chains.{made_inside, made_marked}

-- where walks end those of fewer steps do
ends_fewer : (A B : ℕ → ℕ → Type 0) → ((m n : ℕ) → B m n → A m n) → {n : ℕ} → Ends A n → Ends B n
ends_fewer A B are {n} (on each) = on (λ m step. ends_fewer A B are (each m (are n m step)))

-- ---- no walk that ends comes round

-- a walk with one more step at its end
one_more : (One : ℕ → ℕ → Type 0) (k l m n : ℕ) → Steps One k l m → One m n → Steps One (suc k) l n
one_more One zero l m n same step = (n, subst (λ (x : ℕ). One x n) (sym same) step, refl)
one_more One (suc k) l m n walk step = (walk.0, walk.1, one_more One k walk.0 m n walk.2 step)

pub comes_not_round : (One : ℕ → ℕ → Type 0) (k : ℕ) {n : ℕ} → Ends One n → Steps One (suc k) n n → ⊥
comes_not_round One k {n} (on each) walk = comes_not_round One k (each walk.0 walk.1) (one_more One k walk.0 n walk.0 walk.2 walk.1)

-- ---- the steps of a graph are those of the walk

module _ (types : List Shape) (walk : Walk) (marks : List Bool) (graph : List (List ℕ)) (g : IsGraphOf (step_ways walk marks) types graph)
    (all : (n : ℕ) → (is_marked marks n ≡ true) ↔ IsMade types n) where
  step_by : (m n : ℕ) (s : Shape) → slice_get types m ≡ Some s → (z : Bool) → is_marked marks m ≡ z
      → Contains (cond z (filter (is_marked marks) (targets walk s)) []) n → Step walk types m n
  step_by m n s is true e held =
      let own = in_filter (is_marked marks) (targets walk s) n held in
      record { shape = s; is = is; leads = own.0; start = (all m).0 e; end = (all n).0 own.1 }
  step_by m n s is false e held = absurd (none_in held)

  step_at : (m n : ℕ) → IsEdge graph m n → (z : Bool) → nat_lt m (length types) ≡ z → Step walk types m n
  step_at m n edge true e =
      let s = there types m (ltb-true m (length types) e) in
      step_by m n s.0 s.1 (is_marked marks m) refl (subst (λ (ways : List ℕ). Contains ways n) (g.each m s.0 s.1) edge)
  step_at m n edge false e =
      absurd (none_in (subst (λ (ways : List ℕ). Contains ways n) (get_or_past graph m [] (omega (arith, g.long, ltb-false m (length types) e))) edge))

  step_of : (m n : ℕ) → IsEdge graph m n → Step walk types m n
  step_of m n edge = step_at m n edge (nat_lt m (length types)) refl

  edge_of : (m n : ℕ) → Step walk types m n → IsEdge graph m n
  edge_of m n step =
      let inner : Contains (filter (is_marked marks) (targets walk step.shape)) n =
      filter_in (is_marked marks) (targets walk step.shape) n step.leads ((all n).1 step.end) in
      let ways : ways_at graph m ≡ filter (is_marked marks) (targets walk step.shape) =
      g.each m step.shape step.is ∙ ap (λ (z : Bool). cond z (filter (is_marked marks) (targets walk step.shape)) []) ((all m).1 step.start) in
      subst (λ (xs : List ℕ). Contains xs n) (sym ways) inner

  pub same_ends : (n : ℕ) → Ends (IsEdge graph) n ↔ Ends (Step walk types) n
  same_ends n = (
    ends_fewer (IsEdge graph) (Step walk types) edge_of,
    ends_fewer (Step walk types) (IsEdge graph) step_of,
  )

  pub steps_inside : (n : ℕ) (s : Shape) → n < length types → (m : ℕ) → Contains (step_ways walk marks n s) m → m < length types
  steps_inside n s less m held = by_mark (is_marked marks n) held
    where
      by_mark : (z : Bool) → Contains (cond z (filter (is_marked marks) (targets walk s)) []) m → m < length types
      by_mark true own = made_inside types ((all m).0 (in_filter (is_marked marks) (targets walk s) m own).1)
      by_mark false own = absurd (none_in own)

-- ---- which types stand

all_three : (a b c : Bool) → (a && b && c) ≡ true → (a ≡ true) × (b ≡ true) × (c ≡ true)
all_three true true true is = (refl, refl, refl)
all_three true true false is = cc
all_three true false c is = cc
all_three false b c is = cc

three : (a b c : Bool) → a ≡ true → b ≡ true → c ≡ true → (a && b && c) ≡ true
three true true true _ _ _ = refl
three true true false _ _ is = cc
three true false c _ is _ = cc
three false b c is _ _ = cc

module _ (types : List Shape) (chains values names : List (List ℕ)) (made by_value by_name marks : List Bool)
    (c : IsGraphOf (chain_ways (length types)) types chains) (ends : AreEnds chains made)
    (v : IsGraphOf (step_ways ByValue made) types values) (value_ends : AreEnds values by_value)
    (n : IsGraphOf (step_ways ByName made) types names) (name_ends : AreEnds names by_name) where
  all_made : (k : ℕ) → (is_marked made k ≡ true) ↔ IsMade types k
  all_made = made_marked types chains c made ends

  walks : (k : ℕ) → k < length types → is_marked by_value k ≡ true → is_marked by_name k ≡ true → (walk : Walk) → Ends (Step walk types) k
  walks k less first second ByValue =
      (same_ends types ByValue made values v all_made k).0 ((value_ends.each k (omega (arith, less, v.long))).0 first)
  walks k less first second ByName =
      (same_ends types ByName made names n all_made k).0 ((name_ends.each k (omega (arith, less, n.long))).0 second)

  pub all_standing : AreAll made by_value by_name marks → AreStanding types marks
  all_standing all = record {
    long = all.long ∙ ends.long ∙ c.long;
    each = λ k less. (stands k less, back k less);
  }
    where
      inside : (k : ℕ) → k < length types → k < length made
      inside k less = omega (arith, less, ends.long, c.long)

      stands : (k : ℕ) → k < length types → is_marked marks k ≡ true → Stands types k
      stands k less is =
          let three_are = all_three (is_marked made k) (is_marked by_value k) (is_marked by_name k) (sym (all.each k (inside k less)) ∙ is) in
          record { made = (all_made k).0 three_are.0; walks = walks k less three_are.1 three_are.2 }

      back : (k : ℕ) → k < length types → Stands types k → is_marked marks k ≡ true
      back k less s =
          let first = (value_ends.each k (omega (arith, less, v.long))).1 ((same_ends types ByValue made values v all_made k).1 (s.walks ByValue)) in
          let second = (name_ends.each k (omega (arith, less, n.long))).1 ((same_ends types ByName made names n all_made k).1 (s.walks ByName)) in
          all.each k (inside k less) ∙ three (is_marked made k) (is_marked by_value k) (is_marked by_name k) ((all_made k).1 s.made) first second
