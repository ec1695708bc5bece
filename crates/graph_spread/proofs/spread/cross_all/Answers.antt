use Rattle.std.proofs.Common.{◌≡◌, ◌+◌, ◌≤◌, ℕ, List, [], ◌∷◌, ◌++◌, length, Bool, true, get_or, take, sym, ◌∙◌, subst, inl, inr, arith}
use Rattle.std.specs.Prelude.{◌⊎◌, Contains}
use Rattle.std.proofs.lemmas.List.{take_more, take_all}
use Rattle.std.proofs.lemmas.List.Elements.{Contains-push, Contains-push_cases, Contains-append_left}
use Rattle.dataflow.proofs.Preds.{none_in}
use Rattle.graph_spread.specs.Spread.{Reaching}
use Rattle.graph_spread.proofs.Reached.{reaching_none, reaching_more}
use Rattle.graph_spread.proofs.spread.cross_all.Goals as goal

-- the last one of some nodes, or one before it
last_or : (before all : List ℕ) (node n : ℕ) (P : Type 0) → all ≡ before ++ node ∷ [] → Contains all n × P → (Contains before n × P) ⊎ ((node ≡ n) × P)
last_or before all node n P one (at, p) = elim (Contains-push_cases before node n (subst (λ (ns : List ℕ). Contains ns n) one at)) [
  | inl was ↦ inl (was, p)
  | inr e ↦ inr (e, p)
]

pub loop-node-init : goal.loop-node-init
loop-node-init g c =
    let passes : ℕ → ℕ → Bool = g.C.Crossing.passes c.args.crossing.now in
    reaching_none (λ (n : ℕ). Contains [] n × (passes c.args.from n ≡ true)) c.args.reached.now.items c.args.waiting.now.items (λ n t. absurd (none_in n t.0))

pub cross-requires-clause-node : goal.cross-requires-clause-node
cross-requires-clause-node g c = c.requires.nodes c.loop-node.node-index 0 c.loop-node-test.true

pub cross-requires-clause-long : goal.cross-requires-clause-long
cross-requires-clause-long g c = c.loop-node.invariant.long ∙ c.requires.long

pub loop-node-preserved : goal.loop-node-preserved
loop-node-preserved g c =
    let passes : ℕ → ℕ → Bool = g.C.Crossing.passes c.args.crossing.now in
    let from = c.args.from in
    let l = c.loop-node in
    let nodes = c.args.nodes.now in
    let i = l.node-index in
    let node = get_or nodes i 0 in
    let one : take (i + 1) nodes ≡ take i nodes ++ node ∷ [] = take_more nodes i 0 c.loop-node-test.true in
    reaching_more (λ (n : ℕ). Contains (take i nodes) n × (passes from n ≡ true)) (λ (n : ℕ). (node ≡ n) × (passes from n ≡ true))
    (λ (n : ℕ). Contains (take (i + 1) nodes) n × (passes from n ≡ true)) c.args.reached.now.items l.reached.items c.cross.new.reached.items
    c.args.waiting.now.items l.waiting.items c.cross.new.waiting.items (λ n t. last_or (take i nodes) (take (i + 1) nodes) node n (passes from n ≡ true) one t)
    (λ n t. (subst (λ (ns : List ℕ). Contains ns n) (sym one) (Contains-append_left (take i nodes) (node ∷ []) n t.0), t.1))
    (λ n t. (
      subst (λ (k : ℕ). Contains (take (i + 1) nodes) k) t.0
          (subst (λ (ns : List ℕ). Contains ns node) (sym one) (Contains-push (take i nodes) node)),
      t.1,
    ))
    l.invariant c.in_ok-cross.ensures

pub returns : goal.returns
returns g c =
    let passes : ℕ → ℕ → Bool = g.C.Crossing.passes c.args.crossing.now in
    let l = c.loop-node in
    let nodes = c.args.nodes.now in
    let all : length nodes ≤ l.node-index = omega arith in
    subst (λ (xs : List ℕ). Reaching (λ n. Contains xs n × (passes c.args.from n ≡ true)) c.args.reached.now.items l.reached.items c.args.waiting.now.items
    l.waiting.items) (take_all l.node-index nodes all) l.invariant
