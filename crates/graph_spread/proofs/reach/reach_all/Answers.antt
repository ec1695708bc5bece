use Rattle.std.proofs.Common.{◌≡◌, ◌+◌, ◌≤◌, ℕ, List, [], ◌∷◌, ◌++◌, length, get_or, take, sym, subst, arith}
use Rattle.std.specs.Prelude.{Contains}
use Rattle.std.proofs.lemmas.List.{take_more, take_all}
use Rattle.std.proofs.lemmas.List.Elements.{Contains-push, Contains-push_cases, Contains-append_left}
use Rattle.dataflow.proofs.Preds.{none_in}
use Rattle.graph_spread.specs.Spread.{Reaching}
use Rattle.graph_spread.proofs.Reached.{reaching_none, reaching_more}
use Rattle.graph_spread.proofs.reach.reach_all.Goals as goal

pub loop-node-init : goal.loop-node-init
loop-node-init c = reaching_none (λ (n : ℕ). Contains [] n) c.args.reached.now.items c.args.waiting.now.items (λ n at. absurd (none_in n at))

pub reach-requires : goal.reach-requires
reach-requires c =
    let inside = c.requires c.loop-node.node-index 0 c.loop-node-test.true in
    omega (arith, inside, c.loop-node.invariant.long)

pub loop-node-preserved : goal.loop-node-preserved
loop-node-preserved c =
    let l = c.loop-node in
    let nodes = c.args.nodes.now in
    let i = l.node-index in
    let node = get_or nodes i 0 in
    let one : take (i + 1) nodes ≡ take i nodes ++ node ∷ [] = take_more nodes i 0 c.loop-node-test.true in
    reaching_more (λ (n : ℕ). Contains (take i nodes) n) (λ (n : ℕ). node ≡ n) (λ (n : ℕ). Contains (take (i + 1) nodes) n) c.args.reached.now.items
    l.reached.items c.reach.new.reached.items c.args.waiting.now.items l.waiting.items c.reach.new.waiting.items
    (λ n at. Contains-push_cases (take i nodes) node n (subst (λ (ns : List ℕ). Contains ns n) one at))
    (λ n at. subst (λ (ns : List ℕ). Contains ns n) (sym one) (Contains-append_left (take i nodes) (node ∷ []) n at))
    (λ n e. subst (λ (k : ℕ). Contains (take (i + 1) nodes) k) e
    (subst (λ (ns : List ℕ). Contains ns node) (sym one) (Contains-push (take i nodes) node)))
    l.invariant c.in_ok-reach.ensures

pub returns : goal.returns
returns c =
    let l = c.loop-node in
    let nodes = c.args.nodes.now in
    let all : length nodes ≤ l.node-index = omega arith in
    subst (λ (xs : List ℕ). Reaching (λ n. Contains xs n) c.args.reached.now.items l.reached.items c.args.waiting.now.items l.waiting.items)
    (take_all l.node-index nodes all) l.invariant
