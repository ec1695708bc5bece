use Rattle.std.proofs.Common.{◌≡◌, ◌∷◌, [], ◌++◌, ◌<◌, List, ℕ, length, length-append, Bool, sym, ap, ◌∙◌, subst, arith}
use Rattle.std.specs.Prelude.{Contains}
use Rattle.std.proofs.lemmas.List.Elements.{Contains-push}
use Rattle.dataflow.specs.Graph.{AreBlocks}
use Rattle.graph_spread.proofs.Reached.{in_within}
use Rattle.graph_spread.proofs.Walk.{Spreading, spreading_begins, spreading_on, spread_is}
use Rattle.graph_spread.proofs.spread.spread.Goals as goal

pub reach_all-requires : goal.reach_all-requires
reach_all-requires g c = subst (λ (n : ℕ). AreBlocks n c.args.sources.now) (sym c.in_ok-reached.ensures.long) c.requires.sources

pub walk-init : goal.walk-init
walk-init g c =
    let r = c.in_ok-reach_all.ensures in
    spreading_begins c.args.ways.now (g.C.Crossing.passes c.args.crossing.now) c.args.sources.now c.in_ok-reached.reached.items
    c.reach_all.new.reached.items _ c.reach_all.new.waiting.items c.new-waiting.ensures.items c.in_ok-reached.ensures.none
    (r.long ∙ c.in_ok-reached.ensures.long) r

pub go_on-requires-clause-long : goal.go_on-requires-clause-long
go_on-requires-clause-long g c = c.walk.invariant.long

pub go_on-requires-clause-node : goal.go_on-requires-clause-node
go_on-requires-clause-node g c =
    let inv = c.walk.invariant in
    let last = subst (λ (ws : List ℕ). Contains ws c.in-Some.node) (sym c.in-Some.ensures.items) (Contains-push c.pop.new.self.items c.in-Some.node) in
    let inside : c.in-Some.node < length c.walk.reached.items = in_within c.walk.reached.items c.in-Some.node (inv.wait c.in-Some.node last) in
    omega (arith, inside, inv.long)

pub walk-preserved : goal.walk-preserved
walk-preserved g c =
    let passes : ℕ → ℕ → Bool = g.C.Crossing.passes c.args.crossing.now in
    let rest = c.pop.new.self.items in
    let m = c.in-Some.node in
    let before : Spreading c.args.ways.now passes c.args.sources.now c.walk.reached.items (rest ++ m ∷ []) =
    subst (λ (ws : List ℕ). Spreading c.args.ways.now passes c.args.sources.now c.walk.reached.items ws) c.in-Some.ensures.items c.walk.invariant in
    spreading_on c.args.ways.now passes c.args.sources.now c.walk.reached.items c.go_on.new.reached.items rest c.go_on.new.waiting.items m before
    c.in_ok-go_on.ensures

pub walk-smaller : goal.walk-smaller
walk-smaller g c =
    let falls = c.in_ok-go_on.ensures.falls in
    let split = ap length c.in-Some.ensures.items in
    let one = length-append c.pop.new.self.items (c.in-Some.node ∷ []) in
    omega (arith, falls, split, one)

pub returns-clause-exact : goal.returns-clause-exact
returns-clause-exact g c = λ n.
    let passes : ℕ → ℕ → Bool = g.C.Crossing.passes c.args.crossing.now in
    spread_is c.args.ways.now passes c.args.sources.now c.walk.reached.items
    (subst (λ (ws : List ℕ). Spreading c.args.ways.now passes c.args.sources.now c.walk.reached.items ws) none c.walk.invariant) n
  where
    none : c.walk.waiting.items ≡ []
    none = grind arith
