use Rattle.std.proofs.Common.{◌≡◌, ℕ, Bool, true, sym, ◌∙◌, subst, arith}
use Rattle.std.proofs.lemmas.Result.{on_ok_weaker}
use Rattle.graph_spread.proofs.Reached.{differ, reaching_none, reaching_same}
use Rattle.graph_spread.proofs.spread.cross.Goals as goal

pub reach-requires : goal.reach-requires
reach-requires g c = omega (arith, c.requires.node, c.requires.long)

pub returns-then-crosses : goal.returns-then-crosses
returns-then-crosses g c =
    let passes : ℕ → ℕ → Bool = g.C.Crossing.passes c.args.crossing.now in
    on_ok_weaker c.reach.result
    (λ r. reaching_same (λ (n : ℕ). c.args.node ≡ n) (λ (n : ℕ). (c.args.node ≡ n) × (passes c.args.from n ≡ true)) c.args.reached.now.items
    c.reach.new.reached.items c.args.waiting.now.items c.reach.new.waiting.items (λ n t. t.0)
    (λ n e. (e, subst (λ (k : ℕ). passes c.args.from k ≡ true) e (sym c.crosses.ensures ∙ c.if-crosses.true))) r)
    c.reach.ensures

pub returns-else-crosses : goal.returns-else-crosses
returns-else-crosses g c =
    let passes : ℕ → ℕ → Bool = g.C.Crossing.passes c.args.crossing.now in
    reaching_none (λ (n : ℕ). (c.args.node ≡ n) × (passes c.args.from n ≡ true)) c.args.reached.now.items c.args.waiting.now.items
    (λ n t. absurd (differ (passes c.args.from c.args.node) (subst (λ (k : ℕ). passes c.args.from k ≡ true) (sym t.0) t.1)
    (sym c.crosses.ensures ∙ c.if-crosses.false)))
