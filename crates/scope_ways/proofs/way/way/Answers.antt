use Rattle.std.proofs.Common.{◌≡◌, Bool, true, false, inl, inr, subst}
use Rattle.scope_ways.specs.steps.Walk.{EndsAt}
use Rattle.scope_ways.proofs.way.way.Goals as goal

pub returns-then-whole : goal.returns-then-whole
returns-then-whole c =
    inl (subst (λ (z : Bool). EndsAt c.args.meta.now c.args.from.now c.walk.new.way.items z) c.if-whole.true c.in_ok-whole.ensures)

pub returns-else-whole : goal.returns-else-whole
returns-else-whole c =
    inr
    (subst (λ (z : Bool). EndsAt c.args.meta.now c.args.from.now c.walk.new.way.items z) c.if-whole.false c.in_ok-whole.ensures, c.new.ensures.items)
