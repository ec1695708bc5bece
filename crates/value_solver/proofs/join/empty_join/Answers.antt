use Rattle.std.proofs.Common.{◌≡◌, arith}
use Rattle.value_solver.proofs.Empty.{empty_none, empty_next, empty_joined}
use Rattle.value_solver.proofs.join.empty_join.Goals as goal

pub loop-init : goal.loop-init
loop-init c = rw (c.new-classes.ensures, c.new-given.ensures) empty_none

pub loop-preserved : goal.loop-preserved
loop-preserved c = rw (c.in_ok-push.ensures.ok, c.in_ok-push-2.ensures.ok) (empty_next _ _ _ c.loop.invariant)

pub returns : goal.returns
returns c =
    let all : c.loop.counter ≡ c.args.things = omega arith in
    rw (← all) (empty_joined _ _ _ c.loop.invariant)
