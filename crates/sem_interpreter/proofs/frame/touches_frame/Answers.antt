use Rattle.std.proofs.Common.{sym, ◌∙◌}
use Rattle.sem_interpreter.proofs.RunLoops.{touches_later}
use Rattle.sem_interpreter.proofs.frame.touches_frame.Goals as goal

pub loop-k-preserved : goal.loop-k-preserved
loop-k-preserved c =
    touches_later c.args.entry c.args.area c.args.address c.loop-k.k c.args.count c.loop-k-test.true (sym c.if-in_frame.ensures) ∙ c.loop-k.invariant
