use Rattle.sim_trace.proofs.Listed.{readable}
use Rattle.sim_trace.proofs.variable.variables_of.Goals as goal

pub returns-clause-readable : goal.returns-clause-readable
returns-clause-readable c = readable c.args.lists.now c.args.listed.now c.loop-line.variables c.loop-line.line-index c.loop-line.invariant c.requires
