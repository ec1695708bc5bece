use Rattle.std.proofs.Common.{length}
use Rattle.pass_manager.proofs.run.+run_passes.Given as goal

abbrev pub decreases-run_passes : goal.decreases-run_passes
decreases-run_passes l = length l.passes.now
