use Rattle.scan_debug.proofs.Step.{allotted_keeps_step}
use Rattle.scan_debug.proofs.laws.allotted_keeps_step.Goals as goal

pub returns : goal.returns
returns c = allotted_keeps_step
