use Rattle.frame_theorem.proofs.Suspended.{calls_keep_caller}
use Rattle.frame_theorem.proofs.laws.calls_keep_caller.Goals as goal

pub returns : goal.returns
returns c = calls_keep_caller
