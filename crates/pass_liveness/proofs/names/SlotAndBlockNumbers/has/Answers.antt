use Rattle.std.proofs.Common.{◌∙◌, Some, None}
use Rattle.pass_liveness.proofs.Places.{has_by}
use Rattle.pass_liveness.proofs.names.SlotAndBlockNumbers.has.Goals as goal

pub returns-in-None : goal.returns-in-None
returns-in-None c = has_by c.args.self.now.slots c.args.set.now c.args.p None c.in-None.ensures.bit

pub returns-in-Some : goal.returns-in-Some
returns-in-Some c = c.has.ensures ∙ has_by c.args.self.now.slots c.args.set.now c.args.p (Some c.in-Some.bit) c.in-Some.ensures.bit
