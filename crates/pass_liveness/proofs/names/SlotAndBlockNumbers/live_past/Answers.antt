use Rattle.pass_liveness.specs.Liveness.{has_at_start}
use Rattle.pass_liveness.proofs.Places.{has_none}
use Rattle.pass_liveness.proofs.Walking.{past_some, past_none, false_or}
use Rattle.pass_liveness.proofs.names.SlotAndBlockNumbers.live_past.Goals as goal

pub returns-in-Some : goal.returns-in-Some
returns-in-Some c = λ x. past_some (has_at_start c.args.self.now.slots c.args.self.now.blocks c.args.starts.now) c.args.next c.in-Some.n x _ c.in-Some.is
    (false_or _ _ _ (has_none c.args.self.now.slots c.new-set.result c.new-set.ensures x) (c.unite_start.ensures x))

pub returns-in_default : goal.returns-in_default
returns-in_default c = λ x. past_none (has_at_start c.args.self.now.slots c.args.self.now.blocks c.args.starts.now) c.args.next x _ c.in_default.is
    (has_none c.args.self.now.slots c.new-set.result c.new-set.ensures x)
