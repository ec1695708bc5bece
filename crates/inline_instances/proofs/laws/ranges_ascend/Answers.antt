use Rattle.inline_instances.proofs.Covers.{ranges_do_ascend}
use Rattle.inline_instances.proofs.laws.ranges_ascend.Goals as goal

pub returns : goal.returns
returns c = ranges_do_ascend
