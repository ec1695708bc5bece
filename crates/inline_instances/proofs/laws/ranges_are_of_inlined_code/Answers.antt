use Rattle.inline_instances.proofs.Covers.{of_inlined_code}
use Rattle.inline_instances.proofs.laws.ranges_are_of_inlined_code.Goals as goal

pub returns : goal.returns
returns c = of_inlined_code
