use Rattle.std.proofs.Common.{length}
use Rattle.test_sections.proofs.range_lists.+ascend.Given as goal

abbrev pub decreases-ascend : goal.decreases-ascend
decreases-ascend l = length l.ranges.now
