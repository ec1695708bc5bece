use Rattle.std.proofs.Common.{length}
use Rattle.test_sections.proofs.table.+ascend.Given as goal

abbrev pub decreases-ascend : goal.decreases-ascend
decreases-ascend l = length l.rows.now
