use Rattle.std.proofs.Common.{length}
use Rattle.dwarf_base.proofs.front.+unsigned_front.Given as goal

abbrev pub decreases-unsigned_front : goal.decreases-unsigned_front
decreases-unsigned_front l = length l.bytes.now
