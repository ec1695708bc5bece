use Rattle.std.proofs.Common.{length}
use Rattle.dwarf_base.proofs.front.+signed_front.Given as goal

abbrev pub decreases-signed_front : goal.decreases-signed_front
decreases-signed_front l = length l.bytes.now
