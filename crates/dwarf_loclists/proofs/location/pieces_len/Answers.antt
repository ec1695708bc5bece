use Rattle.std.proofs.Common.{arith}
use Rattle.dwarf_loclists.proofs.location.pieces_len.Goals as goal

pub returns-clause-small : goal.returns-clause-small
returns-clause-small c = omega (arith, c.loop-part.invariant.fits, c.loop-part.invariant.each, c.loop-part.invariant.within)
