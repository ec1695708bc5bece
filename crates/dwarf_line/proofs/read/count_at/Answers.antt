use Rattle.dwarf_line.proofs.Numbers.{uleb_again, uleb_fault}
use Rattle.dwarf_line.proofs.read.count_at.Goals as goal

pub returns-in-Some : goal.returns-in-Some
returns-in-Some c = rw c.in-Some.ensures.some (uleb_again _ _ _ c.in-Some.ensures.fits)

pub returns-in-None : goal.returns-in-None
returns-in-None c = uleb_fault _ _ c.in-None.ensures.none
