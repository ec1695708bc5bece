use Rattle.dwarf_rnglists.proofs.OneReading.{in_range}
use Rattle.dwarf_rnglists.proofs.laws.ranges_are_told.Goals as goal

pub returns : goal.returns
returns c = in_range
