use Rattle.dwarf_rnglists.proofs.OneReading.{one_section}
use Rattle.dwarf_rnglists.proofs.laws.one_reading.Goals as goal

pub returns : goal.returns
returns c = one_section
