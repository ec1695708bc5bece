use Rattle.dwarf_frame.proofs.Sections.{one_section}
use Rattle.dwarf_frame.proofs.read.one_reading.Goals as goal

pub returns : goal.returns
returns c = one_section
