use Rattle.dwarf_line.proofs.Sections.{section_reads}
use Rattle.dwarf_line.proofs.read.section.Goals as goal

pub returns : goal.returns
returns c = section_reads _ _ _ c.in_ok-program.ensures c.sequences_of.ensures
