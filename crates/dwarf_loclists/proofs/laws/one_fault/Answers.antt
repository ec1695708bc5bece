use Rattle.dwarf_loclists.proofs.OneFault as faults
use Rattle.dwarf_loclists.proofs.Sections.{no_fault_in_section}
use Rattle.dwarf_loclists.proofs.laws.one_fault.Goals as goal

pub returns-clause-only : goal.returns-clause-only
returns-clause-only c = faults.one_fault

pub returns-clause-outside : goal.returns-clause-outside
returns-clause-outside c = no_fault_in_section
