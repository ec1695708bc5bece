use Rattle.dwarf_loclists.proofs.Places.{found, only}
use Rattle.dwarf_loclists.proofs.laws.one_location.Goals as goal

pub returns-clause-found : goal.returns-clause-found
returns-clause-found c = found

pub returns-clause-only : goal.returns-clause-only
returns-clause-only c = only
