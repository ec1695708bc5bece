use Rattle.type_entries.proofs.Places.{type_found}
use Rattle.type_entries.proofs.laws.references_are_right.Goals as goal

pub returns : goal.returns
returns c = type_found
