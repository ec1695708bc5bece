use Rattle.typed_unit.proofs.References.{refers_within}
use Rattle.typed_unit.proofs.laws.references_are_within.Goals as goal

pub returns : goal.returns
returns c = refers_within
