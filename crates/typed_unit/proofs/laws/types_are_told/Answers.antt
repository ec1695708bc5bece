use Rattle.typed_unit.proofs.Told.{told, unknown_there}
use Rattle.typed_unit.proofs.laws.types_are_told.Goals as goal

pub returns : goal.returns
returns c = record { own = told; unknown = unknown_there }
