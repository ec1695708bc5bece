use Rattle.typed_unit.proofs.Typed.{have_types}
use Rattle.typed_unit.proofs.laws.variables_have_types.Goals as goal

pub returns : goal.returns
returns c = have_types
