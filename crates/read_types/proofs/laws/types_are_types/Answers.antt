use Rattle.std.proofs.Common.{[], ◌∙◌}
use Rattle.read_types.proofs.Independent.{same_type}
use Rattle.read_types.proofs.laws.types_are_types.Goals as goal

pub returns : goal.returns
returns c = λ m nodes n is. same_type m nodes [] n ∙ is
