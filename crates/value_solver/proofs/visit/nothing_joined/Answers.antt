use Rattle.std.proofs.Common.{[], refl}
use Rattle.value_solver.proofs.Renumbering.{joined_none}
use Rattle.value_solver.proofs.visit.nothing_joined.Goals as goal

pub returns : goal.returns
returns c = λ n. joined_none n [] _ refl refl
