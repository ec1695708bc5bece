use Rattle.dataflow.proofs.Sweeps.{order_permuted}
use Rattle.dataflow.proofs.solver.turn_round.Goals as goal

pub returns : goal.returns
returns c = λ blocks o. order_permuted blocks _ _ c.reverse.ensures.permutation o
