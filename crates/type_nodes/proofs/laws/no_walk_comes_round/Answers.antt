use Rattle.type_nodes.specs.Standing.{Step}
use Rattle.type_nodes.proofs.Walks.{comes_not_round}
use Rattle.type_nodes.proofs.laws.no_walk_comes_round.Goals as goal

pub returns : goal.returns
returns c = λ types walk steps n stands walked. comes_not_round (Step walk types) steps (stands.walks walk) walked
