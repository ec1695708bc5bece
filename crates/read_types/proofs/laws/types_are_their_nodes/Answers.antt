use Rattle.read_types.proofs.Places.{type_at}
use Rattle.read_types.proofs.laws.types_are_their_nodes.Goals as goal

pub returns : goal.returns
returns c = λ m n is. type_at m n is
