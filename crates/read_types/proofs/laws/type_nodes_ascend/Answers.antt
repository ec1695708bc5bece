use Rattle.read_types.specs.Types.{is_type}
use Rattle.read_types.proofs.Listing.{ascending}
use Rattle.read_types.proofs.laws.type_nodes_ascend.Goals as goal

pub returns : goal.returns
returns c = λ m. ascending m (is_type m)
