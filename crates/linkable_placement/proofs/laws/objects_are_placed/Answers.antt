use Rattle.linkable_placement.proofs.Placed.{object_placed}
use Rattle.linkable_placement.proofs.laws.objects_are_placed.Goals as goal

pub returns : goal.returns
returns c = object_placed
