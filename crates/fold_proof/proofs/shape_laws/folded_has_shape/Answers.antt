use Rattle.fold_proof.proofs.Shape.{folded_has_shape}
use Rattle.fold_proof.proofs.shape_laws.folded_has_shape.Goals as goal

pub returns : goal.returns
returns c = folded_has_shape
