use Rattle.machine_steps_proof.proofs.Laid.{images_are_laid}
use Rattle.machine_steps_proof.proofs.layout_laws.images_are_laid.Goals as goal

pub returns : goal.returns
returns c = images_are_laid
