use Rattle.sim_proof.proofs.Shows.{images_show_code}
use Rattle.sim_proof.proofs.image_laws.images_show_code.Goals as goal

pub returns : goal.returns
returns c = images_show_code
