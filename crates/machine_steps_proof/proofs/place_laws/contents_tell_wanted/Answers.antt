use Rattle.machine_steps_proof.proofs.Contents.{contents_tell_wanted}
use Rattle.machine_steps_proof.proofs.place_laws.contents_tell_wanted.Goals as goal

pub returns : goal.returns
returns c = contents_tell_wanted
