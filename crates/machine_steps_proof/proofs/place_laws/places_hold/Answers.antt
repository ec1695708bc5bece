use Rattle.machine_steps_proof.proofs.Places.{places_hold}
use Rattle.machine_steps_proof.proofs.place_laws.places_hold.Goals as goal

pub returns : goal.returns
returns c = places_hold
