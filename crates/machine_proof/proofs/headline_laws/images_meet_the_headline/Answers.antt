use Rattle.machine_proof.proofs.LaidOut.{images_meet_the_headline}
use Rattle.machine_proof.proofs.headline_laws.images_meet_the_headline.Goals as goal

pub returns : goal.returns
returns g c = images_meet_the_headline g.L.LocationLists.gives
