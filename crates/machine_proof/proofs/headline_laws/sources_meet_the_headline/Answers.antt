use Rattle.machine_proof.proofs.LaidOut.{sources_meet_the_headline}
use Rattle.machine_proof.proofs.headline_laws.sources_meet_the_headline.Goals as goal

pub returns : goal.returns
returns g c = sources_meet_the_headline g.L.LocationLists.gives
