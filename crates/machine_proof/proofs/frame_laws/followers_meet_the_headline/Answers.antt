use Rattle.machine_proof.proofs.Followers.{followers_meet_the_headline}
use Rattle.machine_proof.proofs.frame_laws.followers_meet_the_headline.Goals as goal

pub returns : goal.returns
returns g c = followers_meet_the_headline g.L.LocationLists.gives
