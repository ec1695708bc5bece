use Rattle.frame_theorem.proofs.Suspended.{suspended_frames_hold}
use Rattle.frame_theorem.proofs.laws.suspended_frames_hold.Goals as goal

pub returns : goal.returns
returns g c = suspended_frames_hold g.L.LocationLists.gives
