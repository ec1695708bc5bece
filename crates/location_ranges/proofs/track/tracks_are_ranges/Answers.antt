use Rattle.location_ranges.proofs.Turning.{tracks_are_ranges}
use Rattle.location_ranges.proofs.track.tracks_are_ranges.Goals as goal

pub returns : goal.returns
returns c = tracks_are_ranges
