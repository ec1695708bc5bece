use Rattle.debug_placement.proofs.FrameProofs.{frames_placed, spelled_alone}
use Rattle.debug_placement.proofs.laws.placed_frames_are_moved.Goals as goal

pub returns-clause-placed : goal.returns-clause-placed
returns-clause-placed c = frames_placed

pub returns-clause-alone : goal.returns-clause-alone
returns-clause-alone c = spelled_alone
