use Rattle.gen_sizes.proofs.Frames.{generated_frames_are_small}
use Rattle.gen_sizes.proofs.laws.generated_frames_are_small.Goals as goal

pub returns : goal.returns
returns c = generated_frames_are_small
