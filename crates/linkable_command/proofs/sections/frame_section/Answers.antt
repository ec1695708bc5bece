use Rattle.linkable_command.proofs.Written.{lost_undefined}
use Rattle.linkable_command.proofs.sections.frame_section.Goals as goal

pub frame_pieces-requires-clause-undefined : goal.frame_pieces-requires-clause-undefined
frame_pieces-requires-clause-undefined c = lost_undefined
