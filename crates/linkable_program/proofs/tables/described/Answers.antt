use Rattle.linkable_command.proofs.Written.{lost_undefined}
use Rattle.linkable_program.proofs.tables.described.Goals as goal

pub frame_size-requires-clause-undefined : goal.frame_size-requires-clause-undefined
frame_size-requires-clause-undefined c = lost_undefined
