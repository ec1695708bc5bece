use Rattle.std.proofs.Common.{take}
use Rattle.scope_variables.proofs.FileBlocks.{AreFilesOf}
use Rattle.scope_variables.proofs.files.file_blocks.Given as goal

abbrev pub invariant-loop-number : goal.invariant-loop-number
invariant-loop-number l = AreFilesOf l.debug (take l.number-index l.number-items) l.files
