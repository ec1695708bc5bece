use Rattle.std.proofs.Common.{◌≡◌, take}
use Rattle.mir_func.proofs.block.copy_blocks.Given as goal

abbrev pub invariant-loop-b : goal.invariant-loop-b
invariant-loop-b l = l.copied ≡ take l.b-index l.blocks
