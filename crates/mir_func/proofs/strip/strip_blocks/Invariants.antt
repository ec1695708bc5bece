use Rattle.std.proofs.Common.{◌≡◌, take}
use Rattle.mir_func.specs.Strip.{stripped_blocks}
use Rattle.mir_func.proofs.strip.strip_blocks.Given as goal

abbrev pub invariant-loop-b : goal.invariant-loop-b
invariant-loop-b l = l.stripped ≡ stripped_blocks (take l.b-index l.blocks)
