use Rattle.std.proofs.Common.{◌≡◌, ◌++◌, map, take}
use Rattle.frame_lowering.specs.steps.Framing.{framed_block_in}
use Rattle.frame_lowering.proofs.blocks.push_blocks.Given as goal

abbrev pub invariant-loop-b : goal.invariant-loop-b
invariant-loop-b l = l.made ≡ l.initial.made ++ map (framed_block_in l.frame) (take l.b-index l.blocks)
