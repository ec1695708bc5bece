use Rattle.std.proofs.Common.{◌≡◌, take}
use Rattle.read_program.specs.Ends.{ended_blocks}
use Rattle.read_program.proofs.ends.ended_blocks.Given as goal

abbrev pub invariant-loop-block : goal.invariant-loop-block
invariant-loop-block l = l.ended ≡ ended_blocks l.closed (take l.block-index l.blocks)
