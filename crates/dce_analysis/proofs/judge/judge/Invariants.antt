use Rattle.std.proofs.Common.{take}
use Rattle.dce_analysis.proofs.Blocks.{JudgedBlocks}
use Rattle.dce_analysis.proofs.judge.judge.Given as goal

abbrev pub invariant-loop-block : goal.invariant-loop-block
invariant-loop-block l = JudgedBlocks l.f (take l.block l.f.blocks) l.dead
