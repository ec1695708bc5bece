use Rattle.std.proofs.Common.{◌≡◌, map, take}
use Rattle.global_registers.specs.Shared.{block_by}
use Rattle.global_registers.proofs.shared.blocks_by.Given as goal

abbrev pub invariant-loop-block : goal.invariant-loop-block
invariant-loop-block l = l.made ≡ map (block_by l.shares) (take l.block-index l.blocks)
