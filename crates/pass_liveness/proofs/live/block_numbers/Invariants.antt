use Rattle.std.proofs.Common.{◌≡◌, take}
use Rattle.mir_func.specs.Sound.{ids_of}
use Rattle.pass_liveness.proofs.live.block_numbers.Given as goal

abbrev pub invariant-loop-block : goal.invariant-loop-block
invariant-loop-block l = l.numbers.items ≡ ids_of (take l.block-index l.blocks)
