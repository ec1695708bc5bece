use Rattle.std.proofs.Common.{◌≡◌, ◌++◌, map, take}
use Rattle.spill_code.specs.Rewrite.{spilled_block}
use Rattle.spill_code.proofs.rewrite.push_blocks.Given as goal

abbrev pub invariant-loop-b : goal.invariant-loop-b
invariant-loop-b l = l.made ≡ l.initial.made ++ map (spilled_block l.s) (take l.b-index l.blocks)
