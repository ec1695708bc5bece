use Rattle.std.proofs.Common.{◌≡◌, ◌++◌, take, drop, false}
use Rattle.pass_trait.specs.Nops.{thinned_blocks}
use Rattle.pass_trait.proofs.nops.take_out.Given as goal

abbrev pub invariant-loop-b : goal.invariant-loop-b
invariant-loop-b l = l.b-items ≡ thinned_blocks false (take l.b-index l.fn.blocks.items) ++ drop l.b-index l.fn.blocks.items
