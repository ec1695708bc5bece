use Rattle.copyprop_rule.proofs.Loop.{Copies}
use Rattle.copyprop_rule.proofs.function.copy_in_blocks.Given as goal

abbrev pub invariant-loop-b : goal.invariant-loop-b
invariant-loop-b l = Copies l.fn.blocks.items l.fn.subs l.fn.fresh l.b-index l.b-items l.subs l.fresh
