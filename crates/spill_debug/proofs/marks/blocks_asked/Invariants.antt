use Rattle.std.proofs.Common.{◌≡◌, ◌++◌, drop}
use Rattle.spill_debug.specs.RewrittenDebugItems.{blocks_asked, number_beyond}
use Rattle.spill_debug.proofs.marks.blocks_asked.Given as goal

abbrev pub invariant-loop-b : goal.invariant-loop-b
invariant-loop-b l = (l.made ++ blocks_asked l.s l.fresh (drop l.b-index l.blocks) ≡ blocks_asked l.s l.initial.fresh l.blocks) ×
    (number_beyond l.s.homes l.fresh (drop l.b-index l.blocks) ≡ number_beyond l.s.homes l.initial.fresh l.blocks)
