use Rattle.std.proofs.Common.{◌≡◌, ◌++◌, drop}
use Rattle.spill_debug.specs.RewrittenDebugItems.{items_asked, number_behind}
use Rattle.spill_debug.proofs.marks.push_items.Given as goal

abbrev pub invariant-loop-i : goal.invariant-loop-i
invariant-loop-i l = (l.made ++ items_asked l.s l.fresh (drop l.i-index l.items) ≡ l.initial.made ++ items_asked l.s l.initial.fresh l.items) ×
    (number_behind l.s.homes l.fresh (drop l.i-index l.items) ≡ number_behind l.s.homes l.initial.fresh l.items)
