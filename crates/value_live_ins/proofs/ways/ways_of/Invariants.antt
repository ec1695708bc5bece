use Rattle.std.proofs.Common.{◌≡◌, ◌++◌, drop, map}
use Rattle.mir_func.specs.Successors.{ways}
use Rattle.value_live_ins.specs.steps.Ways.{enter_by}
use Rattle.value_live_ins.proofs.ways.ways_of.Given as goal

abbrev pub invariant-loop-item : goal.invariant-loop-item
invariant-loop-item l = l.found ++ map (enter_by l.indices) (ways (drop l.item-index l.items) l.next) ≡ map (enter_by l.indices) (ways l.items l.next)
