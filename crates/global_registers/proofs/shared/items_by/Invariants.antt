use Rattle.std.proofs.Common.{◌≡◌, map, take}
use Rattle.global_registers.specs.Shared.{item_by}
use Rattle.global_registers.proofs.shared.items_by.Given as goal

abbrev pub invariant-loop-item : goal.invariant-loop-item
invariant-loop-item l = l.made ≡ map (item_by l.shares) (take l.item-index l.items)
