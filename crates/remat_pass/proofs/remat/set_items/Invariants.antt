use Rattle.remat_pass.specs.Table.{known_by}
use Rattle.remat_pass.proofs.Setting.{Setting}
use Rattle.remat_pass.proofs.remat.set_items.Given as goal

abbrev pub invariant-loop-item : goal.invariant-loop-item
invariant-loop-item l = Setting l.fn.items.items l.item-index (known_by l.known.registers l.known.slots) l.item-items
