use Rattle.std.proofs.Common.{◌≡◌, take}
use Rattle.mir_func.proofs.item.copy_items.Given as goal

abbrev pub invariant-loop-i : goal.invariant-loop-i
invariant-loop-i l = l.copied ≡ take l.i-index l.items
