use Rattle.std.proofs.Common.{◌≡◌, take}
use Rattle.mir_func.specs.Strip.{stripped_items}
use Rattle.mir_func.proofs.strip.strip_items.Given as goal

abbrev pub invariant-loop-i : goal.invariant-loop-i
invariant-loop-i l = l.stripped ≡ stripped_items (take l.i-index l.items)
