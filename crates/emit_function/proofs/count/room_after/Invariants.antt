use Rattle.std.proofs.Common.{◌≡◌, ◌+◌, drop}
use Rattle.std.specs.Prelude.{sum_by}
use Rattle.emit_code.specs.Counts.{item_count}
use Rattle.emit_function.proofs.count.room_after.Given as goal

abbrev pub invariant-loop-i : goal.invariant-loop-i
invariant-loop-i l = l.left + sum_by item_count l.items ≡ l.room + sum_by item_count (drop l.i-index l.items)
