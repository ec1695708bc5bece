use Rattle.std.proofs.Common.{◌≡◌, ◌+◌, drop}
use Rattle.emit_code.specs.Counts.{count_of}
use Rattle.emit_function.proofs.count.are_few.Given as goal

abbrev pub invariant-loop-b : goal.invariant-loop-b
invariant-loop-b l = l.room + count_of l.blocks ≡ 262143 + count_of (drop l.b-index l.blocks)
