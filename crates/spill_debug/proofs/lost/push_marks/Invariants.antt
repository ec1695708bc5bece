use Rattle.std.proofs.Common.{◌≡◌, ◌++◌, take}
use Rattle.spill_debug.specs.Lost.{marks_silenced}
use Rattle.spill_debug.proofs.lost.push_marks.Given as goal

abbrev pub invariant-loop-i : goal.invariant-loop-i
invariant-loop-i l = l.marks.items ≡ l.initial.marks.items ++ marks_silenced l.s (take l.i-index l.items)
