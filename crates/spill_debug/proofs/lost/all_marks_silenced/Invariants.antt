use Rattle.std.proofs.Common.{◌≡◌, take}
use Rattle.spill_debug.specs.Lost.{all_marks_silenced}
use Rattle.spill_debug.proofs.lost.all_marks_silenced.Given as goal

abbrev pub invariant-loop-b : goal.invariant-loop-b
invariant-loop-b l = l.marks.items ≡ all_marks_silenced l.s (take l.b-index l.blocks)
