use Rattle.std.proofs.Common.{◌≡◌, ◌≤◌, ◌-◌, ℕ, length, slice_index_or, None}
use Rattle.scan_choice.proofs.given.lengthen.Given as goal

abbrev pub invariant-loop-given : goal.invariant-loop-given
invariant-loop-given l = record {
  few : length l.given.items ≤ 4096;
  same : (k : ℕ) → slice_index_or l.given.items k None ≡ slice_index_or l.initial.given.items k None;
}

abbrev pub decreases-loop-given : goal.decreases-loop-given
decreases-loop-given l = l.count - length l.given.items
