use Rattle.std.proofs.Common.{◌≡◌, ◌≤◌, length, take, drop, filter}
use Rattle.rv64_instr.specs.Row.{row_of}
use Rattle.copyprop_block.specs.Roots.{outlives}
use Rattle.copyprop_block.proofs.roots.forget.Given as goal

abbrev pub invariant-loop-at : goal.invariant-loop-at
invariant-loop-at l = record {
  front : take l.kept l.roots.items ≡ filter (outlives (row_of l.i)) (take l.at l.initial.roots.items);
  behind : drop l.at l.roots.items ≡ drop l.at l.initial.roots.items;
  size : length l.roots.items ≡ length l.initial.roots.items;
  within : l.kept ≤ l.at;
}
