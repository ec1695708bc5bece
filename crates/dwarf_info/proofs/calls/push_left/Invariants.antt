use Rattle.std.proofs.Common.{◌≡◌, ◌≤◌, ◌++◌, length, drop, map, reverse}
use Rattle.dwarf_info.specs.declared.calls.Left.TheVariants.{Call}
use Rattle.dwarf_info.proofs.calls.push_left.Given as goal

abbrev pub invariant-loop-index : goal.invariant-loop-index
invariant-loop-index l = record {
  within : l.index ≤ length l.numbers;
  written : l.left.items ≡ l.fn.left.items ++ reverse (map (λ k. Call k) (drop l.index l.numbers));
}

abbrev pub decreases-loop-index : goal.decreases-loop-index
decreases-loop-index l = l.index
