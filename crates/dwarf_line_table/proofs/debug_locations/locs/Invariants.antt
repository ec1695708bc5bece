use Rattle.std.proofs.Common.{◌≡◌, ◌≤◌, ℕ, suc, length, drop}
use Rattle.dwarf_line_table.specs.SourcePosition.{first_loc}
use Rattle.dwarf_line_table.specs.steps.DebugLocations.{loc_at}
use Rattle.dwarf_line_table.proofs.debug_locations.locs.Given as goal

abbrev pub invariant-loop-index : goal.invariant-loop-index
invariant-loop-index l = record {
  long : length l.locs.items ≡ suc (length l.items);
  within : l.index ≤ length l.items;
  found : (k : ℕ) → l.index ≤ k → loc_at l.locs.items k ≡ first_loc (drop k l.items);
}

abbrev pub decreases-loop-index : goal.decreases-loop-index
decreases-loop-index l = l.index
