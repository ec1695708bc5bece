use Rattle.std.proofs.Common.{◌≡◌, ◌≤◌, length, drop}
use Rattle.std.specs.Ordering.{nat_cmp}
use Rattle.std.specs.BTreeMap.{get}
use Rattle.mir_func.specs.declared.position.Pos.{Pos}
use Rattle.dwarf_line_table.specs.SourcePosition.{loc_of}
use Rattle.dwarf_line_table.specs.steps.DebugLocations.{loc_among}
use Rattle.dwarf_line_table.proofs.debug_locations.DebugLocations.new.Given as goal

abbrev pub invariant-loop-index : goal.invariant-loop-index
invariant-loop-index l = record {
  within : l.index ≤ length l.blocks;
  found : (p : Pos) → loc_among (get nat_cmp l.places p.block) p.item ≡ loc_of (drop l.index l.blocks) p;
}

abbrev pub decreases-loop-index : goal.decreases-loop-index
decreases-loop-index l = l.index
