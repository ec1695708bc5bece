-- The table of debug locations of a function.
use Rattle.std.specs.Prelude.{◌≡◌, ℕ, List, Vec, drop, get_or, Option, Some, None}
use Rattle.std.specs.Ordering.{nat_cmp}
use Rattle.std.specs.BTreeMap.{get}
use Rattle.mir_func.specs.declared.block.Block.{Block}
use Rattle.mir_func.specs.declared.item.Item.{Item}
use Rattle.mir_func.specs.declared.location.Loc.{Loc}
use Rattle.mir_func.specs.declared.location.Loc.TheVariants.{Absent}
use Rattle.mir_func.specs.declared.position.Pos.{Pos}
use Rattle.dwarf_line_table.specs.declared.debug_locations.DebugLocations.{DebugLocations}
use Rattle.dwarf_line_table.specs.SourcePosition.{first_loc, loc_of}

-- the debug location at an index, and Absent beyond the list
abbrev pub loc_at : List Loc → ℕ → Loc
loc_at locs k = get_or locs k Absent

-- at each index the list has the debug location of the first code at or after it
abbrev pub AreLocs : List Item → List Loc → Type 0
AreLocs items locs = (k : ℕ) → loc_at locs k ≡ first_loc (drop k items)

abbrev pub loc_among : {Z : Type 0} → Option (Vec Loc Z) → ℕ → Loc
loc_among None k = Absent
loc_among (Some locs) k = loc_at locs.items k

-- at each position of the blocks the table has its debug location
abbrev pub AreDebugLocations : List Block → DebugLocations → Type 0
AreDebugLocations blocks places = (p : Pos) → loc_among (get nat_cmp places.table p.block) p.item ≡ loc_of blocks p
