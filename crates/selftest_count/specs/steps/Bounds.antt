-- Bounds of counts.
use Rattle.std.specs.Prelude.{◌*◌, ◌^◌, ◌≤◌, List}
use Rattle.dwarf_loclists.specs.declared.range.Range.{Range}
use Rattle.dwarf_loclists.specs.Ranges.{Ascend, ArePlaces}
use Rattle.selftest_count.specs.declared.counts.Counts.{Counts}

-- the bounds of the counts after this many steps
abbrev pub AreBounded : Counts → Type 0
AreBounded n = (n.reads ≤ n.steps * 2 ^ 95) × (n.known ≤ n.steps * 2 ^ 64)

-- a location list that can be read
abbrev pub CanBeRead : List Range → Type 0
CanBeRead ranges = Ascend ranges × ArePlaces ranges
