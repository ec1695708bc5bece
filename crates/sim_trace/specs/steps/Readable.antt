-- Location lists that can be read: their places can be listed, and their ranges ascend.
use Rattle.std.specs.Prelude.{◌≤◌}
use Rattle.dwarf_loclists.specs.declared.range.Part.{Part}
use Rattle.dwarf_loclists.specs.Ranges.{IsListed, ArePlaces, Ascend}
use Rattle.sim_trace.specs.declared.variable.Variable.{Variable}

abbrev pub IsReadablePiece : Part → Type 0
IsReadablePiece p = IsListed p.place × (p.length ≤ 8)

abbrev pub IsReadable : Variable → Type 0
IsReadable v = Ascend v.ranges × ArePlaces v.ranges
