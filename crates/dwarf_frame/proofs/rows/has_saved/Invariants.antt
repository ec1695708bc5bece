use Rattle.std.proofs.Common.{◌≡◌, drop}
use Rattle.dwarf_frame.specs.Table.{is_saved}
use Rattle.dwarf_frame.proofs.rows.has_saved.Given as goal

abbrev pub invariant-loop-distance : goal.invariant-loop-distance
invariant-loop-distance l = is_saved (drop l.distance-index l.saved) ≡ is_saved l.saved
