use Rattle.std.proofs.Common.{◌≡◌, drop}
use Rattle.frame_table.specs.Table.{distance_in}
use Rattle.frame_table.proofs.saved.distance_in.Given as goal

abbrev pub invariant-loop-place : goal.invariant-loop-place
invariant-loop-place l = distance_in l.size (drop l.place-index l.saved) l.register ≡ distance_in l.size l.saved l.register
