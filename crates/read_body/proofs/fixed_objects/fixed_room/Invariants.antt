use Rattle.std.proofs.Common.{◌≡◌, ◌≤◌, drop}
use Rattle.read_body.specs.FixedObjects.{fixed_depth}
use Rattle.read_body.proofs.fixed_objects.fixed_room.Given as goal

abbrev pub invariant-loop-entry : goal.invariant-loop-entry
invariant-loop-entry l = record {
  same : fixed_depth l.depth (drop l.entry-index l.entries) ≡ fixed_depth 0 l.entries;
  small : l.depth ≤ 2147483648;
}
