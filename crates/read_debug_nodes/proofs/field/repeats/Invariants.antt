use Rattle.std.proofs.Common.{◌≡◌, ◌≤◌, false, length, drop}
use Rattle.read_debug_nodes.specs.Field.{repeats}
use Rattle.read_debug_nodes.specs.steps.Keys.{AreKeys}
use Rattle.read_debug_nodes.proofs.field.repeats.Given as goal

abbrev pub invariant-loop-left : goal.invariant-loop-left
invariant-loop-left l = record {
  within : l.left ≤ length l.fields;
  keys : AreKeys l.line l.keys (drop l.left l.fields);
  once : repeats l.line (drop l.left l.fields) ≡ false;
}

abbrev pub decreases-loop-left : goal.decreases-loop-left
decreases-loop-left l = l.left
