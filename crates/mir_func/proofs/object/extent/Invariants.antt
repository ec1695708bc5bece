use Rattle.std.proofs.Common.{◌≡◌, ◌≤◌, drop}
use Rattle.mir_func.specs.Objects.{extent_from, extent_of}
use Rattle.mir_func.proofs.object.extent.Given as goal

abbrev pub invariant-loop-o : goal.invariant-loop-o
invariant-loop-o l = record {
  same : extent_from l.end (drop l.o-index l.objects) ≡ extent_of l.objects;
  few : l.end ≤ 549755813888;
}
