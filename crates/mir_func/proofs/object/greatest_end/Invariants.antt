use Rattle.std.proofs.Common.{◌≡◌, ◌≤◌, drop}
use Rattle.mir_func.specs.Objects.{end_from}
use Rattle.mir_func.proofs.object.greatest_end.Given as goal

abbrev pub invariant-loop-o : goal.invariant-loop-o
invariant-loop-o l = record {
  same : end_from l.end (drop l.o-index l.objects) ≡ end_from 0 l.objects;
  few : l.end ≤ 483183820800;
}
