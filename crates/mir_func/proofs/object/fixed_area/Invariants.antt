use Rattle.std.proofs.Common.{◌≡◌, ◌≤◌, drop}
use Rattle.mir_func.specs.Objects.{depth_from}
use Rattle.mir_func.proofs.object.fixed_area.Given as goal

abbrev pub invariant-loop-o : goal.invariant-loop-o
invariant-loop-o l = record {
  same : depth_from l.depth (drop l.o-index l.objects) ≡ depth_from 0 l.objects;
  small : l.depth ≤ 2147483648;
}
