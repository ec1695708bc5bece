use Rattle.std.proofs.Common.{◌≡◌, ◌≤◌, ◌+◌, drop}
use Rattle.mir_func.specs.Objects.{local_offsets, local_count}
use Rattle.mir_func.proofs.sound_objects.local_count.Given as goal

abbrev pub invariant-loop-o : goal.invariant-loop-o
invariant-loop-o l = record {
  same : l.count + local_count (local_offsets (drop l.o-index l.objects)) ≡ local_count (local_offsets l.objects);
  few : l.count ≤ l.o-index;
}
