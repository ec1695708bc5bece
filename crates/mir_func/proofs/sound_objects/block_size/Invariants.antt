use Rattle.std.proofs.Common.{◌≡◌, ◌≤◌, drop}
use Rattle.mir_func.specs.Objects.{local_offsets, reach_from}
use Rattle.mir_func.proofs.sound_objects.block_size.Given as goal

abbrev pub invariant-loop-o : goal.invariant-loop-o
invariant-loop-o l = record {
  same : reach_from l.reach (local_offsets (drop l.o-index l.objects)) ≡ reach_from 0 (local_offsets l.objects);
  small : l.reach ≤ 4294967295;
}
