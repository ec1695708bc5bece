use Rattle.std.proofs.Common.{◌≡◌, ◌≤◌, ◌*◌, ◌^◌, take}
use Rattle.selftest_count.specs.Counts.{read_at}
use Rattle.selftest_count.proofs.read.reads.Given as goal

abbrev pub invariant-loop-ranges : goal.invariant-loop-ranges
invariant-loop-ranges l = record {
  few : l.reads ≤ l.ranges-index * 2 ^ 32;
  is : l.reads ≡ read_at (take l.ranges-index l.lists) l.address;
}
