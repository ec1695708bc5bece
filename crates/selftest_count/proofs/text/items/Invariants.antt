use Rattle.std.proofs.Common.{◌≡◌, ◌≤◌, ◌*◌, ◌^◌, take}
use Rattle.selftest_count.specs.Text.{items_of}
use Rattle.selftest_count.proofs.text.items.Given as goal

abbrev pub invariant-loop-block : goal.invariant-loop-block
invariant-loop-block l = record {
  few : l.items ≤ l.block-index * 2 ^ 32;
  is : l.items ≡ items_of (take l.block-index l.blocks);
}
