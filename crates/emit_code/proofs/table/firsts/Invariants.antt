use Rattle.std.proofs.Common.{◌≡◌, ◌+◌, ◌++◌, drop}
use Rattle.emit_code.specs.steps.Places.{items_count, firsts_from}
use Rattle.emit_code.proofs.table.firsts.Given as goal

abbrev pub invariant-loop-block : goal.invariant-loop-block
invariant-loop-block l = record {
  listed : l.firsts ++ firsts_from l.first (drop l.block-index l.blocks) ≡ firsts_from 0 l.blocks;
  counted : l.first + items_count (drop l.block-index l.blocks) ≡ items_count l.blocks;
}
