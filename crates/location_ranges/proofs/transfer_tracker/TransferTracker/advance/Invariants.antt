use Rattle.std.proofs.Common.{◌≡◌, List}
use Rattle.mir_func.specs.declared.block.Block.{Block}
use Rattle.location_ranges.specs.Stands.{AreValuesOf, Stands, Stays, Fits, IsBlockAt}
use Rattle.location_ranges.proofs.transfer_tracker.TransferTracker.advance.Given as goal

abbrev pub invariant-loop-k : goal.invariant-loop-k
invariant-loop-k l = record {
  item : l.self.item ≡ l.k;
  block : l.self.block ≡ l.initial.self.block;
  fits : Fits l.self l.values;
  stays : Stays l.initial.self l.self;
  stands : (blocks : List Block) → AreValuesOf blocks l.values → IsBlockAt blocks l.initial.self.block l.items →
      Stands blocks l.values l.index l.initial.self → Stands blocks l.values l.index l.self;
}
