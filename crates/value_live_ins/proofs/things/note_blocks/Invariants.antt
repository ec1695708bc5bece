use Rattle.std.proofs.Common.{map}
use Rattle.std.specs.Prelude.{All, IsTrue}
use Rattle.mir_func.specs.declared.block.Block.{Block}
use Rattle.mir_func.specs.Resolve.{resolve}
use Rattle.value_solver.specs.Entry.{thing}
use Rattle.value_live_ins.specs.Gathering.{IsGathered, Grows, AppendsOnly, KnowsPassed, KnowsPassedItems}
use Rattle.value_live_ins.specs.Used.{IsNamed}
use Rattle.value_live_ins.proofs.Each.{EachBelow}
use Rattle.value_live_ins.proofs.things.note_blocks.Given as goal

abbrev pub invariant-loop-block : goal.invariant-loop-block
invariant-loop-block l = record {
  gathered : IsGathered l.gathered;
  grows : Grows l.initial.gathered.things l.gathered.things;
  knows : EachBelow (λ (b : Block). KnowsPassedItems (map thing l.gathered.things) (resolve l.subs) b.items) l.block-index l.blocks;
  whole : IsTrue l.whole → EachBelow (λ (b : Block). All (λ i. KnowsPassed (map thing l.gathered.things) (resolve l.subs) i.kind) b.items) l.block-index
      l.blocks;
  only : AppendsOnly (IsNamed (resolve l.subs) l.blocks) l.initial.gathered.things l.gathered.things;
}
