use Rattle.std.proofs.Common.{sym}
use Rattle.std.proofs.lemmas.List.{take_all}
use Rattle.std.proofs.lemmas.List.Elements.{All-more, All-same}
use Rattle.elf_load.specs.Load.{IsReached}
use Rattle.elf_load.proofs.Relocated.{relocated_more, relocated_all}
use Rattle.elf_load.proofs.relocate.relocate.Goals as goal

pub loop-index-preserved : goal.loop-index-preserved
loop-index-preserved c = record {
  text = relocated_more c.args.base c.args.addresses.now c.args.relocations.now c.loop-index.index _ c.in-Some.distance c.loop-index.text _ _
      c.loop-index-test.true c.loop-index.invariant.text c.write_call.ensures c.in-Some.ensures.1;
  before = All-more (IsReached c.args.base c.args.addresses.now) c.args.relocations.now c.loop-index.index _ c.loop-index-test.true
      c.loop-index.invariant.before c.in-Some.ensures.0;
}

pub returns : goal.returns
returns c = (
  relocated_all c.args.base c.args.addresses.now c.args.relocations.now c.loop-index.index c.loop-index.text _ c.loop-index-test.false
      c.loop-index.invariant.text,
  All-same (IsReached c.args.base c.args.addresses.now) _ _ (sym (take_all _ _ c.loop-index-test.false)) c.loop-index.invariant.before,
)
