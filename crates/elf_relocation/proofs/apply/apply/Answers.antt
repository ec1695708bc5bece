use Rattle.std.proofs.Common.{◌≡◌, true, sym, ◌∙◌}
use Rattle.std.proofs.lemmas.List.{take_all}
use Rattle.std.proofs.lemmas.List.Elements.{All-more, All-same}
use Rattle.elf_relocation.specs.Applied.{IsInRange}
use Rattle.elf_relocation.proofs.AppliedLemmas.{applied_more, applied_all}
use Rattle.elf_relocation.proofs.apply.apply.Goals as goal

pub loop-index-preserved : goal.loop-index-preserved
loop-index-preserved c =
    let fits : c.apply_one.result ≡ true = c.if-not-apply_one.false in
    record {
      bytes = applied_more c.args.base c.args.addresses.now c.args.relocations.now c.loop-index.index _ c.loop-index.bytes _ _ c.loop-index-test.true
          c.loop-index.invariant.bytes (c.apply_one.ensures.bytes fits);
      before = All-more (IsInRange c.args.base c.args.addresses.now) c.args.relocations.now c.loop-index.index _ c.loop-index-test.true
          c.loop-index.invariant.before (sym c.apply_one.ensures.range ∙ fits);
    }

pub returns : goal.returns
returns c = (
  applied_all c.args.base c.args.addresses.now c.args.relocations.now c.loop-index.index c.loop-index.bytes _ c.loop-index-test.false
      c.loop-index.invariant.bytes,
  All-same (IsInRange c.args.base c.args.addresses.now) _ _ (sym (take_all _ _ c.loop-index-test.false)) c.loop-index.invariant.before,
)
