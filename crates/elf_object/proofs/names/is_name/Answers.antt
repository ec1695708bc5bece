use Rattle.std.proofs.Common.{◌<◌, arith, refl, sym}
use Rattle.std.proofs.lemmas.List.{take_all}
use Rattle.std.proofs.lemmas.List.Elements.{All-more, All-same}
use Rattle.elf_object.proofs.names.is_name.Goals as goal

pub loop-byte-preserved : goal.loop-byte-preserved
loop-byte-preserved c =
    All-more (λ byte. 0 < byte) c.args.name.now c.loop-byte.byte-index 0 c.loop-byte-test.true c.loop-byte.invariant (omega (arith, c.if-byte-eq0.false))

pub returns : goal.returns
returns c =
    ((λ _. All-same (λ byte. 0 < byte) _ _ (sym (take_all _ _ c.loop-byte-test.false)) c.loop-byte.invariant), λ _. refl)
