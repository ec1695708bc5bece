use Rattle.std.proofs.Common.{sym, subst}
use Rattle.std.specs.Prelude.{OnOk}
use Rattle.mir_func.specs.Function.{Function}
use Rattle.mir_func.specs.Sound.{AllItems, IsSound, HasForm}
use Rattle.remat_pass.proofs.Sound.{sound_set}
use Rattle.remat_pass.proofs.remat.set_constants.Goals as goal

pub invariant_of-f : goal.invariant_of-f
invariant_of-f c =
    let s = subst (λ z. IsSound (record { name = z.name; slots = z.slots; objects = z.objects; blocks = z.blocks })) (sym c.f-inside.view_is) c.f.invariant in
    sound_set _ c.set_blocks.new.blocks.items c.set_blocks.ensures.each s

pub returns-clause-forms : goal.returns-clause-forms
returns-clause-forms c =
    let inside = subst (λ z. OnOk c.set_blocks.result (AllItems (λ i. HasForm i.kind) z.blocks)) c.f-inside.view_is c.set_blocks.ensures.forms in
    subst (λ (g : Function). OnOk c.set_blocks.result (AllItems (λ i. HasForm i.kind) g.blocks)) c.f.view_is inside
