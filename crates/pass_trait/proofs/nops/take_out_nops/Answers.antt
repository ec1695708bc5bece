use Rattle.std.proofs.Common.{◌≡◌, List, Bool, true, false, sym, ap, ◌∙◌, subst}
use Rattle.sem_simulation.specs.mir_func.declared.block.Block.{Block}
use Rattle.sem_simulation.specs.mir_func.Function.{Function}
use Rattle.sem_simulation.specs.mir_func.Sound.{IsSound}
use Rattle.pass_trait.specs.Nops.{has_added_saves, thinned_blocks, thinned}
use Rattle.pass_trait.proofs.NopFollows.{thins_none}
use Rattle.pass_trait.proofs.NopSound.{sound_thin}
use Rattle.pass_trait.proofs.nops.take_out_nops.Goals as goal

same_thinned : (f : Function) → has_added_saves f.blocks ≡ true → f ≡ thinned f
same_thinned f e =
    let b : f.blocks ≡ thinned_blocks (has_added_saves f.blocks) f.blocks = sym (ap (λ (z : Bool). thinned_blocks z f.blocks) e ∙ thins_none f.blocks) in
    λ i. record f { blocks = b i }

pub returns-then-has_added_saves-clause-code : goal.returns-then-has_added_saves-clause-code
returns-then-has_added_saves-clause-code c =
    same_thinned c.args.f.now (ap has_added_saves (ap (λ (g : Function). g.blocks) (sym c.f.view_is) ∙ sym c.as_slice.ensures) ∙
    sym c.if-has_added_saves.ensures)

pub invariant_of-f : goal.invariant_of-f
invariant_of-f c =
    let With : List Block → Type 0 = λ bs. IsSound (record {
      name = c.f-inside.inside.0.0;
      slots = c.f-inside.inside.0.1.0;
      objects = c.f-inside.inside.0.1.1.0;
      blocks = bs;
    }) in
    let s = subst (λ z. IsSound (record { name = z.name; slots = z.slots; objects = z.objects; blocks = z.blocks })) (sym c.f-inside.view_is) c.f.invariant in
    subst With (sym c.take_out.ensures) (sound_thin false _ s)
