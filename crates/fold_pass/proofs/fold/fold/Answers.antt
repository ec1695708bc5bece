use Rattle.std.proofs.Common.{◌≡◌, refl, subst, sym}
use Rattle.mir_func.specs.Function.{Function}
use Rattle.mir_func.specs.Sound.{IsSound}
use Rattle.fold_proof.proofs.fold_rule_proof.KillSound.{sound_killed}
use Rattle.fold_pass.proofs.Folding.{with_all_kills}
use Rattle.fold_pass.proofs.fold.fold.Goals as goal

pub invariant_of-f : goal.invariant_of-f
invariant_of-f c =
    let s = c.as_slice-2.ensures in
    let g : Function = record {
      name = c.f-inside.inside.0.0;
      slots = c.f-inside.inside.0.1.0;
      objects = c.f-inside.inside.0.1.1.0;
      blocks =
          c.as_slice-2.result.now;
    } in
    let same : g ≡ record { name = c.f.inside.name; slots = c.f.inside.slots; objects = c.f.inside.objects; blocks = c.f.inside.blocks } =
    λ i. record {
      name = (c.f-inside.view_is i).name;
      slots = (c.f-inside.view_is i).slots;
      objects = (c.f-inside.view_is i).objects;
      blocks = s i;
    } in
    let h : Function = record g { blocks = c.fold_copy.new.after.items } in
    sound_killed g h (subst (λ (z : Function). IsSound z) (sym same) c.f.invariant)
    (with_all_kills g h c.in_ok-losses.losses c.in_ok-losses.ensures.folded refl)
