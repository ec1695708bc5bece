use Rattle.std.proofs.Common.{◌≡◌, sym, subst, ap, ◌∙◌}
use Rattle.mir_func.specs.Function.{Function}
use Rattle.mir_func.specs.Sound.{IsSound}
use Rattle.mir_func.specs.Strip.{stripped, stripped_blocks}
use Rattle.mir_func.proofs.Stripping.{stripped_sound}
use Rattle.mir_func.proofs.strip.strip.Goals as goal

pub invariant_of-result : goal.invariant_of-result
invariant_of-result c =
    let f : Function = record { name = c.f.inside.name; slots = c.f.inside.slots; objects = c.f.inside.objects; blocks = c.f.inside.blocks } in
    let blocks = c.in_ok-strip_blocks.ensures ∙ ap stripped_blocks c.as_slice.ensures in
    let made : Function = record {
      name = c.in_ok-copy.field-0;
      slots = c.in_ok-copy-2.field-0;
      objects = c.in_ok-copy-3.field-0;
      blocks = c.in_ok-strip_blocks.field-0;
    } in
    let same : stripped f ≡ made =
    λ i. record { name = sym c.in_ok-copy.ensures i; slots = sym c.in_ok-copy-2.ensures i; objects = sym c.in_ok-copy-3.ensures i; blocks = sym blocks i } in
    subst IsSound same (stripped_sound f c.f.invariant)
