use Rattle.std.proofs.Common.{◌≡◌, ◌+◌, ◌++◌, ℕ, List, map, sym, ap, subst, ◌∙◌}
use Rattle.std.specs.Prelude.{OnOk}
use Rattle.mir_func.specs.declared.object.Object.{Object}
use Rattle.mir_func.specs.Objects.{area_of}
use Rattle.read_body.specs.FixedObjects.{fixed_object, area_with}
use Rattle.read_body.proofs.FixedObjects.{with_is}
use Rattle.read_body.proofs.fixed_objects.push_fixed.Goals as goal

pub returns : goal.returns
returns c =
    let objects = c.args.objects.now in
    let entries = c.args.entries.now in
    let size : c.area.result + c.fixed_room.result ≡ area_with objects entries = ap (λ (n : ℕ). n + c.fixed_room.result)
    (c.area.ensures.value ∙ ap area_of c.as_slice.ensures) ∙ ap (λ (n : ℕ). area_of objects + n) c.fixed_room.ensures.value in
    subst (λ (os : List Object). OnOk c.push_all.result (c.push_all.new.objects ≡ os))
    (ap (λ (n : ℕ). objects ++ map (fixed_object n) entries) size ∙ sym (with_is objects entries)) c.push_all.ensures
