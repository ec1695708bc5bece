use Rattle.std.proofs.Common.{◌≡◌, ◌↔◌, ◌+◌, ◌≤◌, ℕ, List, Some, subst, ap, ◌∙◌, sym}
use Rattle.std.specs.Prelude.{option_map}
use Rattle.std.specs.Ordering.{nat_cmp}
use Rattle.std.specs.BTreeMap.{get}
use Rattle.mir_func.specs.Objects.{object_of}
use Rattle.mir_func.specs.Sound.{HasBytes}
use Rattle.mir_func.specs.declared.object.Object.{Object}
use Rattle.mir_func.proofs.Laid.{has_bytes_by}
use Rattle.mir_func.proofs.object_sizes.ObjectSizes.has_bytes.Goals as goal

pub returns-in-Some : goal.returns-in-Some
returns-in-Some c =
    let list = c.self.inside.list in
    let size = c.in-Some.size.now in
    let found : option_map (λ (o : Object). o.size) (object_of list c.args.n) ≡ Some size =
    sym (c.self.invariant c.args.n) ∙ (ap (λ (k : ℕ). get nat_cmp c.self.inside.sizes k) (sym c.number.ensures) ∙ sym c.in-Some.ensures.value) in
    let here = has_bytes_by list c.args.n (c.args.offset + c.args.width) size found in
    let view : list ≡ c.args.self.now = cc in
    let both : (c.args.offset + c.args.width ≤ size) ↔ HasBytes c.args.self.now c.args.n (c.args.offset + c.args.width) =
    subst (λ (os : List Object). (c.args.offset + c.args.width ≤ size) ↔ HasBytes os c.args.n (c.args.offset + c.args.width)) view here in
    let held = rw c.from.ensures at c.holds.ensures in
    (λ t. both.0 (held.0 t), λ h. held.1 (both.1 h))
