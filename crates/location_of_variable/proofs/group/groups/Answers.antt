use Rattle.std.proofs.Common.{◌≡◌, ℕ, List, ◌+◌, length, refl, subst, sym, ap, ◌∙◌}
use Rattle.std.specs.Prelude.{Some, slice_get}
use Rattle.std.proofs.lemmas.Option.{slice_get_read}
use Rattle.std.proofs.lemmas.List.{length_push}
use Rattle.mir_func.specs.declared.variable.VarId.{VarId}
use Rattle.location_of_variable.specs.declared.group.Group.{Group}
use Rattle.location_of_variable.specs.Groups.{IsGroupOf}
use Rattle.location_of_variable.specs.steps.Gathering.{AreGathered}
use Rattle.location_of_variable.proofs.Gathering.{groups_push}
use Rattle.location_of_variable.proofs.group.groups.Goals as goal

pub loop-variable-preserved : goal.loop-variable-preserved
loop-variable-preserved c =
    let i = c.loop-variable.variable-index in
    let v = c.variable-item.result in
    let at = slice_get_read c.args.variables.now _ i v refl c.loop-variable-test.true c.variable-item.is in
    let numbers = c.in_ok-numbers.ensures in
    let group = c.in_ok-group_of.field-0 in
    let is = c.in_ok-group_of.ensures c.args.parts.now c.args.variables.now _ numbers
    (subst (λ (xs : List Group). AreGathered c.args.parts.now c.in_ok-numbers.numbers (length c.args.parts.now) (length c.args.variables.now) xs)
    (sym c.as_slice.ensures.value) c.in_ok-gathered.ensures) in
    record {
      count = ap length c.in_ok-push.ensures.items ∙ (length_push c.loop-variable.groups.items group ∙ ap (λ (n : ℕ). n + 1) c.loop-variable.invariant.count);
      each = subst (λ (xs : List Group). (k : ℕ) (u : VarId) (h : Group) → slice_get c.args.variables.now k ≡ Some u → slice_get xs k ≡ Some h →
          IsGroupOf c.args.parts.now u h) (sym c.in_ok-push.ensures.items)
          (groups_push c.args.parts.now c.args.variables.now i c.loop-variable.groups.items v group at c.loop-variable.invariant.count is
          c.loop-variable.invariant.each);
    }
