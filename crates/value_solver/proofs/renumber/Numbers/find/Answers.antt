use Rattle.std.proofs.Common.{ℕ, List, Bool, sym, ap, ◌∙◌}
use Rattle.std.specs.Prelude.{Option, None, cond, nat_eq, slice_index_or}
use Rattle.std.specs.HashMap.{get}
use Rattle.value_solver.proofs.renumber.Numbers.find.Goals as goal

pub returns-then-is_near : goal.returns-then-is_near
returns-then-is_near c =
    let t = c.args.self.now in
    c.number_at.ensures ∙ ap (λ (xs : List (Option ℕ)). slice_index_or xs c.args.class None) c.as_slice.ensures.value
    ∙ sym (ap (λ (z : Bool). cond z (slice_index_or t.near.items c.args.class None) (get nat_eq t.far c.args.class))
    (sym c.is_near.ensures ∙ c.if-is_near.true))

pub returns-else-is_near : goal.returns-else-is_near
returns-else-is_near c =
    let t = c.args.self.now in
    c.find_far.ensures
    ∙ sym (ap (λ (z : Bool). cond z (slice_index_or t.near.items c.args.class None) (get nat_eq t.far c.args.class))
    (sym c.is_near.ensures ∙ c.if-is_near.false))
