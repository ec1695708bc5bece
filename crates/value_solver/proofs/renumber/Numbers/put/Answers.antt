use Rattle.std.proofs.Common.{ℕ, length, sym, ◌∙◌}
use Rattle.std.specs.Prelude.{None, nat_eq, slice_index_or}
use Rattle.std.specs.HashMap.{get}
use Rattle.std.proofs.lemmas.Result.{on_ok_weaker}
use Rattle.value_solver.proofs.Renumbering.{with_zero, put_near, put_far}
use Rattle.value_solver.proofs.renumber.Numbers.put.Goals as goal

pub returns-then-is_near : goal.returns-then-is_near
returns-then-is_near c = λ k.
    let old = c.args.self.now in
    with_zero (nat_eq 0 k.0) (nat_eq c.args.class k.1) _ _ c.args.number
    (put_near (length old.near.items) (length c.set_number.new.numbers.items) c.args.class c.args.number (λ (v : ℕ). slice_index_or old.near.items v None)
    (λ (v : ℕ). slice_index_or c.set_number.new.numbers.items v None) (λ (v : ℕ). get nat_eq old.far v) (sym c.is_near.ensures ∙ c.if-is_near.true)
    c.set_number.ensures.count c.set_number.ensures.put k.1)

pub returns-else-is_near : goal.returns-else-is_near
returns-else-is_near c =
    let old = c.args.self.now in
    on_ok_weaker c.put_far.result
    (λ put k. with_zero (nat_eq 0 k.0) (nat_eq c.args.class k.1) _ _ c.args.number
    (put_far (length old.near.items) c.args.class c.args.number (λ (v : ℕ). slice_index_or old.near.items v None) (λ (v : ℕ). get nat_eq old.far v)
    (λ (v : ℕ). get nat_eq c.put_far.new.far v) (sym c.is_near.ensures ∙ c.if-is_near.false) put k.1))
    c.put_far.ensures
