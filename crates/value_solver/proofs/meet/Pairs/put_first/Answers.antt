use Rattle.std.proofs.Common.{◌≡◌, ℕ, length, subst, arith}
use Rattle.std.specs.Prelude.{Some, None, cond, nat_eq, slice_index_or}
use Rattle.value_solver.specs.PairNumbers.{number_behind}
use Rattle.value_solver.proofs.Pairing as pair
use Rattle.value_solver.proofs.meet.Pairs.put_first.Goals as goal

pub returns-clause-put : goal.returns-clause-put
returns-clause-put c =
    let put = subst (λ (m : ℕ). (v : ℕ) → slice_index_or c.set_first.new.firsts.items v None
    ≡ cond (nat_eq v c.args.b) (Some (record { class = m; number = c.args.number })) (slice_index_or c.args.self.now.firsts.items v None))
    c.from.ensures c.set_first.ensures.put in
    pair.put_first (λ (v : ℕ). slice_index_or c.args.self.now.firsts.items v None) (λ (v : ℕ). slice_index_or c.set_first.new.firsts.items v None)
    (number_behind c.args.self.now) c.args.a c.args.b c.args.number c.requires.free put

pub returns-clause-tidy : goal.returns-clause-tidy
returns-clause-tidy c = λ k lt none.
    let old = c.args.self.now in
    pair.tidy_first (λ (v : ℕ). slice_index_or old.firsts.items v None) (λ (v : ℕ). slice_index_or c.set_first.new.firsts.items v None)
    (number_behind old) c.args.b (length old.firsts.items) (record { class = c.from.result; number = c.args.number }) c.set_first.ensures.put c.requires.tidy k
    (omega (arith, lt, c.set_first.ensures.count)) none
