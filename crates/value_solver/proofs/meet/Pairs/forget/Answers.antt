use Rattle.std.proofs.Common.{ℕ, List, ap}
use Rattle.std.specs.Map.{lookup}
use Rattle.value_solver.specs.PairNumbers.{is_pair}
use Rattle.value_solver.proofs.meet.Pairs.forget.Goals as goal

pub returns-clause-none : goal.returns-clause-none
returns-clause-none c = λ k.
    rw (c.in_ok-self.ensures k.1) (rw c.new-2.ensures.items (ap (λ (es : List ((ℕ × ℕ) × ℕ)). lookup (is_pair k) es) c.clear.ensures.empty))

pub returns-clause-tidy : goal.returns-clause-tidy
returns-clause-tidy c = λ k lt none.
    rw c.new-2.ensures.items (ap (λ (es : List ((ℕ × ℕ) × ℕ)). lookup (is_pair k) es) c.clear.ensures.empty)
