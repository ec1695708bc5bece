use Rattle.std.proofs.Common.{ℕ, List, ap}
use Rattle.std.specs.Prelude.{nat_eq}
use Rattle.std.specs.Map.{lookup}
use Rattle.value_solver.proofs.Renumbering.{none_with_zero}
use Rattle.value_solver.proofs.renumber.Numbers.forget.Goals as goal

pub returns : goal.returns
returns c = λ k.
    none_with_zero (nat_eq 0 k.0) _ _ _ (c.in_ok-self.ensures k.1)
    (ap (λ (es : List (ℕ × ℕ)). lookup (nat_eq k.1) es) c.clear.ensures.empty)
