-- What holds of the passes and of the registers that were handed over holds of those of the plan.
use Rattle.std.proofs.Common.{◌≡◌, ℕ, List, subst}
use Rattle.pass_list.specs.declared.kind.PassKind.{PassKind}

pub by_plan : (P : List ℕ → List PassKind → Type 0) (passes list : List PassKind) (reserve registers : List ℕ) → passes ≡ list → reserve ≡ registers →
    P reserve passes → P registers list
by_plan P passes list reserve registers same kept holds = subst (P registers) same (subst (λ (r : List ℕ). P r passes) kept holds)
