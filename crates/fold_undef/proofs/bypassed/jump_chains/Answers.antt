use Rattle.std.proofs.Common.{ℕ, Option, subst}
use Rattle.fold_targets.specs.Ways.{EndsAt}
use Rattle.fold_targets.specs.Ends.{end_in}
use Rattle.fold_undef.proofs.bypassed.jump_chains.Goals as goal

pub returns-clause-ends : goal.returns-clause-ends
returns-clause-ends c = λ n.
    subst (λ (f : ℕ → Option ℕ). EndsAt f n (end_in c.in_ok-ends.ends n)) (λ i m. c.in_ok-leads.ensures m i) (c.in_ok-ends.ensures n)
