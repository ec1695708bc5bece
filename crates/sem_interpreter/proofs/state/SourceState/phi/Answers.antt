use Rattle.std.proofs.Common.{◌≡◌, ℕ, Some, cond, subst}
use Rattle.std.specs.Map.{lookup}
use Rattle.mir_substitution.specs.Index.{is_key}
use Rattle.sem_interpreter.specs.StandsFor.{Concrete, Holds}
use Rattle.sem_interpreter.proofs.History.{phi_does}
use Rattle.sem_interpreter.proofs.state.SourceState.phi.Goals as goal

pub returns-clause-ok : goal.returns-clause-ok
returns-clause-ok c = λ subs answer.
    let x = c.place_value-value.result in
    rw (← c.self.view_is)
    (phi_does subs c.args.place c.args.k answer _ c.insert.new.self.entries x
    (λ s holds. c.place_value-value.ensures s (subst (λ (d : Concrete). Holds d s) c.self.view_is holds))
    (subst (λ (n : ℕ). (q : ℕ × ℕ) → lookup (is_key q) c.insert.new.self.entries ≡ cond (is_key (n, 0) q) (Some x)
    (lookup (is_key q) c.self.inside.pairs.entries)) c.number.ensures c.in_ok-insert.ensures.updates.0))
