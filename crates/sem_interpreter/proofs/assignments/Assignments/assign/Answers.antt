use Rattle.std.proofs.Common.{ℕ, Option, Some, cond, ◌≡◌, refl, subst}
use Rattle.std.specs.Map.{lookup}
use Rattle.sem_interpreter.specs.Assigned.{are_same_keys}
use Rattle.sem_interpreter.proofs.Marking.{marks_put}
use Rattle.sem_interpreter.proofs.assignments.Assignments.assign.Goals as goal

pub returns-clause-ok : goal.returns-clause-ok
returns-clause-ok c = λ marks holds.
    let made = c.in_ok-parts.parts in
    marks_put c.args.self.now c.insert.new.self.entries c.args.v.now c.args.value _ made refl c.in_ok-parts.ensures
    (rw (← c.self.view_is) (subst (λ (l : ℕ × Option ℕ). (k : ℕ × Option ℕ) →
    lookup (are_same_keys k) c.insert.new.self.entries ≡ cond (are_same_keys l k) (Some made)
    (lookup (are_same_keys k) c.self.inside.parts.entries)) c.key.ensures c.in_ok-insert.ensures.updates.0))
    marks holds
