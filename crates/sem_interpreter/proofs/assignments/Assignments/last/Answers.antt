use Rattle.std.proofs.Common.{ℕ, Option, [], ap, ◌∙◌}
use Rattle.std.specs.Prelude.{unwrap_or}
use Rattle.std.specs.Map.{lookup}
use Rattle.sem_interpreter.specs.Assigned.{are_same_keys, assigned_in, part_in}
use Rattle.sem_interpreter.proofs.assignments.Assignments.last.Goals as goal

pub returns-in-Some : goal.returns-in-Some
returns-in-Some c =
    let v = c.args.v.now in
    c.last_in.ensures
    ∙ ap (part_in v.fragment)
    (c.as_slice.ensures ∙ ap (λ o. unwrap_or o []) c.in-Some.ensures.value
    ∙ ap (λ (k : ℕ × Option ℕ). unwrap_or (lookup (are_same_keys k) c.self.inside.parts.entries) []) c.key.ensures)
    ∙ ap (assigned_in v) c.self.view_is

pub returns-in-None : goal.returns-in-None
returns-in-None c =
    let v = c.args.v.now in
    ap (part_in v.fragment) (ap (λ o. unwrap_or o []) c.in-None.ensures.value
    ∙ ap (λ (k : ℕ × Option ℕ). unwrap_or (lookup (are_same_keys k) c.self.inside.parts.entries) []) c.key.ensures)
    ∙ ap (assigned_in v) c.self.view_is
