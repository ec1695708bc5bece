use Rattle.std.proofs.Common.{ℕ, List, Option, ◌≡◌, [], ◌∷◌, ap, ◌∙◌, subst}
use Rattle.std.specs.Prelude.{IfOk, unwrap_or}
use Rattle.std.specs.Map.{lookup}
use Rattle.mir_func.specs.Parts.{Bytes}
use Rattle.sem_interpreter.specs.Assigned.{are_same_keys, part_in, parts_of}
use Rattle.sem_interpreter.proofs.assignments.Assignments.next_parts.Goals as goal

pub returns-in-Some : goal.returns-in-Some
returns-in-Some c =
    let v = c.args.v.now in
    subst (λ (ps : List (Option Bytes × Option ℕ)). IfOk c.after.result
    (λ made. (b : Option Bytes) → part_in b made ≡ part_in b ((v.fragment, c.args.value) ∷ ps)))
    (c.as_slice.ensures ∙ ap (λ o. unwrap_or o []) c.in-Some.ensures.value
    ∙ ap (λ (k : ℕ × Option ℕ). unwrap_or (lookup (are_same_keys k) c.self.inside.parts.entries) []) c.key.ensures ∙ ap (parts_of v) c.self.view_is)
    c.after.ensures

pub returns-in-None : goal.returns-in-None
returns-in-None c =
    let v = c.args.v.now in
    subst (λ (ps : List (Option Bytes × Option ℕ)). IfOk c.after-in-None.result
    (λ made. (b : Option Bytes) → part_in b made ≡ part_in b ((v.fragment, c.args.value) ∷ ps)))
    (ap (λ o. unwrap_or o []) c.in-None.ensures.value
    ∙ ap (λ (k : ℕ × Option ℕ). unwrap_or (lookup (are_same_keys k) c.self.inside.parts.entries) []) c.key.ensures ∙ ap (parts_of v) c.self.view_is)
    c.after-in-None.ensures
