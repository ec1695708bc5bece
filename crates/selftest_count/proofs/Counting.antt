-- One more part is counted, if it has a value.
use Rattle.std.proofs.Common.{◌≡◌, ℕ, ◌+◌, ◌<◌, List, length, get_or, take, Bool, cond, is_some, sym, ap, ◌∙◌}
use Rattle.std.proofs.lemmas.List.Sums.{sum_by_more}
use Rattle.mir_func.specs.declared.variable.VarId.{VarId}
use Rattle.sem_mir.specs.State.{State, assigned}
use Rattle.selftest_count.specs.Counts.{known_in}

pub one_more : (parts : List VarId) (s : State) (i : ℕ) (v : VarId) → i < length parts → v ≡ get_or parts i v → (b : Bool) →
    is_some (assigned v s.core.marks) ≡ b → known_in (take (i + 1) parts) s ≡ known_in (take i parts) s + cond b 1 0
one_more parts s i v lt is b e =
    sum_by_more (λ (x : VarId). cond (is_some (assigned x s.core.marks)) 1 0) parts i v lt
    ∙ ap (λ (x : VarId). known_in (take i parts) s + cond (is_some (assigned x s.core.marks)) 1 0) (sym is)
    ∙ ap (λ (t : Bool). known_in (take i parts) s + cond t 1 0) e
