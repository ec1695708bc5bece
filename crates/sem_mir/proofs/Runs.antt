-- Runs go on from where they are.
use Rattle.std.proofs.Common.{◌≡◌, ℕ, zero, suc, ◌+◌, refl, sym, ap, ◌∙◌, zero-add, arith}
use Rattle.sem_mir.specs.State.{State}
use Rattle.sem_mir.specs.Step.{Next, Went, Returned, Faulted, Waits, Lost, after, step, run}
use Rattle.mir_func.specs.Graph.{Program}

-- what goes on alike, ends alike
pub after_alike : (x : Next) (f h : State → Next) → ((t : State) → f t ≡ h t) → after x f ≡ after x h
after_alike (Went s) f h e = e s
after_alike (Returned v) f h e = refl
after_alike Faulted f h e = refl
after_alike Waits f h e = refl
after_alike Lost f h e = refl

pub after_after : (x : Next) (f h : State → Next) → after (after x f) h ≡ after x (λ t. after (f t) h)
after_after (Went s) f h = refl
after_after (Returned v) f h = refl
after_after Faulted f h = refl
after_after Waits f h = refl
after_after Lost f h = refl

-- m + n steps are m steps, and n from there
pub run_splits : (g : Program) (m n : ℕ) (s : State) → run g (m + n) s ≡ after (run g m s) (run g n)
run_splits g zero n s = rw zero-add refl
run_splits g (suc m) n s =
    let e : suc m + n ≡ suc (m + n) = omega arith in
    rw e (after_alike (step g s) _ _ (λ t. run_splits g m n t) ∙ sym (after_after (step g s) (run g m) (run g n)))

-- one more step before a run
pub run_steps : (g : Program) (n : ℕ) (s u : State) → step g s ≡ Went u → run g (suc n) s ≡ run g n u
run_steps g n s u e = ap (λ x. after x (run g n)) e

-- one more step after it
pub run_step_last : (g : Program) (n : ℕ) (s t : State) → run g n s ≡ Went t → run g (suc n) s ≡ step g t
run_step_last g n s t e =
    let k : suc n ≡ n + 1 = omega arith in
    ap (λ (m : ℕ). run g m s) k ∙ run_splits g n 1 s ∙ ap (λ x. after x (run g 1)) e ∙ one (step g t) where
      one : (x : Next) → after x (run g 0) ≡ x
      one (Went s) = refl
      one (Returned v) = refl
      one Faulted = refl
      one Waits = refl
      one Lost = refl
