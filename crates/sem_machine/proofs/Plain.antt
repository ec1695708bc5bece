-- What is set in the machine and in the source alike.
use Rattle.std.proofs.Common.{◌≡◌, ℕ, zero, suc, Option, Some, Bool, true, false, cond, eqb, refl}
use Rattle.sem_mir.specs.State.{content, put}
use Rattle.sem_mir.specs.Step.{Outcome, Traps, or_zero}
use Rattle.sem_machine.specs.Machine.{register_in, set_in}

pub falls_if : (b : Bool) (x : Outcome) → b ≡ true → cond b x Traps ≡ x
falls_if true x e = refl
falls_if false x e = cc

-- a register that is set in both
pub set_alike : (rd v : ℕ) (f : ℕ → ℕ) (g : ℕ → Option ℕ) → ((r : ℕ) → register_in f r ≡ or_zero (content g r)) → (r : ℕ) →
    register_in (set_in rd v f) r ≡ or_zero (content (put rd v g) r)
set_alike zero v f g h r = h r
set_alike (suc rd) v f g h zero = refl
set_alike (suc rd) v f g h (suc r) =
    elim (eqb (suc r) (suc rd)) as (λ b. cond b v (f (suc r)) ≡ or_zero (cond b (Some v) (g (suc r)))) [ true ↦ refl | false ↦ h (suc r) ]
