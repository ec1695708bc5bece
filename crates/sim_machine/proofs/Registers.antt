-- Registers set.
use Rattle.std.proofs.Common.{◌≡◌, ◌≢◌, ℕ, zero, suc, ◌<◌, List, length, Bool, cond, sym, ap, ◌∙◌, inl, inr, arith, get_or-set_other, get_or-set_same}
use Rattle.std.specs.Prelude.{slice_index, slice_set}
use Rattle.std.proofs.lemmas.Bool.{cases_eq, eq-eqb, ne_eqb}
use Rattle.sem_machine.specs.Machine.{Machine, register}
use Rattle.sem_machine.specs.MachineStep.{set_register}

-- each register below 32 holds what the list says
abbrev pub RegistersHold : List ℕ → Machine → Type 0
RegistersHold xs s = (r : ℕ) → r < 32 → register s r ≡ slice_index xs r

pub set_holds : (xs : List ℕ) (s : Machine) (r v : ℕ) → length xs ≡ 32 → 0 < r → r < 32 → RegistersHold xs s →
    RegistersHold (slice_set xs r v) (set_register r v s)
set_holds xs s zero v len low l h q m = absurd (omega arith)
set_holds xs s (suc r) v len low l h zero m =
    let ne : zero ≢ suc r = λ e. omega (arith, e) in h zero m ∙ sym (get_or-set_other xs (suc r) zero v 0 ne)
set_holds xs s (suc r) v len low l h (suc q) m =
    elim (cases_eq (suc q) (suc r)) [
      | inl e ↦
          let here : suc r < length xs = omega arith in
          ap (λ (t : Bool). cond t v (s.regs (suc q))) (eq-eqb (suc q) (suc r) e)
          ∙ sym (ap (λ (n : ℕ). slice_index (slice_set xs (suc r) v) n) e ∙ get_or-set_same xs (suc r) v 0 here)
      | inr ne ↦
          let other : suc q ≢ suc r = ne in
          ap (λ (t : Bool). cond t v (s.regs (suc q))) (ne_eqb (suc q) (suc r) ne) ∙ h (suc q) m ∙ sym (get_or-set_other xs (suc r) (suc q) v 0 other)
    ]
