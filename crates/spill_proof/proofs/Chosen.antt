-- Registers that are spilled are of the reserve, and scratch registers aren't.
use Rattle.std.proofs.Common.{◌≡◌, ℕ, suc, ◌+◌, List, [], ◌∷◌, filter, take, Contains, Some, Bool, true, false, cond, not}
use Rattle.std.proofs.Common.{◌&&◌, nat_eq}
use Rattle.std.proofs.Common.{refl, sym, subst, arith, eqb-true}
use Rattle.mir_func.specs.Function.{Function}
use Rattle.pass_trait.specs.Causes.{is_named}
use Rattle.spill_code.specs.Rewrite.{slot_of}
use Rattle.spill_select.specs.spill_simulation.MaySpill.{IsNoScratch}
use Rattle.spill_select.specs.spill_rule.Choice.{is_free, reason_of, candidates, room, chosen, next_slot, homes_from, homes_of, first_scratch, second_scratch, spilling_of}
use Rattle.spill_select.specs.spill_rule.Chosen.{IsReservable}
use Rattle.spill_select.proofs.spill_rule.Scratch.{CANDIDATES, kept_by, saved, kept_registers, not_small}
use Rattle.spill_select.specs.spill_rule.Laws.{from_take}

-- what holds of each register of a list holds of one that lives in a slot
slot_from : (P : ℕ → Type 0) (m : ℕ) (rs : List ℕ) → ((r : ℕ) → Contains rs r → P r) → (r n : ℕ) → slot_of (homes_from m rs) r ≡ Some n → P r
slot_from P m [] each r n e = cc
slot_from P m (q ∷ rs) each r n e =
    by_test (nat_eq q r) refl e (slot_from P (m + 1) rs (λ x k. each x (suc k.0, (let lt = k.1 in omega (arith, lt)), k.2)) r n) where
      by_test : (z : Bool) → nat_eq q r ≡ z → cond z (Some m) (slot_of (homes_from (m + 1) rs) r) ≡ Some n →
          (slot_of (homes_from (m + 1) rs) r ≡ Some n → P r) → P r
      by_test true is e more = each r (0, omega arith, eqb-true q r is)
      by_test false is e more = more e

-- a scratch register, or x0
no_first : (p : ℕ → Bool) (xs : List ℕ) → filter p CANDIDATES ≡ xs → (r : ℕ) → IsReservable r → r ≡ first_scratch (take 2 xs) → ⊥
no_first p [] e r real is = not_small r 0 real is (omega arith)
no_first p (a ∷ []) e r real is =
    kept_registers r real (saved r (kept_by p CANDIDATES r (subst (λ (ys : List ℕ). Contains ys r) (sym e) (0, omega arith, sym is))).0)
no_first p (a ∷ b ∷ rest) e r real is =
    kept_registers r real (saved r (kept_by p CANDIDATES r (subst (λ (ys : List ℕ). Contains ys r) (sym e) (0, omega arith, sym is))).0)

no_second : (p : ℕ → Bool) (xs : List ℕ) → filter p CANDIDATES ≡ xs → (r : ℕ) → IsReservable r → r ≡ second_scratch (take 2 xs) → ⊥
no_second p [] e r real is = not_small r 0 real is (omega arith)
no_second p (a ∷ []) e r real is = not_small r 0 real is (omega arith)
no_second p (a ∷ b ∷ rest) e r real is =
    kept_registers r real (saved r (kept_by p CANDIDATES r (subst (λ (ys : List ℕ). Contains ys r) (sym e) (1, omega arith, sym is))).0)

module _ (reserve : List ℕ) (live : ℕ → Bool) (f : Function) (real : (r : ℕ) → Contains reserve r → IsReservable r) where
  pub reserved : (r n : ℕ) → slot_of (homes_of reserve live f) r ≡ Some n → Contains reserve r
  reserved = slot_from (Contains reserve) (next_slot f.slots) (chosen reserve live f)
      (λ r k. (kept_by (λ r. is_named f r && is_free (reason_of f live r)) reserve r (from_take (room f) (candidates reserve live f) r k)).0)

  pub no_scratch : (r n : ℕ) → slot_of (homes_of reserve live f) r ≡ Some n → IsNoScratch (spilling_of reserve live f) r
  no_scratch r n e = (
    no_first (λ r. not (is_named f r)) (filter (λ r. not (is_named f r)) CANDIDATES) refl r (real r (reserved r n e)),
    no_second (λ r. not (is_named f r)) (filter (λ r. not (is_named f r)) CANDIDATES) refl r (real r (reserved r n e)),
  )
