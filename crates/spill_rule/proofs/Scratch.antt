-- The scratch registers, and the registers of the reserve.
use Rattle.std.proofs.Common.{◌≡◌, ◌⊎◌, ℕ, zero, suc, ◌<◌, ◌≤◌, List, [], ◌∷◌, filter, take, length, Contains, Bool, true, false, cond, refl, sym}
use Rattle.std.proofs.Common.{subst, inl, inr, arith}
use Rattle.rv64_instr.specs.DefsAndUses.{caller_saved}
use Rattle.spill_rule.specs.Choice.{first_scratch, second_scratch}
use Rattle.spill_rule.specs.Chosen.{IsReservable}

abbrev pub CANDIDATES : List ℕ
CANDIDATES = 5 ∷ 6 ∷ 7 ∷ 28 ∷ 29 ∷ 30 ∷ 31 ∷ []

-- all are above a number, in ascending order
abbrev Above : ℕ → List ℕ → Type 0
Above n [] = Unit {0}
Above n (x ∷ xs) = (n < x) × Above x xs

above_less : (m n : ℕ) (xs : List ℕ) → m < n → Above n xs → Above m xs
above_less m n [] lt h = tt
above_less m n (x ∷ xs) lt h = let k = h.0 in (omega (arith, lt, k), h.1)

above_filter : (p : ℕ → Bool) (n : ℕ) (xs : List ℕ) → Above n xs → Above n (filter p xs)
above_filter p n [] h = tt
above_filter p n (x ∷ xs) h = by_test (p x) (above_filter p x xs h.1) where
  by_test : (z : Bool) → Above x (filter p xs) → Above n (cond z (x ∷ filter p xs) (filter p xs))
  by_test true more = (h.0, more)
  by_test false more = above_less n x (filter p xs) h.0 more

candidates_above : Above 4 CANDIDATES
candidates_above = (omega arith, (omega arith, (omega arith, (omega arith, (omega arith, (omega arith, (omega arith, tt)))))))

-- what passes a test is in the list, and passes it
pub kept_by : (p : ℕ → Bool) (xs : List ℕ) (x : ℕ) → Contains (filter p xs) x → Contains xs x × (p x ≡ true)
kept_by p [] x (k, lt, e) = absurd (omega (arith, lt))
kept_by p (y ∷ ys) x k = by_test (p y) refl k (λ j. kept_by p ys x j) where
  later : Contains ys x × (p x ≡ true) → Contains (y ∷ ys) x × (p x ≡ true)
  later ((k, lt, e), h) = ((suc k, omega (arith, lt), e), h)

  by_test : (z : Bool) → p y ≡ z → Contains (cond z (y ∷ filter p ys) (filter p ys)) x → (Contains (filter p ys) x → Contains ys x × (p x ≡ true)) →
      Contains (y ∷ ys) x × (p x ≡ true)
  by_test true h (zero, lt, e) more = ((0, omega arith, e), subst (λ (z : ℕ). p z ≡ true) e h)
  by_test true h (suc k, lt, e) more = later (more (k, omega (arith, lt), e))
  by_test false h k more = later (more k)

-- the first two of a list that has two
pub record Two (p : ℕ → Bool) (a b : ℕ) : Type 0 where
  pub first : Contains CANDIDATES a × (p a ≡ true)
  pub second : Contains CANDIDATES b × (p b ≡ true)
  pub apart : a < b

two_of : (p : ℕ → Bool) (xs : List ℕ) → filter p CANDIDATES ≡ xs → Above 4 xs → 2 ≤ length (take 2 xs) →
    Two p (first_scratch (take 2 xs)) (second_scratch (take 2 xs))
two_of p [] e above le = absurd (omega (arith, le))
two_of p (a ∷ []) e above le = absurd (omega (arith, le))
two_of p (a ∷ b ∷ rest) e above le = record {
  first = kept_by p CANDIDATES a (subst (λ (xs : List ℕ). Contains xs a) (sym e) (0, omega arith, refl));
  second = kept_by p CANDIDATES b (subst (λ (xs : List ℕ). Contains xs b) (sym e) (1, omega arith, refl));
  apart = above.1.0;
}

pub two : (p : ℕ → Bool) → 2 ≤ length (take 2 (filter p CANDIDATES)) →
    Two p (first_scratch (take 2 (filter p CANDIDATES))) (second_scratch (take 2 (filter p CANDIDATES)))
two p le = two_of p (filter p CANDIDATES) refl (above_filter p 4 CANDIDATES candidates_above) le

-- calls set them
pub saved : (r : ℕ) → Contains CANDIDATES r → Contains caller_saved r
saved r (zero, lt, e) = (1, omega arith, e)
saved r (suc zero, lt, e) = (2, omega arith, e)
saved r (suc (suc zero), lt, e) = (3, omega arith, e)
saved r (suc (suc (suc zero)), lt, e) = (12, omega arith, e)
saved r (suc (suc (suc (suc zero))), lt, e) = (13, omega arith, e)
saved r (suc (suc (suc (suc (suc zero)))), lt, e) = (14, omega arith, e)
saved r (suc (suc (suc (suc (suc (suc zero))))), lt, e) = (15, omega arith, e)
saved r (suc (suc (suc (suc (suc (suc (suc k)))))), lt, e) = absurd (omega (arith, lt))

-- and those of the reserve they don't
never : (r v : ℕ) → IsReservable r → v ≡ r → (v ≤ 7) ⊎ (((10 ≤ v) × (v ≤ 17)) ⊎ (28 ≤ v)) → ⊥
never r v (inl (a, b)) e (inl c) = omega (arith, a, b, c, e)
never r v (inl (a, b)) e (inr (inl (c, d))) = omega (arith, a, b, c, d, e)
never r v (inl (a, b)) e (inr (inr c)) = omega (arith, a, b, c, e)
never r v (inr (a, b)) e (inl c) = omega (arith, a, b, c, e)
never r v (inr (a, b)) e (inr (inl (c, d))) = omega (arith, a, b, c, d, e)
never r v (inr (a, b)) e (inr (inr c)) = omega (arith, a, b, c, e)

pub kept_registers : (r : ℕ) → IsReservable r → Contains caller_saved r → ⊥
kept_registers r h (zero, lt, e) = never r 1 h e (inl (omega arith))
kept_registers r h (suc zero, lt, e) = never r 5 h e (inl (omega arith))
kept_registers r h (suc (suc zero), lt, e) = never r 6 h e (inl (omega arith))
kept_registers r h (suc (suc (suc zero)), lt, e) = never r 7 h e (inl (omega arith))
kept_registers r h (suc (suc (suc (suc zero))), lt, e) = never r 10 h e (inr (inl (omega arith, omega arith)))
kept_registers r h (suc (suc (suc (suc (suc zero)))), lt, e) = never r 11 h e (inr (inl (omega arith, omega arith)))
kept_registers r h (suc (suc (suc (suc (suc (suc zero))))), lt, e) = never r 12 h e (inr (inl (omega arith, omega arith)))
kept_registers r h (suc (suc (suc (suc (suc (suc (suc zero)))))), lt, e) = never r 13 h e (inr (inl (omega arith, omega arith)))
kept_registers r h (suc (suc (suc (suc (suc (suc (suc (suc zero))))))), lt, e) = never r 14 h e (inr (inl (omega arith, omega arith)))
kept_registers r h (suc (suc (suc (suc (suc (suc (suc (suc (suc zero)))))))), lt, e) = never r 15 h e (inr (inl (omega arith, omega arith)))
kept_registers r h (suc (suc (suc (suc (suc (suc (suc (suc (suc (suc zero))))))))), lt, e) = never r 16 h e (inr (inl (omega arith, omega arith)))
kept_registers r h (suc (suc (suc (suc (suc (suc (suc (suc (suc (suc (suc zero)))))))))), lt, e) = never r 17 h e (inr (inl (omega arith, omega arith)))
kept_registers r h (suc (suc (suc (suc (suc (suc (suc (suc (suc (suc (suc (suc zero))))))))))), lt, e) = never r 28 h e (inr (inr (omega arith)))
kept_registers r h (suc (suc (suc (suc (suc (suc (suc (suc (suc (suc (suc (suc (suc zero)))))))))))), lt, e) = never r 29 h e (inr (inr (omega arith)))
kept_registers r h (suc (suc (suc (suc (suc (suc (suc (suc (suc (suc (suc (suc (suc (suc zero))))))))))))), lt, e) = never r 30 h e (inr (inr (omega arith)))
kept_registers r h (suc (suc (suc (suc (suc (suc (suc (suc (suc (suc (suc (suc (suc (suc (suc zero)))))))))))))), lt, e) = never r 31 h e
    (inr (inr (omega arith)))
kept_registers r h (suc (suc (suc (suc (suc (suc (suc (suc (suc (suc (suc (suc (suc (suc (suc (suc k))))))))))))))), lt, e) = absurd (omega (arith, lt))

pub reservable_real : (r : ℕ) → IsReservable r → r < 32
reservable_real r (inl (a, b)) = omega (arith, b)
reservable_real r (inr (a, b)) = omega (arith, b)

pub not_small : (r n : ℕ) → IsReservable r → r ≡ n → n < 8 → ⊥
not_small r n (inl (a, b)) e lt = omega (arith, a, e, lt)
not_small r n (inr (a, b)) e lt = omega (arith, a, e, lt)
