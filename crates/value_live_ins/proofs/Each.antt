-- What holds of the first so many elements of a list, one after the other.
use Rattle.std.proofs.Common.{◌≡◌, ℕ, ◌+◌, ◌<◌, ◌≤◌, List, length, sym, ap, ◌∙◌, subst, arith, inl, inr, get_or}
use Rattle.std.specs.Prelude.{All, Some, slice_get}
use Rattle.std.proofs.lemmas.Bool.Decides.{eqb_tells}
use Rattle.std.proofs.lemmas.Option.{slice_get-get_or}

pub record EachBelow {A : Type 0} (P : A → Type 0) (n : ℕ) (xs : List A) : Type 0 where
  pub each : (j : ℕ) (x : A) → j < n → slice_get xs j ≡ Some x → P x

pub each_none : {A : Type 0} (P : A → Type 0) (xs : List A) → EachBelow P 0 xs
each_none P xs = record { each = λ j x lt e. absurd (omega (arith, lt)) }

-- the same of a weaker fact
pub each_weaker : {A : Type 0} (P Q : A → Type 0) (n : ℕ) (xs : List A) → ((x : A) → P x → Q x) → EachBelow P n xs → EachBelow Q n xs
each_weaker P Q n xs f h = record { each = λ j x lt e. f x (h.each j x lt e) }

-- one more
pub each_more : {A : Type 0} (P : A → Type 0) (n : ℕ) (xs : List A) (x : A) → EachBelow P n xs → n < length xs → x ≡ get_or xs n x → P x →
    EachBelow P (n + 1) xs
each_more {A = A} P n xs x h lt at p = record { each = λ j y less e. by_place j y less e } where
  here : slice_get xs n ≡ Some x
  here = slice_get-get_or xs n x lt ∙ ap (λ (w : A). Some w) (sym at)

  by_place : (j : ℕ) (y : A) → j < n + 1 → slice_get xs j ≡ Some y → P y
  by_place j y less e = elim (eqb_tells j n) [
    | inl k ↦ let both : Some x ≡ Some y = sym here ∙ ap (slice_get xs) (sym k.1) ∙ e in
        let same : x ≡ y = cc in
        subst P same p
    | inr k ↦ h.each j y (let ne = k.1 in omega (arith, less, ne)) e
  ]

-- of all
pub each_all : {A : Type 0} (P : A → Type 0) (n : ℕ) (xs : List A) → EachBelow P n xs → length xs ≤ n → All P xs
each_all P n xs h le k d lt = h.each k (get_or xs k d) (omega (arith, lt, le)) (slice_get-get_or xs k d lt)
