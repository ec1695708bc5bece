-- Numbers in lists, and where they stand.
use Rattle.std.proofs.Common.{◌≡◌, ℕ, zero, suc, ◌+◌, ◌<◌, ◌⊎◌, Bool, true, false, ◌||◌, List, [], ◌∷◌, ◌++◌, length, Option, Some, None, refl, sym}
use Rattle.std.proofs.Common.{◌∙◌, ap, arith}
use Rattle.std.proofs.Common.{nat_eq, true≢false, eqb-true, eq-eqb, slice_get, inl, inr, Contains}
use Rattle.std.proofs.lemmas.List.Folds.{list_any-append}
use Rattle.std.proofs.lemmas.Option.{get_or_from_slice_get}
use Rattle.std.specs.List.{list_any}
use Rattle.inline_instances.specs.steps.Marks.{IsIn}
use Rattle.inline_instances.proofs.Ways.{none_is_some, some_is_some}

pub or_true : (z : Bool) → (z || true) ≡ true
or_true true = refl
or_true false = refl

pub in_head : (n m : ℕ) (ns : List ℕ) → n ≡ m → IsIn n (m ∷ ns)
in_head n m ns e = ap (λ (z : Bool). z || list_any (nat_eq n) ns) (eq-eqb n m e)

pub in_tail : (n m : ℕ) (ns : List ℕ) → IsIn n ns → IsIn n (m ∷ ns)
in_tail n m ns h = ap (λ (z : Bool). nat_eq n m || z) h ∙ or_true (nat_eq n m)

pub in_left : (n : ℕ) (a b : List ℕ) → IsIn n a → IsIn n (a ++ b)
in_left n a b h = list_any-append (nat_eq n) a b ∙ ap (λ (z : Bool). z || list_any (nat_eq n) b) h

pub in_right : (n : ℕ) (a b : List ℕ) → IsIn n b → IsIn n (a ++ b)
in_right n a b h = list_any-append (nat_eq n) a b ∙ ap (λ (z : Bool). list_any (nat_eq n) a || z) h ∙ or_true (list_any (nat_eq n) a)

pub or_cases : (y z : Bool) → (y || z) ≡ true → (y ≡ true) ⊎ (z ≡ true)
or_cases true z h = inl refl
or_cases false z h = inr h

pub in_cases : (n : ℕ) (a b : List ℕ) → IsIn n (a ++ b) → IsIn n a ⊎ IsIn n b
in_cases n a b h = or_cases (list_any (nat_eq n) a) (list_any (nat_eq n) b) (sym (list_any-append (nat_eq n) a b) ∙ h)

pub in_one : (n m : ℕ) → IsIn n (m ∷ []) → n ≡ m
in_one n m h = elim (or_cases (nat_eq n m) false h) [ inl e ↦ eqb-true n m e | inr e ↦ absurd (true≢false (sym e)) ]

-- where a number stands in a list
pub in_at : (xs : List ℕ) (k n : ℕ) → slice_get xs k ≡ Some n → IsIn n xs
in_at [] k n e = absurd (none_is_some n e)
in_at (x ∷ xs) zero n e = in_head n x xs (sym (some_is_some x n e))
in_at (x ∷ xs) (suc k) n e = in_tail n x xs (in_at xs k n e)

pub at_in : (xs : List ℕ) (n : ℕ) → IsIn n xs → (k : ℕ) × (slice_get xs k ≡ Some n)
at_in [] n h = absurd (true≢false (sym h))
at_in (x ∷ xs) n h = by (or_cases (nat_eq n x) (list_any (nat_eq n) xs) h) (at_in xs n)
  where
    by : (nat_eq n x ≡ true) ⊎ IsIn n xs → (IsIn n xs → (k : ℕ) × (slice_get xs k ≡ Some n)) → (k : ℕ) × (slice_get (x ∷ xs) k ≡ Some n)
    by (inl e) later = (zero, ap Some (sym (eqb-true n x e)))
    by (inr e) later = let found = later e in (suc found.0, found.1)

pub get_left : {A : Type 0} (xs ys : List A) (k : ℕ) (x : A) → slice_get xs k ≡ Some x → slice_get (xs ++ ys) k ≡ Some x
get_left [] ys k x e = absurd (none_is_some x e)
get_left (y ∷ xs) ys zero x e = e
get_left (y ∷ xs) ys (suc k) x e = get_left xs ys k x e

pub get_last : {A : Type 0} (xs : List A) (y : A) → slice_get (xs ++ y ∷ []) (length xs) ≡ Some y
get_last [] y = refl
get_last (x ∷ xs) y = get_last xs y

pub get_cases : {A : Type 0} (xs : List A) (y : A) (k : ℕ) (x : A) → slice_get (xs ++ y ∷ []) k ≡ Some x
    → (slice_get xs k ≡ Some x) ⊎ ((k ≡ length xs) × (x ≡ y))
get_cases [] y zero x e = inr (refl, sym (some_is_some y x e))
get_cases [] y (suc k) x e = absurd (none_is_some x e)
get_cases (z ∷ xs) y zero x e = inl e
get_cases (z ∷ xs) y (suc k) x e =
    elim (get_cases xs y k x e) [ inl h ↦ inl h | inr h ↦ inr (ap suc h.0, h.1) ]

-- an index within a list
pub get_within : {A : Type 0} (xs ys : List A) (k : ℕ) (x : A) → slice_get (xs ++ ys) k ≡ Some x → k < length xs → slice_get xs k ≡ Some x
get_within [] ys k x e below = absurd (omega arith)
get_within (y ∷ xs) ys zero x e below = e
get_within (y ∷ xs) ys (suc k) x e below = get_within xs ys k x e (omega arith)

pub below_length : {A : Type 0} (xs : List A) (k : ℕ) (x : A) → slice_get xs k ≡ Some x → k < length xs
below_length [] k x e = absurd (none_is_some x e)
below_length (y ∷ xs) zero x e = omega arith
below_length (y ∷ xs) (suc k) x e = let rest : k < length xs = below_length xs k x e in omega arith

-- a number is an element of a list exactly if it is in it
pub contains_in : (ns : List ℕ) (n : ℕ) → Contains ns n → IsIn n ns
contains_in [] n (k, below, e) = absurd (omega arith)
contains_in (m ∷ ns) n (zero, below, e) = in_head n m ns (sym e)
contains_in (m ∷ ns) n (suc k, below, e) = in_tail n m ns (contains_in ns n (k, omega arith, e))

pub in_contains : (ns : List ℕ) (n : ℕ) → IsIn n ns → Contains ns n
in_contains ns n on =
    let found = at_in ns n on in
    (found.0, below_length ns found.0 n found.1, get_or_from_slice_get ns found.0 n n found.1)
