-- Lists with one element more, and numbers that were met.
use Rattle.std.proofs.Common.{◌≡◌, ◌⊎◌, ℕ, zero, suc, true, false, eqb, List, [], ◌∷◌, ◌++◌, length, Some, None, refl, sym, ap, ◌∙◌, inl, inr, subst}
use Rattle.std.proofs.Common.{All, arith}
use Rattle.std.specs.Prelude.{Contains}
use Rattle.std.specs.List.{slice_get}
use Rattle.std.proofs.lemmas.Bool.{cases_Bool, eq-eqb, eqb-true, or_left, or_right, or_cases, cond-true, cond-false}
use Rattle.std.proofs.lemmas.List.{length-append, get_or_append_left, get_or_at}
use Rattle.std.proofs.lemmas.Option.{slice_get_within, get_or_from_slice_get}
use Rattle.std.proofs.lemmas.List.Folds.{list_any-append}
use Rattle.mir_func.specs.Sound.{AreApart}
use Rattle.read_body.specs.FirstUseOrder.{is_met, met}

-- what is read of a list with one element more is read of the list, or is that element
pub push_read : {X : Type 0} (xs : List X) (y : X) (k : ℕ) (i : X) → slice_get (xs ++ y ∷ []) k ≡ Some i →
    (slice_get xs k ≡ Some i) ⊎ ((k ≡ length xs) × (y ≡ i))
push_read [] y zero i e = inr (refl, cc)
push_read [] y (suc k) i e = absurd cc
push_read (x ∷ xs) y zero i e = inl e
push_read (x ∷ xs) y (suc k) i e = elim (push_read xs y k i e) [ inl h ↦ inl h | inr h ↦ inr (ap suc h.0, h.1) ]

-- a number that isn't among numbers that are apart, behind them
pub apart_push : (ns : List ℕ) (n : ℕ) → ((i : ℕ) → slice_get ns i ≡ Some n → ⊥) → AreApart ns → AreApart (ns ++ n ∷ [])
apart_push ns n new apart i j m e f =
    elim (push_read ns n i m e) [
      | inl a ↦ elim (push_read ns n j m f) [
        | inl b ↦ apart i j m a b
        | inr b ↦ absurd (new i (a ∙ ap (λ (x : ℕ). Some x) (sym b.1)))
      ]
      | inr a ↦ elim (push_read ns n j m f) [
        | inl b ↦ absurd (new j (b ∙ ap (λ (x : ℕ). Some x) (sym a.1)))
        | inr b ↦ a.0 ∙ sym b.0
      ]
    ]

pub some_none : {X : Type 0} {x : X} → Some x ≡ None → ⊥
some_none e = cc

-- P holds of a front, and of the last element
pub All-front : {X : Type 0} (P : X → Type 0) (xs ys : List X) → All P (xs ++ ys) → All P xs
All-front P xs ys all = λ k d lt. subst P (get_or_append_left xs ys d k lt) (all k d (omega (arith, lt, length-append xs ys)))

pub All-last : {X : Type 0} (P : X → Type 0) (xs : List X) (y : X) → All P (xs ++ y ∷ []) → P y
All-last P xs y all = subst P (get_or_at xs y [] y (length xs) refl) (all (length xs) y (omega (arith, length-append xs (y ∷ []))))

-- two facts of each element
pub both : {X : Type 0} (P Q : X → Type 0) (xs : List X) → All P xs → All Q xs → All (λ x. P x × Q x) xs
both P Q xs ps qs = λ k d lt. (ps k d lt, qs k d lt)

-- ---- numbers that were met

-- a number that was met stays so
pub met_keeps : (k n : ℕ) (ns : List ℕ) → is_met k ns ≡ true → is_met k (met n ns) ≡ true
met_keeps k n ns is = elim (cases_Bool (is_met n ns)) [
  | inl there ↦ ap (λ (l : List ℕ). is_met k l) (cond-true (is_met n ns) ns (ns ++ n ∷ []) there) ∙ is
  | inr none ↦ ap (λ (l : List ℕ). is_met k l) (cond-false (is_met n ns) ns (ns ++ n ∷ []) none)
      ∙ list_any-append (λ (m : ℕ). eqb k m) ns (n ∷ []) ∙ or_left (is_met k ns) (is_met k (n ∷ [])) is
]

-- a number is met
pub met_has : (n : ℕ) (ns : List ℕ) → is_met n (met n ns) ≡ true
met_has n ns = elim (cases_Bool (is_met n ns)) [
  | inl there ↦ ap (λ (l : List ℕ). is_met n l) (cond-true (is_met n ns) ns (ns ++ n ∷ []) there) ∙ there
  | inr none ↦ ap (λ (l : List ℕ). is_met n l) (cond-false (is_met n ns) ns (ns ++ n ∷ []) none)
      ∙ list_any-append (λ (m : ℕ). eqb n m) ns (n ∷ []) ∙ or_right (is_met n ns) (is_met n (n ∷ [])) (or_left (eqb n n) false (eq-eqb n n refl))
]

-- a number that stands in a list is met
pub met_at : (ns : List ℕ) (i n : ℕ) → slice_get ns i ≡ Some n → is_met n ns ≡ true
met_at [] i n e = absurd cc
met_at (m ∷ ns) zero n e = let same : n ≡ m = cc in or_left (eqb n m) (is_met n ns) (eq-eqb n m same)
met_at (m ∷ ns) (suc i) n e = or_right (eqb n m) (is_met n ns) (met_at ns i n e)

-- a number that is met stands in the list
pub found : (ns : List ℕ) (n : ℕ) → is_met n ns ≡ true → (i : ℕ) × (slice_get ns i ≡ Some n)
found [] n is = absurd cc
found (m ∷ ns) n is = elim (or_cases (eqb n m) (is_met n ns) is) [
  | inl same ↦ (let e = eqb-true n m same in (zero, ap (λ (x : ℕ). Some x) (sym e)))
  | inr later ↦ (let r = found ns n later in (suc r.0, r.1))
]

pub met_contains : (ns : List ℕ) (n : ℕ) → is_met n ns ≡ true → Contains ns n
met_contains ns n is = let r = found ns n is in (r.0, slice_get_within ns r.0 n r.1, get_or_from_slice_get ns r.0 n n r.1)

-- a number that isn't met goes behind the others
pub met_new : (n : ℕ) (ns : List ℕ) → is_met n ns ≡ false → met n ns ≡ ns ++ n ∷ []
met_new n ns none = cond-false (is_met n ns) ns (ns ++ n ∷ []) none
