-- What stands apart in a list and is among others is no more than these.
use Rattle.std.proofs.Common.{◌≡◌, ℕ, zero, suc, ◌+◌, ◌<◌, ◌≤◌, List, [], ◌∷◌, ◌++◌, length, get_or, Bool, true, cond, sym, ap, ◌∙◌, arith}
use Rattle.std.specs.List.{All, Contains, count_by}
use Rattle.std.proofs.lemmas.List.Elements.{All-head, All-tail, All-append}
use Rattle.std.proofs.lemmas.List.Sums.{sum_by-cons}

abbrev pub Apart : {X : Type 0} → List X → Type 0
Apart [] = Unit {0}
Apart (x ∷ xs) = All (λ y. x ≡ y → ⊥) xs × Apart xs

pub apart_append : {X : Type 0} (xs ys : List X) → Apart xs → Apart ys → All (λ x. All (λ y. x ≡ y → ⊥) ys) xs → Apart (xs ++ ys)
apart_append [] ys a b h = b
apart_append {X} (x ∷ xs) ys a b h =
    let P : X → Type 0 = λ z. All (λ y. z ≡ y → ⊥) ys in (
      All-append (λ y. x ≡ y → ⊥) xs ys a.0 (All-head P x xs h),
      apart_append xs ys a.1 b (All-tail P x xs h),
    )

-- a list without the element at an index
abbrev without : {X : Type 0} → ℕ → List X → List X
without n [] = []
without zero (y ∷ ys) = ys
without (suc n) (y ∷ ys) = y ∷ without n ys

module _ {X : Type 0} (p : X → Bool) where
  abbrev count : List X → ℕ
  count ys = count_by p ys

  count_cons : (y : X) (ys : List X) → count (y ∷ ys) ≡ cond (p y) 1 0 + count ys
  count_cons y ys = sum_by-cons (λ x. cond (p x) 1 0) y ys

  -- one that passes is taken out
  count_without : (ys : List X) (i : ℕ) (x : X) → i < length ys → get_or ys i x ≡ x → p x ≡ true → count ys ≡ suc (count (without i ys))
  count_without [] i x l e t = absurd (omega (arith, l))
  count_without (y ∷ ys) zero x l e t =
      let passes : ◌≡◌ {A = ℕ} (cond (p y) 1 0) 1 = ap (λ (b : Bool). cond {A = ℕ} b 1 0) (ap p e ∙ t) in
      omega (arith, count_cons y ys, passes)
  count_without (y ∷ ys) (suc i) x l e t =
      let rest = count_without ys i x (omega (arith, l)) e t in
      omega (arith, count_cons y ys, count_cons y (without i ys), rest)

keeps : {X : Type 0} (ys : List X) (i : ℕ) (x y : X) → i < length ys → get_or ys i x ≡ x → (x ≡ y → ⊥) → Contains ys y → Contains (without i ys) y
keeps [] i x y l e ne c = absurd (omega (arith, l))
keeps (z ∷ ys) zero x y l e ne (zero, m, f) = absurd (ne (sym e ∙ f))
keeps (z ∷ ys) zero x y l e ne (suc k, m, f) = (k, omega (arith, m), f)
keeps (z ∷ ys) (suc i) x y l e ne (zero, m, f) = (zero, omega arith, f)
keeps (z ∷ ys) (suc i) x y l e ne (suc k, m, f) =
    let r = keeps ys i x y (omega (arith, l)) e ne (k, omega (arith, m), f) in
    (suc r.0, omega (arith, r.1), r.2)

-- what passes of them
abbrev pub Passes : {X : Type 0} → (X → Bool) → List X → X → Type 0
Passes p ys x = Contains ys x × (p x ≡ true)

pub fits : {X : Type 0} (p : X → Bool) (xs ys : List X) → Apart xs → All (Passes p ys) xs → length xs ≤ count_by p ys
fits p [] ys a h = omega arith
fits {X} p (x ∷ xs) ys a h =
    let first = All-head (Passes p ys) x xs h in
    let at = first.0 in
    let P : X → Type 0 = λ y. x ≡ y → ⊥ in
    let rest : All (Passes p (without at.0 ys)) xs = both xs a.0 (All-tail (Passes p ys) x xs h) in
    let fewer = fits p xs (without at.0 ys) a.1 rest in
    omega (arith, fewer, count_without p ys at.0 x at.1 at.2 first.1) where
      both : (zs : List X) → All (λ y. x ≡ y → ⊥) zs → All (Passes p ys) zs →
          All (Passes p (without (All-head (Passes p ys) x xs h).0.0 ys)) zs
      both zs ne pass = λ k d l. (
          let c = pass k d l in
          let at = (All-head (Passes p ys) x xs h).0 in
          (keeps ys at.0 x (get_or zs k d) at.1 at.2 (ne k d l) c.0, c.1))
