-- Elements of lists.
use Rattle.std.proofs.Common.{◌≡◌, ◌⊎◌, ℕ, zero, suc, ◌+◌, Bool, true, false, cond, ◌||◌, not, List, [], ◌∷◌, map, Some}
use Rattle.std.proofs.Common.{refl, sym, subst, ap, ◌∙◌, inl, inr, arith, Contains}
use Rattle.std.specs.Prelude.{slice_get}
use Rattle.std.specs.List.{flat_map, list_any, position_or_len}
use Rattle.std.proofs.lemmas.Bool.{or_left, or_right}
use Rattle.std.proofs.lemmas.List.Elements.{Contains-append_left, Contains-append_right}

pub no_member : {X : Type 0} (x : X) → Contains [] x → ⊥
no_member x (k, lt, e) = omega (arith, lt)

pub head_member : {X : Type 0} (x : X) (xs : List X) → Contains (x ∷ xs) x
head_member x xs = (0, omega arith, refl)

pub later_member : {X : Type 0} (x y : X) (xs : List X) → Contains xs y → Contains (x ∷ xs) y
later_member x y xs (k, lt, e) = (suc k, omega (arith, lt), e)

-- the first or a later one
pub member_cases : {X : Type 0} (x y : X) (xs : List X) → Contains (x ∷ xs) y → (x ≡ y) ⊎ Contains xs y
member_cases x y xs (zero, lt, e) = inl e
member_cases x y xs (suc k, lt, e) = inr (k, omega (arith, lt), e)

pub mapped_member : {X Y : Type 0} (h : X → Y) (xs : List X) (x : X) → Contains xs x → Contains (map h xs) (h x)
mapped_member h [] x is = absurd (no_member x is)
mapped_member h (y ∷ xs) x is = elim (member_cases y x xs is) [
  | inl same ↦ subst (λ z. Contains (map h (y ∷ xs)) (h z)) same (head_member (h y) (map h xs))
  | inr later ↦ later_member (h y) (h x) (map h xs) (mapped_member h xs x later)
]

pub flat_member : {X Y : Type 0} (h : X → List Y) (xs : List X) (x : X) (y : Y) → Contains xs x → Contains (h x) y → Contains (flat_map h xs) y
flat_member h [] x y is has = absurd (no_member x is)
flat_member h (z ∷ xs) x y is has = elim (member_cases z x xs is) [
  | inl same ↦ Contains-append_left (h z) (flat_map h xs) y (subst (λ w. Contains (h w) y) (sym same) has)
  | inr later ↦ Contains-append_right (h z) (flat_map h xs) y (flat_member h xs x y later has)
]

pub got_member : {X : Type 0} (xs : List X) (k : ℕ) (x : X) → slice_get xs k ≡ Some x → Contains xs x
got_member [] k x e = absurd cc
got_member (y ∷ xs) zero x e = let same : y ≡ x = cc in subst (λ z. Contains (y ∷ xs) z) same (head_member y xs)
got_member (y ∷ xs) (suc k) x e = later_member y x xs (got_member xs k x e)

-- an element that passes a test
pub passes : {X : Type 0} (p : X → Bool) (xs : List X) (x : X) → Contains xs x → p x ≡ true → list_any p xs ≡ true
passes p [] x is e = absurd (no_member x is)
passes p (y ∷ xs) x is e = elim (member_cases y x xs is) [
  | inl same ↦ or_left (p y) (list_any p xs) (ap p same ∙ e)
  | inr later ↦ or_right (p y) (list_any p xs) (passes p xs x later e)
]

-- what stands at the first place that passes
pub record Found {X : Type 0} (p : X → Bool) (xs : List X) : Type 0 where
  pub element : X
  pub stands : slice_get xs (position_or_len p xs) ≡ Some element
  pub passes : p element ≡ true

pub found : {X : Type 0} (p : X → Bool) (xs : List X) → list_any p xs ≡ true → Found p xs
found p [] e = absurd cc
found p (x ∷ xs) e = by (p x) refl e (found p xs) where
  by : (b : Bool) → p x ≡ b → (b || list_any p xs) ≡ true → (list_any p xs ≡ true → Found p xs) → Found p (x ∷ xs)
  by true is any rest = record {
    element = x;
    stands = ap (λ (c : Bool). slice_get (x ∷ xs) (cond (not c) (1 + position_or_len p xs) 0)) is;
    passes = is;
  }
  by false is any rest =
      let f = rest any in
      let next : 1 + position_or_len p xs ≡ suc (position_or_len p xs) = omega arith in
      record {
        element = f.element;
        stands = ap (λ (c : Bool). slice_get (x ∷ xs) (cond (not c) (1 + position_or_len p xs) 0)) is ∙ ap (slice_get (x ∷ xs)) next ∙ f.stands;
        passes = f.passes;
      }
