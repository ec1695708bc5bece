-- A list in which nothing stands twice, all of whose elements stand in another, is no longer than that.
use Rattle.std.proofs.Common.{◌≡◌, suc, ◌≤◌, Bool, true, false, cond, ◌||◌, List, [], ◌∷◌, ◌++◌, length, refl, sym, ap, subst, ◌∙◌}
use Rattle.std.proofs.Common.{inl, inr, arith}
use Rattle.std.specs.List.{list_any}
use Rattle.std.proofs.lemmas.Bool.{cases_Bool, cond-true, cond-false, or_left, or_right, or_cases, false≢true}
use Rattle.std.proofs.lemmas.List.Folds.{list_any-append}

-- a test that tells when two are the same
module _ {X : Type 0} (t : X → X → Bool) (same : (x y : X) → t x y ≡ true → x ≡ y) (itself : (x : X) → t x x ≡ true) where
  abbrev pub Has : List X → X → Bool
  Has xs x = list_any (t x) xs

  abbrev pub Once : List X → Type 0
  Once [] = Unit {0}
  Once (x ∷ xs) = (Has xs x ≡ false) × Once xs

  without : X → List X → List X
  without x [] = []
  without x (y ∷ ys) = cond (t x y) ys (y ∷ without x ys)

  one_fewer : (x : X) (ys : List X) → Has ys x ≡ true → suc (length (without x ys)) ≡ length ys
  unfolding without
  one_fewer x [] has = absurd cc
  one_fewer x (y ∷ ys) has = by (one_fewer x ys) (t x y) refl where
    by : (Has ys x ≡ true → suc (length (without x ys)) ≡ length ys) → (b : Bool) → t x y ≡ b →
        suc (length (cond b ys (y ∷ without x ys))) ≡ suc (length ys)
    by more true e = refl
    by more false e = ap suc (more (ap (λ (b : Bool). b || list_any (t x) ys) (sym e) ∙ has))

  other_stays : (x y : X) (ys : List X) → t y x ≡ false → Has ys y ≡ true → Has (without x ys) y ≡ true
  unfolding without
  other_stays x y [] other has = absurd cc
  other_stays x y (z ∷ zs) other has = by (other_stays x y zs other) (t x z) refl where
    by : (Has zs y ≡ true → Has (without x zs) y ≡ true) → (b : Bool) → t x z ≡ b → Has (cond b zs (z ∷ without x zs)) y ≡ true
    by more true e =
        let is = same x z e in
        let not_z : t y z ≡ false = ap (t y) (sym is) ∙ other in
        ap (λ (b : Bool). b || list_any (t y) zs) (sym not_z) ∙ has
    by more false e = elim (or_cases (t y z) (list_any (t y) zs) has) [
      | inl here ↦ or_left (t y z) (list_any (t y) (without x zs)) here
      | inr later ↦ or_right (t y z) (list_any (t y) (without x zs)) (more later)
    ]

  pub no_longer : (xs ys : List X) → Once xs → ((x : X) → Has xs x ≡ true → Has ys x ≡ true) → length xs ≤ length ys
  no_longer [] ys once inside = omega arith
  no_longer (x ∷ xs) ys once inside =
      let rest = no_longer xs (without x ys) once.1 (λ y has. other_stays x y ys (differ y has) (inside y (or_right (t y x) (list_any (t y) xs) has))) in
      let fewer = one_fewer x ys (inside x (or_left (t x x) (list_any (t x) xs) (itself x))) in
      omega (arith, rest, fewer) where
        differ : (y : X) → Has xs y ≡ true → t y x ≡ false
        differ y has = elim (cases_Bool (t y x)) [
          | inl is ↦ absurd (false≢true (sym once.0 ∙ ap (Has xs) (sym (same y x is)) ∙ has))
          | inr not' ↦ not'
        ]

  -- one more, which isn't there
  pub once_more : (xs : List X) (x : X) → Has xs x ≡ false → Once xs → Once (xs ++ x ∷ [])
  once_more [] x new once = (refl, tt)
  once_more (y ∷ ys) x new once = (
    list_any-append (t y) ys (x ∷ []) ∙ ap (λ (b : Bool). b || (t y x || false)) once.0 ∙ ap (λ (b : Bool). b || false) not_x,
    once_more ys x later once.1,
  ) where
    differ : t x y ≡ false
    differ = elim (cases_Bool (t x y)) [
      | inl is ↦ absurd (false≢true (sym new ∙ or_left (t x y) (list_any (t x) ys) is))
      | inr not' ↦ not'
    ]

    later : Has ys x ≡ false
    later = ap (λ (b : Bool). b || list_any (t x) ys) (sym differ) ∙ new

    not_x : t y x ≡ false
    not_x = elim (cases_Bool (t y x)) [
      | inl is ↦ absurd (false≢true (sym differ ∙ ap (t x) (same y x is) ∙ itself x))
      | inr not' ↦ not'
    ]

  -- elements of a list, each once
  pub record Among (xs ys : List X) : Type 0 where
    pub once : Once xs
    pub inside : (x : X) → Has xs x ≡ true → Has ys x ≡ true

  pub none_among : (ys : List X) → Among [] ys
  none_among ys = record { once = tt; inside = λ x has. absurd cc }

  pub few_among : (xs ys : List X) → Among xs ys → length xs ≤ length ys
  few_among xs ys a = no_longer xs ys a.once a.inside

  pub more_among : (xs ys : List X) (x : X) → Has ys x ≡ true → Among xs ys → Among (cond (Has xs x) xs (xs ++ x ∷ [])) ys
  more_among xs ys x has a = elim (cases_Bool (Has xs x)) [
    | inl there ↦ subst (λ (zs : List X). Among zs ys) (sym (cond-true (Has xs x) xs (xs ++ x ∷ []) there)) a
    | inr none ↦ subst (λ (zs : List X). Among zs ys) (sym (cond-false (Has xs x) xs (xs ++ x ∷ []) none)) (record {
      once = once_more xs x none a.once;
      inside = λ y at. elim (or_cases (Has xs y) (t y x || false) (sym (list_any-append (t y) xs (x ∷ [])) ∙ at)) [
        | inl before ↦ a.inside y before
        | inr last ↦ elim (or_cases (t y x) false last) [
          | inl is ↦ ap (Has ys) (same y x is) ∙ has
          | inr never ↦ absurd cc
        ]
      ];
    })
  ]
