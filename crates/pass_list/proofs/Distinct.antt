-- Lists in which each pass stands once: there are no more than passes.
use Rattle.std.proofs.Common.{◌≡◌, ◌⊎◌, inl, inr, ℕ, zero, suc, ◌+◌, ◌<◌, ◌≤◌, List, [], ◌∷◌, ◌++◌, length, take, refl, sym, ap, ◌∙◌, subst, arith}
use Rattle.std.proofs.Common.{add-one, length-append}
use Rattle.std.specs.Prelude.{Contains, slice_index_or, slice_set}
use Rattle.std.proofs.Math.Seq.{take-suc-set}
use Rattle.std.proofs.lemmas.List.{length-take-le}
use Rattle.std.proofs.lemmas.List.Elements.{Contains-append_left, Contains-append_right}
use Rattle.pass_list.specs.declared.kind.PassKind.{PassKind}
use Rattle.pass_list.specs.declared.kind.PassKind.TheVariants.{Copy, Remat, Spill, Dead, Fold}
use Rattle.pass_list.specs.Names.{AreDistinct, STANDARD}

first_in : (p : PassKind) (ps : List PassKind) → Contains (p ∷ ps) p
first_in p ps = Contains-append_left (p ∷ []) ps p (0, omega arith, refl)

later_in : (p q : PassKind) (ps : List PassKind) → Contains ps q → Contains (p ∷ ps) q
later_in p q ps h = Contains-append_right (p ∷ []) ps q h

pub none_in : (p : PassKind) → Contains [] p → ⊥
none_in p h = omega (arith, h.1)

-- ---- one more behind

pub not_twice : (xs : List PassKind) (p : PassKind) → AreDistinct (xs ++ p ∷ []) → Contains xs p → ⊥
not_twice [] p d has = none_in p has
not_twice (x ∷ xs) p d has = by_place has.0 has.1 has.2 (not_twice xs p d.1) where
  by_place : (k : ℕ) → k < length (x ∷ xs) → slice_index_or (x ∷ xs) k p ≡ p → (Contains xs p → ⊥) → ⊥
  by_place zero lt e no_later = d.0 (subst (Contains (xs ++ p ∷ [])) (sym e) (Contains-append_right xs (p ∷ []) p (first_in p [])))
  by_place (suc k) lt e no_later = no_later (k, omega (arith, lt), e)

at_end : (x p : PassKind) (xs : List PassKind) (k : ℕ) → k < length (xs ++ p ∷ []) → slice_index_or (xs ++ p ∷ []) k x ≡ x → Contains xs x ⊎ (p ≡ x)
at_end x p [] zero lt e = inr e
at_end x p [] (suc k) lt e = absurd (omega (arith, lt))
at_end x p (y ∷ ys) zero lt e = inl (0, omega arith, e)
at_end x p (y ∷ ys) (suc k) lt e = elim (at_end x p ys k (omega (arith, lt)) e) [ inl h ↦ inl (later_in y x ys h) | inr same ↦ inr same ]

pub one_more : (xs : List PassKind) (p : PassKind) → AreDistinct xs → (Contains xs p → ⊥) → AreDistinct (xs ++ p ∷ [])
one_more [] p d new = (none_in p, tt)
one_more (x ∷ xs) p d new = (λ h. by_place (at_end x p xs h.0 h.1 h.2), one_more xs p d.1 (λ h. new (later_in x p xs h))) where
  by_place : Contains xs x ⊎ (p ≡ x) → ⊥
  by_place (inl there) = d.0 there
  by_place (inr same) = new (subst (Contains (x ∷ xs)) (sym same) (first_in x xs))

-- the front of such a list is one
pub front : (xs ys : List PassKind) → AreDistinct (xs ++ ys) → AreDistinct xs
front [] ys d = tt
front (x ∷ xs) ys d = (λ h. d.0 (Contains-append_left xs ys x h), front xs ys d.1)

-- ---- how many there are

weight : PassKind → PassKind → ℕ
weight Copy Copy = 1
weight Remat Remat = 1
weight Spill Spill = 1
weight Dead Dead = 1
weight Fold Fold = 1
weight _ _ = 0

occurs : PassKind → List PassKind → ℕ
occurs p [] = 0
occurs p (x ∷ xs) = weight p x + occurs p xs

same_or_none : (p x : PassKind) → (weight p x ≡ 0) ⊎ ((weight p x ≡ 1) × (x ≡ p))
unfolding weight
same_or_none Copy Copy = inr (refl, refl)
same_or_none Remat Remat = inr (refl, refl)
same_or_none Spill Spill = inr (refl, refl)
same_or_none Dead Dead = inr (refl, refl)
same_or_none Fold Fold = inr (refl, refl)
same_or_none Copy Remat = inl refl
same_or_none Copy Spill = inl refl
same_or_none Copy Dead = inl refl
same_or_none Copy Fold = inl refl
same_or_none Remat Copy = inl refl
same_or_none Remat Spill = inl refl
same_or_none Remat Dead = inl refl
same_or_none Remat Fold = inl refl
same_or_none Spill Copy = inl refl
same_or_none Spill Remat = inl refl
same_or_none Spill Dead = inl refl
same_or_none Spill Fold = inl refl
same_or_none Dead Copy = inl refl
same_or_none Dead Remat = inl refl
same_or_none Dead Spill = inl refl
same_or_none Dead Fold = inl refl
same_or_none Fold Copy = inl refl
same_or_none Fold Remat = inl refl
same_or_none Fold Spill = inl refl
same_or_none Fold Dead = inl refl

none_occurs : (p : PassKind) (xs : List PassKind) → (Contains xs p → ⊥) → occurs p xs ≡ 0
unfolding occurs
none_occurs p [] absent = refl
none_occurs p (x ∷ xs) absent =
    let rest : occurs p xs ≡ 0 = none_occurs p xs (λ h. absent (later_in x p xs h)) in
    elim (same_or_none p x) [
      | inl w ↦ omega (arith, w, rest)
      | inr w ↦ absurd (absent (subst (λ (z : PassKind). Contains (x ∷ xs) z) w.1 (first_in x xs)))
    ]

once : (p : PassKind) (xs : List PassKind) → AreDistinct xs → occurs p xs ≤ 1
unfolding occurs
once p [] d = omega arith
once p (x ∷ xs) d =
    let rest : occurs p xs ≤ 1 = once p xs d.1 in
    elim (same_or_none p x) [
      | inl w ↦ omega (arith, w, rest)
      | inr w ↦ (
          let none : occurs p xs ≡ 0 = none_occurs p xs (subst (λ (z : PassKind). Contains xs z → ⊥) w.1 d.0) in
          let one : weight p x ≡ 1 = w.0 in
          omega (arith, one, none))
    ]

all_occur : (xs : List PassKind) → length xs ≡ occurs Copy xs + (occurs Remat xs + (occurs Spill xs + (occurs Dead xs + occurs Fold xs)))
unfolding occurs weight
all_occur [] = refl
all_occur (Copy ∷ xs) = let rest = all_occur xs in omega (arith, rest)
all_occur (Remat ∷ xs) = let rest = all_occur xs in omega (arith, rest)
all_occur (Spill ∷ xs) = let rest = all_occur xs in omega (arith, rest)
all_occur (Dead ∷ xs) = let rest = all_occur xs in omega (arith, rest)
all_occur (Fold ∷ xs) = let rest = all_occur xs in omega (arith, rest)

pub at_most : (xs : List PassKind) → AreDistinct xs → length xs ≤ 5
at_most xs d =
    let all = all_occur xs in
    let copy = once Copy xs d in
    let remat = once Remat xs d in
    let spill = once Spill xs d in
    let dead = once Dead xs d in
    let fold = once Fold xs d in
    omega (arith, all, copy, remat, spill, dead, fold)

-- ---- all passes

weighs_itself : (p : PassKind) → weight p p ≡ 1
unfolding weight
weighs_itself Copy = refl
weighs_itself Remat = refl
weighs_itself Spill = refl
weighs_itself Dead = refl
weighs_itself Fold = refl

counted : (p : PassKind) (xs : List PassKind) → Contains xs p → 1 ≤ occurs p xs
unfolding occurs
counted p [] h = absurd (none_in p h)
counted p (x ∷ xs) h = by_place h.0 h.1 h.2 (counted p xs) where
  by_place : (k : ℕ) → k < length (x ∷ xs) → slice_index_or (x ∷ xs) k p ≡ p → (Contains xs p → 1 ≤ occurs p xs) → 1 ≤ occurs p (x ∷ xs)
  by_place zero lt e rest =
      let one : weight p x ≡ 1 = subst (λ (z : PassKind). weight p z ≡ 1) (sym e) (weighs_itself p) in
      omega (arith, one)
  by_place (suc k) lt e rest = let later = rest (k, omega (arith, lt), e) in omega (arith, later)

pub standard_distinct : AreDistinct STANDARD
unfolding occurs weight
standard_distinct = (
  λ h. let one = counted Copy (Remat ∷ Spill ∷ Dead ∷ Fold ∷ []) h in omega (arith, one),
  (
    λ h. let one = counted Remat (Spill ∷ Dead ∷ Fold ∷ []) h in omega (arith, one),
    (
      λ h. let one = counted Spill (Dead ∷ Fold ∷ []) h in omega (arith, one),
      (λ h. let one = counted Dead (Fold ∷ []) h in omega (arith, one), (none_in Fold, tt)),
    ),
  ),
)

-- ---- a list in an array

pub record Added (passes : List PassKind) (len : ℕ) (list : List PassKind) (p : PassKind) : Type 0 where
  pub room : len < 5
  pub now : take (len + 1) (slice_set passes len p) ≡ list ++ p ∷ []
  pub distinct : AreDistinct (list ++ p ∷ [])

pub added : (passes : List PassKind) (len : ℕ) (list : List PassKind) (p : PassKind) → length passes ≡ 5 → len ≤ 5 → take len passes ≡ list → AreDistinct list →
    (Contains list p → ⊥) → Added passes len list p
added passes len list p five fits same d new =
    let whole : AreDistinct (list ++ p ∷ []) = one_more list p d new in
    let all = at_most (list ++ p ∷ []) whole in
    let both = length-append list (p ∷ []) in
    let within : len ≤ length passes = omega (arith, five, fits) in
    let front : length (take len passes) ≡ len = length-take-le len passes within in
    let is : length list ≡ len = ap length (sym same) ∙ front in
    let room : len < 5 = omega (arith, all, both, is) in
    let inside : len < length passes = omega (arith, five, room) in
    record { room = room; now = rw add-one (take-suc-set passes len p inside ∙ ap (λ (z : List PassKind). z ++ p ∷ []) same); distinct = whole }
