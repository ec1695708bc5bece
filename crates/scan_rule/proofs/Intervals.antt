-- The intervals of points are one list.
use Rattle.std.proofs.Common.{◌≡◌, ◌⊎◌, inl, inr, zero, suc, List, [], ◌∷◌, AllPairs, Contains, refl, sym, ◌∙◌, subst, arith}
use Rattle.scan_allocation.specs.scan_intervals.declared.interval.LiveInterval.{LiveInterval}
use Rattle.scan_allocation.specs.scan_intervals.Points.{CodePoint}
use Rattle.scan_allocation.specs.scan_intervals.Intervals.{IsBefore, AreIntervals}

never_both : (i j : LiveInterval) → IsBefore i j → IsBefore j i → ⊥
never_both i j (inl a) (inl b) = omega (arith, a, b)
never_both i j (inl a) (inr b) = let e = b.0 in omega (arith, a, e)
never_both i j (inr a) (inl b) = let e = a.0 in omega (arith, b, e)
never_both i j (inr a) (inr b) = let x = a.1 in let y = b.1 in omega (arith, x, y)

none_in : (i : LiveInterval) → Contains [] i → ⊥
none_in i (k, lt, e) = omega (arith, lt)

-- what is behind the first is after it
behind : (x : LiveInterval) (xs : List LiveInterval) (z : LiveInterval) → AllPairs IsBefore (x ∷ xs) → Contains xs z → IsBefore x z
behind x xs z ordered (k, lt, e) = subst (IsBefore x) e (ordered 0 (suc k) z (omega arith) (omega (arith, lt)))

rest_ordered : (x : LiveInterval) (xs : List LiveInterval) → AllPairs IsBefore (x ∷ xs) → AllPairs IsBefore xs
rest_ordered x xs ordered = λ i j d lt within. ordered (suc i) (suc j) d (omega (arith, lt)) (omega (arith, within))

-- the first of a list, or behind it
cases_in : (x : LiveInterval) (xs : List LiveInterval) (z : LiveInterval) → Contains (x ∷ xs) z → (x ≡ z) ⊎ Contains xs z
cases_in x xs z (zero, lt, e) = inl e
cases_in x xs z (suc k, lt, e) = inr (k, omega (arith, lt), e)

head_in : (x : LiveInterval) (xs : List LiveInterval) → Contains (x ∷ xs) x
head_in x xs = (0, omega arith, refl)

tail_in : (x : LiveInterval) (xs : List LiveInterval) (z : LiveInterval) → Contains xs z → Contains (x ∷ xs) z
tail_in x xs z (k, lt, e) = (suc k, omega (arith, lt), e)

-- two lists in order with the same members are the same
same_list : (xs ys : List LiveInterval) → AllPairs IsBefore xs → AllPairs IsBefore ys → ((i : LiveInterval) → Contains xs i → Contains ys i) →
    ((i : LiveInterval) → Contains ys i → Contains xs i) → xs ≡ ys
same_list [] [] a b to back = refl
same_list [] (y ∷ ys) a b to back = absurd (none_in y (back y (head_in y ys)))
same_list (x ∷ xs) [] a b to back = absurd (none_in x (to x (head_in x xs)))
same_list (x ∷ xs) (y ∷ ys) a b to back = by_first first (λ p q more less. same_list xs ys p q more less) where
  first : x ≡ y
  first = elim (cases_in y ys x (to x (head_in x xs))) as (λ _. x ≡ y) [
    | inl e ↦ sym e
    | inr c ↦ elim (cases_in x xs y (back y (head_in y ys))) as (λ _. x ≡ y) [
      | inl e ↦ e
      | inr d ↦ absurd (never_both y x (behind y ys x b c) (behind x xs y a d))
    ]
  ]

  by_first : x ≡ y → (AllPairs IsBefore xs → AllPairs IsBefore ys → ((i : LiveInterval) → Contains xs i → Contains ys i) →
      ((i : LiveInterval) → Contains ys i → Contains xs i) → xs ≡ ys) → x ∷ xs ≡ y ∷ ys
  by_first e same =
      let rest : xs ≡ ys = same (rest_ordered x xs a) (rest_ordered y ys b)
      (λ i c. elim (cases_in y ys i (to i (tail_in x xs i c))) as (λ _. Contains ys i) [
        | inl h ↦ absurd (let p : IsBefore x x = subst (IsBefore x) (sym h ∙ sym e) (behind x xs i a c) in never_both x x p p)
        | inr d ↦ d
      ])
      (λ i c. elim (cases_in x xs i (back i (tail_in y ys i c))) as (λ _. Contains xs i) [
        | inl h ↦ absurd (let p : IsBefore y y = subst (IsBefore y) (sym h ∙ e) (behind y ys i b c) in never_both y y p p)
        | inr d ↦ d
      ]) in
      λ t. e t ∷ rest t

pub one_list : (points : List CodePoint) (xs ys : List LiveInterval) → AreIntervals points xs → AreIntervals points ys → xs ≡ ys
one_list points xs ys a b =
    same_list xs ys a.ordered b.ordered (λ i c. (b.each i).1 ((a.each i).0 c)) (λ i c. (a.each i).1 ((b.each i).0 c))
