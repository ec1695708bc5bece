-- Which intervals get a physical register in a walk: it is clear for each, and none of them starts before an earlier one has ended.
use Rattle.std.proofs.Common.{◌≡◌, ◌⊎◌, inl, inr, ℕ, suc, ◌<◌, ◌≤◌, List, [], ◌∷◌, Contains, Option, Some, None, Bool, true, false, cond}
use Rattle.std.proofs.Common.{nat_eq, nat_le, eqb-true, eq-eqb, refl, sym, ap, ◌∙◌, subst, arith}
use Rattle.std.proofs.lemmas.Bool.{and_parts, leb-true}
use Rattle.scan_intervals.specs.declared.interval.LiveInterval.{LiveInterval}
use Rattle.scan_intervals.specs.Points.{CodePoint}
use Rattle.scan_intervals.specs.Intervals.{Meet, AreIntervals, is_clear, touches, first_index, last_index}
use Rattle.scan_intervals.proofs.Indices.{proper}
use Rattle.scan_allocation.specs.declared.assignment.RegisterAssignment.{RegisterAssignment}
use Rattle.scan_allocation.specs.Walk.{find_in, is_open, free_after, walk, given_to}
use Rattle.scan_allocation.specs.Laws.{IntervalsThatMeetAreApart}

head_in : {A : Type 0} (x : A) (xs : List A) → Contains (x ∷ xs) x
head_in x xs = (0, omega arith, refl)

tail_in : {A : Type 0} (x y : A) (xs : List A) → Contains xs y → Contains (x ∷ xs) y
tail_in x y xs (k, lt, e) = (suc k, omega (arith, lt), e)

none_in : {A : Type 0} (y : A) → Contains [] y → ⊥
none_in y (k, lt, e) = omega (arith, lt)

-- what is found passes the test, and is in the list
pub found_passes : (test : ℕ → Bool) (rs : List ℕ) (q : ℕ) → find_in test rs ≡ Some q → (test q ≡ true) × Contains rs q
found_passes test [] q e = cc
found_passes test (r ∷ rs) q e = by_test (test r) refl e (λ h. found_passes test rs q h) where
  by_test : (z : Bool) → test r ≡ z → cond z (Some r) (find_in test rs) ≡ Some q → (find_in test rs ≡ Some q → (test q ≡ true) × Contains rs q) →
      (test q ≡ true) × Contains (r ∷ rs) q
  by_test true t e more = let same : r ≡ q = cc in (subst (λ (x : ℕ). test x ≡ true) same t, subst (λ (x : ℕ). Contains (r ∷ rs) x) same (head_in r rs))
  by_test false t e more = let w = more e in (w.0, tail_in r q rs w.1)

module _ (points : List CodePoint) (order : List ℕ) where
  abbrev pub chosen : (free : ℕ → ℕ) → LiveInterval → Option ℕ
  chosen free i = find_in (is_open (is_clear points) free i) order

  -- an interval of the list gets a physical register
  abbrev pub Gets : (free : ℕ → ℕ) → List LiveInterval → LiveInterval → ℕ → Type 0
  Gets free [] j q = ⊥
  Gets free (i ∷ is) j q = ((i ≡ j) × (chosen free i ≡ Some q)) ⊎ Gets (free_after free i (chosen free i)) is j q

  -- what a register gets, some interval of it gets
  pub given_gets : (free : ℕ → ℕ) (is : List LiveInterval) (r q : ℕ) → given_to (walk (is_clear points) order free is) r ≡ Some q →
      (j : LiveInterval) × Gets free is j q × Contains is j × (j.register ≡ r)
  given_gets free [] r q e = cc
  given_gets free (i ∷ is) r q e = by_test (nat_eq i.register r) refl e (λ h. given_gets (free_after free i (chosen free i)) is r q h) where
    rest : List RegisterAssignment
    rest = walk (is_clear points) order (free_after free i (chosen free i)) is

    by_test : (z : Bool) → nat_eq i.register r ≡ z → cond z (chosen free i) (given_to rest r) ≡ Some q →
        (given_to rest r ≡ Some q → (j : LiveInterval) × Gets (free_after free i (chosen free i)) is j q × Contains is j × (j.register ≡ r)) →
        (j : LiveInterval) × Gets free (i ∷ is) j q × Contains (i ∷ is) j × (j.register ≡ r)
    by_test true t e more = (i, inl (refl, e), head_in i is, eqb-true i.register r t)
    by_test false t e more = let w = more e in (w.0, inr w.1, tail_in i w.0 is w.2, w.3)

  -- the chosen register is free at the interval's start, clear in it, and in the order
  pub chosen_is : (free : ℕ → ℕ) (i : LiveInterval) (q : ℕ) → chosen free i ≡ Some q → (free q ≤ i.start) × (is_clear points i q ≡ true) × Contains order q
  chosen_is free i q e =
      let w = found_passes (is_open (is_clear points) free i) order q e in
      let parts = and_parts (nat_le (free q) i.start) (is_clear points i q) w.0 in
      (leb-true (free q) i.start parts.0, parts.1, w.1)

  pub gets_clear : (free : ℕ → ℕ) (is : List LiveInterval) (j : LiveInterval) (q : ℕ) → Gets free is j q →
      (is_clear points j q ≡ true) × Contains order q
  gets_clear free [] j q g = absurd g
  gets_clear free (i ∷ is) j q (inl (same, e)) =
      let w = chosen_is free i q e in (subst (λ (k : LiveInterval). is_clear points k q ≡ true) same w.1, w.2)
  gets_clear free (i ∷ is) j q (inr g) = gets_clear (free_after free i (chosen free i)) is j q g

  -- intervals don't end before they start
  abbrev pub AreProper : List LiveInterval → Type 0
  AreProper is = (i : LiveInterval) → Contains is i → i.start ≤ i.end

  after_same : (free : ℕ → ℕ) (i : LiveInterval) (q : ℕ) → free_after free i (Some q) q ≡ suc i.end
  after_same free i q = ap (λ (z : Bool). cond z (suc i.end) (free q)) (eq-eqb q q refl)

  -- a register is free no earlier after an interval got one
  later_by : (free : ℕ → ℕ) (i : LiveInterval) (o : Option ℕ) (q : ℕ) → i.start ≤ i.end → ((r : ℕ) → o ≡ Some r → free r ≤ i.start) →
      free q ≤ free_after free i o q
  later_by free i None q le open_at = omega arith
  later_by free i (Some r) q le open_at = by_test (nat_eq q r) refl where
    by_test : (z : Bool) → nat_eq q r ≡ z → free q ≤ cond z (suc i.end) (free q)
    by_test true t =
        let at = open_at r refl in
        let same : free q ≡ free r = ap free (eqb-true q r t) in
        omega (arith, at, same, le)
    by_test false t = omega arith

  later : (free : ℕ → ℕ) (i : LiveInterval) (q : ℕ) → i.start ≤ i.end → free q ≤ free_after free i (chosen free i) q
  later free i q le = later_by free i (chosen free i) q le (λ r e. (chosen_is free i r e).0)

  -- what gets a register starts where it is free
  starts_free : (free : ℕ → ℕ) (is : List LiveInterval) (j : LiveInterval) (q : ℕ) → AreProper is → Gets free is j q → free q ≤ j.start
  starts_free free [] j q right g = absurd g
  starts_free free (i ∷ is) j q right (inl (same, e)) = subst (λ (k : LiveInterval). free q ≤ k.start) same (chosen_is free i q e).0
  starts_free free (i ∷ is) j q right (inr g) =
      let rest = starts_free (free_after free i (chosen free i)) is j q (λ k c. right k (tail_in i k is c)) g in
      let here = later free i q (right i (head_in i is)) in
      omega (arith, rest, here)

  -- and what gets it later starts behind the end of what got it
  behind : (free : ℕ → ℕ) (i j : LiveInterval) (is : List LiveInterval) (q : ℕ) → AreProper is → chosen free i ≡ Some q →
      Gets (free_after free i (chosen free i)) is j q → i.end < j.start
  behind free i j is q right e g =
      let le = starts_free (free_after free i (chosen free i)) is j q right g in
      let at : free_after free i (chosen free i) q ≡ suc i.end = ap (λ (o : Option ℕ). free_after free i o q) e ∙ after_same free i q in
      omega (arith, le, at)

  -- two intervals that get one register are the same, or one ends before the other starts
  pub one_register : (free : ℕ → ℕ) (is : List LiveInterval) (i j : LiveInterval) (q : ℕ) → AreProper is → Gets free is i q → Gets free is j q →
      (i ≡ j) ⊎ ((i.end < j.start) ⊎ (j.end < i.start))
  one_register free [] i j q right g h = absurd g
  one_register free (k ∷ is) i j q right (inl (same, e)) (inl (again, h)) = inl (sym same ∙ again)
  one_register free (k ∷ is) i j q right (inl (same, e)) (inr h) =
      inr (inl (subst (λ (l : LiveInterval). l.end < j.start) same (behind free k j is q (λ l c. right l (tail_in k l is c)) e h)))
  one_register free (k ∷ is) i j q right (inr g) (inl (again, h)) =
      inr (inr (subst (λ (l : LiveInterval). l.end < i.start) again (behind free k i is q (λ l c. right l (tail_in k l is c)) h g)))
  one_register free (k ∷ is) i j q right (inr g) (inr h) =
      one_register (free_after free k (chosen free k)) is i j q (λ l c. right l (tail_in k l is c)) g h

  -- two registers that get one physical register have intervals that don't meet
  pub never_meet : (free : ℕ → ℕ) (is : List LiveInterval) (i j : LiveInterval) (q : ℕ) → AreProper is → Gets free is i q → Gets free is j q →
      (i.register ≡ j.register → ⊥) → Meet i j → ⊥
  never_meet free is i j q right g h other meet =
      let low = meet.0 in
      let high = meet.1 in
      elim (one_register free is i j q right g h) [
        | inl same ↦ other (ap (λ (k : LiveInterval). k.register) same)
        | inr apart ↦ elim apart [
          | inl lt ↦ omega (arith, lt, high)
          | inr lt ↦ omega (arith, lt, low)
        ]
      ]

-- the intervals of a function are proper
pub all_proper : (points : List CodePoint) (intervals : List LiveInterval) → AreIntervals points intervals → (i : LiveInterval) → Contains intervals i →
    i.start ≤ i.end
all_proper points intervals are i c = proper points i ((are.each i).0 c).1

-- a register has one interval
first_same : {A : Type 0} (o : Option A) (a b : A) → o ≡ Some a → o ≡ Some b → a ≡ b
first_same o a b e h = let w : Some a ≡ Some b = sym e ∙ h in cc

pub one_interval : (points : List CodePoint) (intervals : List LiveInterval) → AreIntervals points intervals → (i j : LiveInterval) →
    Contains intervals i → Contains intervals j → i.register ≡ j.register → i ≡ j
one_interval points intervals are i j c d same =
    let a = ((are.each i).0 c).1 in
    let b = ((are.each j).0 d).1 in
    let starts : i.start ≡ j.start = first_same _ i.start j.start a.start
    (ap (λ (r : ℕ). first_index (touches r) points) same ∙ b.start) in
    let ends : i.end ≡ j.end = first_same _ i.end j.end a.end (ap (λ (r : ℕ). last_index (touches r) points) same ∙ b.end) in
    λ t. record { register = same t; start = starts t; end = ends t }

pub intervals_that_meet_are_apart : IntervalsThatMeetAreApart
intervals_that_meet_are_apart points order free intervals are i j q c d other meet e h =
    let right = all_proper points intervals are in
    let g = given_gets points order free intervals i.register q e in
    let w = given_gets points order free intervals j.register q h in
    let same_i : g.0 ≡ i = one_interval points intervals are g.0 i g.2 c g.3 in
    let same_j : w.0 ≡ j = one_interval points intervals are w.0 j w.2 d w.3 in
    never_meet points order free intervals i j q right
    (subst (λ (k : LiveInterval). Gets points order free intervals k q) same_i g.1)
    (subst (λ (k : LiveInterval). Gets points order free intervals k q) same_j w.1) other meet
