-- The first and the last point that pass a test, and the points of an interval.
use Rattle.std.proofs.Common.{◌≡◌, ℕ, zero, suc, ◌+◌, ◌-◌, ◌<◌, ◌≤◌, List, [], ◌∷◌, take, drop, slice_get, Option, Some, None}
use Rattle.std.proofs.Common.{Bool, true, false, cond, not, ◌||◌, refl, sym, ap, ◌∙◌, subst, arith}
use Rattle.std.specs.List.{list_any}
use Rattle.std.specs.Option.{option_map}
use Rattle.scan_intervals.specs.declared.interval.LiveInterval.{LiveInterval}
use Rattle.scan_intervals.specs.Points.{CodePoint}
use Rattle.scan_intervals.specs.Intervals.{touches, is_blocked, first_index, or_first, last_index, IsIntervalIn, points_within, is_clear}

module _ (test : CodePoint → Bool) where
  -- the first index is that of a point that passes
  record Passes (ps : List CodePoint) (k : ℕ) : Type 0 where
    point : CodePoint
    at : slice_get ps k ≡ Some point
    passes : test point ≡ true

  first_by : (x : CodePoint) (xs : List CodePoint) (a : ℕ) (z : Bool) (o : Option ℕ) → test x ≡ z →
      ((b : ℕ) → o ≡ Some b → Passes xs b) → cond z (Some 0) (option_map suc o) ≡ Some a → Passes (x ∷ xs) a
  first_by x xs a true o t rest e =
      let zero_is : 0 ≡ a = cc in
      subst (Passes (x ∷ xs)) zero_is (record { point = x; at = refl; passes = t })
  first_by x xs a false None t rest e = cc
  first_by x xs a false (Some b) t rest e =
      let next : suc b ≡ a = cc in
      let w = rest b refl in
      subst (Passes (x ∷ xs)) next (record { point = w.point; at = w.at; passes = w.passes })

  first_passes : (ps : List CodePoint) (a : ℕ) → first_index test ps ≡ Some a → Passes ps a
  first_passes [] a e = cc
  first_passes (x ∷ xs) a e = first_by x xs a (test x) (first_index test xs) refl (λ b h. first_passes xs b h) e

  first_le_by : (x p : CodePoint) (a k : ℕ) (z : Bool) (o : Option ℕ) → ((b : ℕ) → o ≡ Some b → b ≤ k) →
      cond z (Some 0) (option_map suc o) ≡ Some a → a ≤ suc k
  first_le_by x p a k true o rest e = let zero_is : 0 ≡ a = cc in omega (arith, zero_is)
  first_le_by x p a k false None rest e = cc
  first_le_by x p a k false (Some b) rest e =
      let next : suc b ≡ a = cc in
      let le = rest b refl in
      omega (arith, next, le)

  -- no point that passes comes before the first one
  pub first_le : (ps : List CodePoint) (a k : ℕ) (p : CodePoint) → first_index test ps ≡ Some a → slice_get ps k ≡ Some p → test p ≡ true → a ≤ k
  first_le [] a k p e at t = cc
  first_le (x ∷ xs) a zero p e at t =
      let same : x ≡ p = cc in
      let here : test x ≡ true = ap test same ∙ t in
      let is : Some 0 ≡ Some a = sym (ap (λ (z : Bool). cond z (Some 0) (option_map suc (first_index test xs))) here) ∙ e in
      let zero_is : 0 ≡ a = cc in
      omega (arith, zero_is)
  first_le (x ∷ xs) a (suc k) p e at t =
      first_le_by x p a k (test x) (first_index test xs) (λ b h. first_le xs b k p h at t) e

  -- where none is last, none passes
  none_passes : (ps : List CodePoint) (k : ℕ) (p : CodePoint) → last_index test ps ≡ None → slice_get ps k ≡ Some p → test p ≡ true → ⊥
  none_passes [] k p e at t = cc
  none_passes (x ∷ xs) k p e at t = by_rest (last_index test xs) refl (test x) refl k at e (λ j h g. none_passes xs j p h g t) where
    by_rest : (o : Option ℕ) → last_index test xs ≡ o → (z : Bool) → test x ≡ z → (k : ℕ) → slice_get (x ∷ xs) k ≡ Some p → or_first z o ≡ None →
        ((j : ℕ) → last_index test xs ≡ None → slice_get xs j ≡ Some p → ⊥) → ⊥
    by_rest (Some n) h z w k at e more = cc
    by_rest None h true w k at e more = cc
    by_rest None h false w zero at e more =
        let same : x ≡ p = cc in
        let bad : false ≡ true = sym w ∙ ap test same ∙ t in
        cc
    by_rest None h false w (suc k) at e more = more k h at

  -- no point that passes comes behind the last one
  pub last_ge : (ps : List CodePoint) (b k : ℕ) (p : CodePoint) → last_index test ps ≡ Some b → slice_get ps k ≡ Some p → test p ≡ true → k ≤ b
  last_ge [] b k p e at t = cc
  last_ge (x ∷ xs) b zero p e at t = omega arith
  last_ge (x ∷ xs) b (suc k) p e at t = by_rest (last_index test xs) refl e (λ n h. last_ge xs n k p h at t) where
    by_rest : (o : Option ℕ) → last_index test xs ≡ o → or_first (test x) o ≡ Some b → ((n : ℕ) → last_index test xs ≡ Some n → k ≤ n) → suc k ≤ b
    by_rest None h e more = absurd (none_passes xs k p h at t)
    by_rest (Some n) h e more =
        let next : suc n ≡ b = cc in
        let le = more n h in
        omega (arith, next, le)

  pub first_before_last : (ps : List CodePoint) (a b : ℕ) → first_index test ps ≡ Some a → last_index test ps ≡ Some b → a ≤ b
  first_before_last ps a b first last = let w = first_passes ps a first in last_ge ps b a w.point last w.at w.passes

-- an interval doesn't end before it starts
pub proper : (points : List CodePoint) (i : LiveInterval) → IsIntervalIn points i → i.start ≤ i.end
proper points i is = first_before_last (touches i.register) points i.start i.end is.start is.end

-- a point that the register touches is in its interval
pub touched_within : (points : List CodePoint) (i : LiveInterval) (k : ℕ) (p : CodePoint) → IsIntervalIn points i → slice_get points k ≡ Some p →
    touches i.register p ≡ true → (i.start ≤ k) × (k ≤ i.end)
touched_within points i k p is at t =
    (first_le (touches i.register) points i.start k p is.start at t, last_ge (touches i.register) points i.end k p is.end at t)

-- ---- the points of an interval

get_behind : (xs : List CodePoint) (a d : ℕ) → slice_get (drop a xs) d ≡ slice_get xs (a + d)
get_behind xs zero d = none xs ∙ ap (slice_get xs) (omega arith) where
  none : (ys : List CodePoint) → slice_get (drop 0 ys) d ≡ slice_get ys d
  none [] = refl
  none (y ∷ ys) = refl
get_behind [] (suc a) d = refl
get_behind (x ∷ xs) (suc a) d =
    let next : suc a + d ≡ suc (a + d) = omega arith in
    get_behind xs a d ∙ ap (slice_get (x ∷ xs)) (sym next)

get_front : (xs : List CodePoint) (n d : ℕ) → d < n → slice_get (take n xs) d ≡ slice_get xs d
get_front [] zero d lt = absurd (omega (arith, lt))
get_front [] (suc n) d lt = refl
get_front (x ∷ xs) zero d lt = absurd (omega (arith, lt))
get_front (x ∷ xs) (suc n) zero lt = refl
get_front (x ∷ xs) (suc n) (suc d) lt = get_front xs n d (omega (arith, lt))

none_any : (test : CodePoint → Bool) (xs : List CodePoint) (k : ℕ) (p : CodePoint) → not (list_any test xs) ≡ true → slice_get xs k ≡ Some p →
    test p ≡ false
none_any test [] k p e at = cc
none_any test (x ∷ xs) k p e at = by_test (test x) refl k at e (λ j h g. none_any test xs j p h g) where
  by_test : (z : Bool) → test x ≡ z → (k : ℕ) → slice_get (x ∷ xs) k ≡ Some p → not (z || list_any test xs) ≡ true →
      ((j : ℕ) → not (list_any test xs) ≡ true → slice_get xs j ≡ Some p → test p ≡ false) → test p ≡ false
  by_test true t k at e more = cc
  by_test false t zero at e more = let same : p ≡ x = cc in ap test same ∙ t
  by_test false t (suc k) at e more = more k e at

-- where a register is clear, no point of the interval blocks it
pub clear_at : (points : List CodePoint) (i : LiveInterval) (q k : ℕ) (p : CodePoint) → is_clear points i q ≡ true → i.start ≤ k → k ≤ i.end →
    slice_get points k ≡ Some p → is_blocked q p ≡ false
clear_at points i q k p clear low high at =
    let d : ℕ = k - i.start in
    let back : i.start + d ≡ k = omega (arith, low) in
    let within : d < suc i.end - i.start = omega (arith, low, high) in
    let there : slice_get (points_within i points) d ≡ Some p =
    get_front (drop i.start points) (suc i.end - i.start) d within ∙ get_behind points i.start d ∙ ap (slice_get points) back ∙ at in
    none_any (is_blocked q) (points_within i points) d p clear there
