-- Extents are intervals, counted from the other end.
use Rattle.std.proofs.Common.{◌≡◌, ℕ, zero, suc, ◌+◌, ◌-◌, ◌<◌, ◌≤◌, List, [], ◌∷◌, ◌++◌, drop, length, slice_index_or, Option, Some, None}
use Rattle.std.proofs.Common.{Bool, true, false, cond}
use Rattle.std.proofs.Common.{nat_eq, refl, sym, ap, ◌∙◌, append_assoc, subst, arith}
use Rattle.std.specs.Prelude.{All, Contains}
use Rattle.std.specs.List.{sum_by}
use Rattle.std.specs.Option.{option_map}
use Rattle.std.proofs.lemmas.Bool.{eqb-true, eq-eqb}
use Rattle.std.proofs.lemmas.List.Elements.{All-nil, All-cons, All-head, All-tail, All-weaker}
use Rattle.std.proofs.lemmas.List.Sums.{sum_by-cons}
use Rattle.scan_intervals.specs.declared.interval.LiveInterval.{LiveInterval}
use Rattle.scan_intervals.specs.Points.{CodePoint}
use Rattle.scan_intervals.specs.Intervals.{touches, first_index, or_first, last_index, IsIntervalIn}
use Rattle.scan_liveness.specs.declared.extents.Extent.{Extent}
use Rattle.scan_liveness.specs.Extents.{from_here, widened, extent_in, IsWithin, interval_of, intervals_from}

-- the extent has the first and the last point that pass the test, from the end
abbrev pub Fits : (CodePoint → Bool) → List CodePoint → Option Extent → Type 0
Fits test ps None = (first_index test ps ≡ None) × (last_index test ps ≡ None)
Fits test ps (Some e) = (e.first < length ps) × (e.last < length ps) × (first_index test ps ≡ Some (length ps - suc e.first)) ×
    (last_index test ps ≡ Some (length ps - suc e.last))

module _ (test : CodePoint → Bool) where
  first_passes : (p : CodePoint) (ps : List CodePoint) → test p ≡ true → first_index test (p ∷ ps) ≡ Some 0
  first_passes p ps t = ap (λ (z : Bool). cond z (Some 0) (option_map suc (first_index test ps))) t

  first_later : (p : CodePoint) (ps : List CodePoint) (o : Option ℕ) → test p ≡ false → first_index test ps ≡ o → first_index test (p ∷ ps) ≡ option_map suc o
  first_later p ps o t e = ap (λ (z : Bool). cond z (Some 0) (option_map suc (first_index test ps))) t ∙ ap (option_map suc) e

  last_is : (p : CodePoint) (ps : List CodePoint) (z : Bool) (o : Option ℕ) → test p ≡ z → last_index test ps ≡ o → last_index test (p ∷ ps) ≡ or_first z o
  last_is p ps z o t e = λ i. or_first (t i) (e i)

  fits_more : (p : CodePoint) (ps : List CodePoint) (z : Bool) (o : Option Extent) → test p ≡ z → Fits test ps o →
      Fits test (p ∷ ps) (widened z (length ps) o)
  fits_more p ps true None t (none, last) =
      let none_before : 0 ≡ length (p ∷ ps) - suc (length ps) = omega arith in (
        omega arith,
        omega arith,
        first_passes p ps t ∙ ap Some none_before,
        last_is p ps true None t last ∙ ap Some none_before,
      )
  fits_more p ps true (Some e) t (first_in, last_in, first, last) =
      let none_before : 0 ≡ length (p ∷ ps) - suc (length ps) = omega arith in
      let one_more : suc (length ps - suc e.last) ≡ length (p ∷ ps) - suc e.last = omega (arith, last_in) in (
        omega arith,
        omega (arith, last_in),
        first_passes p ps t ∙ ap Some none_before,
        last_is p ps true (Some (length ps - suc e.last)) t last ∙ ap Some one_more,
      )
  fits_more p ps false None t (none, last) = (first_later p ps None t none, last_is p ps false None t last)
  fits_more p ps false (Some e) t (first_in, last_in, first, last) =
      let more_first : suc (length ps - suc e.first) ≡ length (p ∷ ps) - suc e.first = omega (arith, first_in) in
      let more_last : suc (length ps - suc e.last) ≡ length (p ∷ ps) - suc e.last = omega (arith, last_in) in (
        omega (arith, first_in),
        omega (arith, last_in),
        first_later p ps (Some (length ps - suc e.first)) t first ∙ ap Some more_first,
        last_is p ps false (Some (length ps - suc e.last)) t last ∙ ap Some more_last,
      )

  pub fits : (ps : List CodePoint) → Fits test ps (extent_in test ps)
  fits [] = (refl, refl)
  fits (p ∷ ps) = fits_more p ps (test p) (extent_in test ps) refl (fits ps)

within_by : (test : CodePoint → Bool) (ps : List CodePoint) (o : Option Extent) → Fits test ps o → IsWithin (length ps) o
within_by test ps None h = tt
within_by test ps (Some e) h = (h.0, h.1)

pub within : (test : CodePoint → Bool) (ps : List CodePoint) → IsWithin (length ps) (extent_in test ps)
within test ps = within_by test ps (extent_in test ps) (fits test ps)

-- ---- intervals

module _ (count : ℕ) where
  -- a member is the interval of one of the extents
  pub record IsOf (r : ℕ) (os : List (Option Extent)) (i : LiveInterval) : Type 0 where
    pub index : ℕ
    pub extent : Extent
    pub inside : index < length os
    pub at : slice_index_or os index None ≡ Some extent
    pub is : i ≡ interval_of count (r + index) extent

  later_of : (r : ℕ) (o : Option Extent) (os : List (Option Extent)) (i : LiveInterval) → IsOf (r + 1) os i → IsOf r (o ∷ os) i
  later_of r o os i w =
      let next : r + 1 + w.index ≡ r + suc w.index = omega arith in
      let less = w.inside in
      record {
        index = suc w.index;
        extent = w.extent;
        inside = omega (arith, less);
        at = w.at;
        is = w.is ∙ ap (λ (q : ℕ). interval_of count q w.extent) next;
      }

  pub member_of : (r : ℕ) (os : List (Option Extent)) (i : LiveInterval) → Contains (intervals_from count r os) i → IsOf r os i
  member_of r [] i (k, lt, e) = absurd (omega (arith, lt))
  member_of r (None ∷ os) i c = later_of r None os i (member_of (r + 1) os i c)
  member_of r (Some x ∷ os) i (zero, lt, e) =
      let none : r ≡ r + 0 = omega arith in
      record { index = 0; extent = x; inside = omega arith; at = refl; is = sym e ∙ ap (λ (q : ℕ). interval_of count q x) none }
  member_of r (Some x ∷ os) i (suc k, lt, e) = later_of r (Some x) os i (member_of (r + 1) os i (k, omega (arith, lt), e))

  behind : (i x : LiveInterval) (xs : List LiveInterval) → Contains xs i → Contains (x ∷ xs) i
  behind i x xs (k, lt, e) = (suc k, omega (arith, lt), e)

  pub of_member : (r : ℕ) (os : List (Option Extent)) (k : ℕ) (x : Extent) → k < length os → slice_index_or os k None ≡ Some x →
      Contains (intervals_from count r os) (interval_of count (r + k) x)
  of_member r [] k x lt e = absurd (omega (arith, lt))
  of_member r (None ∷ os) zero x lt e = cc
  of_member r (None ∷ os) (suc k) x lt e =
      let next : r + 1 + k ≡ r + suc k = omega arith in
      subst (λ (q : ℕ). Contains (intervals_from count (r + 1) os) (interval_of count q x)) next (of_member (r + 1) os k x (omega (arith, lt)) e)
  of_member r (Some y ∷ os) zero x lt e =
      let same : y ≡ x = cc in
      let none : r ≡ r + 0 = omega arith in
      (0, omega arith, (λ i. interval_of count (none i) (same i)))
  of_member r (Some y ∷ os) (suc k) x lt e =
      let next : r + 1 + k ≡ r + suc k = omega arith in
      behind (interval_of count (r + suc k) x) (interval_of count r y) (intervals_from count (r + 1) os)
      (subst (λ (q : ℕ). Contains (intervals_from count (r + 1) os) (interval_of count q x)) next (of_member (r + 1) os k x (omega (arith, lt)) e))

  -- ---- no register has two

  abbrev pub one : ℕ → LiveInterval → ℕ
  one r i = cond (nat_eq i.register r) 1 0

  pub from_above : (r : ℕ) (os : List (Option Extent)) → All (λ i. r ≤ i.register) (intervals_from count r os)
  from_above r [] = All-nil (λ (i : LiveInterval). r ≤ i.register)
  from_above r (None ∷ os) =
      All-weaker (λ (i : LiveInterval). r + 1 ≤ i.register) (λ (i : LiveInterval). r ≤ i.register) (λ i le. omega (arith, le))
      (intervals_from count (r + 1) os) (from_above (r + 1) os)
  from_above r (Some x ∷ os) =
      All-cons (λ (i : LiveInterval). r ≤ i.register) (interval_of count r x) (intervals_from count (r + 1) os) (omega arith)
      (All-weaker (λ (i : LiveInterval). r + 1 ≤ i.register) (λ (i : LiveInterval). r ≤ i.register) (λ i le. omega (arith, le))
      (intervals_from count (r + 1) os) (from_above (r + 1) os))

  none_among : (r : ℕ) (xs : List LiveInterval) → All (λ i. r + 1 ≤ i.register) xs → sum_by (one r) xs ≡ 0
  none_among r [] all = refl
  none_among r (x ∷ xs) all =
      let here = All-head (λ (i : LiveInterval). r + 1 ≤ i.register) x xs all in
      let rest = none_among r xs (All-tail (λ (i : LiveInterval). r + 1 ≤ i.register) x xs all) in
      let sum = sum_by-cons (one r) x xs in
      let other : one r x ≡ 0 = by_test (nat_eq x.register r) refl here in
      omega (arith, rest, sum, other) where
        by_test : (z : Bool) → nat_eq x.register r ≡ z → r + 1 ≤ x.register → ◌≡◌ {A = ℕ} (cond z 1 0) 0
        by_test true e le = let same = eqb-true x.register r e in absurd (omega (arith, same, le))
        by_test false e le = refl

  pub once : (r q : ℕ) (os : List (Option Extent)) → sum_by (one r) (intervals_from count q os) ≤ 1
  once r q [] = omega arith
  once r q (None ∷ os) = once r (q + 1) os
  once r q (Some x ∷ os) = by_test (nat_eq q r) refl (once r (q + 1) os) where
    by_test : (z : Bool) → nat_eq q r ≡ z → sum_by (one r) (intervals_from count (q + 1) os) ≤ 1 →
        sum_by (one r) (interval_of count q x ∷ intervals_from count (q + 1) os) ≤ 1
    by_test true e le =
        let same = eqb-true q r e in
        let head : one r (interval_of count q x) ≡ 1 = ap (λ (z : Bool). cond z 1 0) e in
        let rest = none_among r (intervals_from count (q + 1) os)
        (subst (λ (n : ℕ). All (λ (i : LiveInterval). n + 1 ≤ i.register) (intervals_from count (q + 1) os)) same (from_above (q + 1) os)) in
        let sum = sum_by-cons (one r) (interval_of count q x) (intervals_from count (q + 1) os) in
        omega (arith, head, rest, sum)
    by_test false e le =
        let head : one r (interval_of count q x) ≡ 0 = ap (λ (z : Bool). cond z 1 0) e in
        let sum = sum_by-cons (one r) (interval_of count q x) (intervals_from count (q + 1) os) in
        omega (arith, head, le, sum)

  at_least_once : (r : ℕ) (ys : List LiveInterval) (j : ℕ) (d : LiveInterval) → j < length ys → (slice_index_or ys j d).register ≡ r → 1 ≤ sum_by (one r) ys
  at_least_once r [] j d lt e = absurd (omega (arith, lt))
  at_least_once r (y ∷ ys) zero d lt e =
      let head : one r y ≡ 1 = ap (λ (z : Bool). cond z 1 0) (eq-eqb y.register r e) in
      let sum = sum_by-cons (one r) y ys in
      omega (arith, head, sum)
  at_least_once r (y ∷ ys) (suc j) d lt e =
      let more = at_least_once r ys j d (omega (arith, lt)) e in
      let sum = sum_by-cons (one r) y ys in
      omega (arith, more, sum)

  pub twice : (r : ℕ) (ys : List LiveInterval) (i j : ℕ) (d : LiveInterval) → i < j → j < length ys → (slice_index_or ys i d).register ≡ r →
      (slice_index_or ys j d).register ≡ r → 2 ≤ sum_by (one r) ys
  twice r [] i j d lt inside e f = absurd (omega (arith, inside))
  twice r (y ∷ ys) i zero d lt inside e f = absurd (omega (arith, lt))
  twice r (y ∷ ys) zero (suc j) d lt inside e f =
      let head : one r y ≡ 1 = ap (λ (z : Bool). cond z 1 0) (eq-eqb y.register r e) in
      let more = at_least_once r ys j d (omega (arith, inside)) f in
      let sum = sum_by-cons (one r) y ys in
      omega (arith, head, more, sum)
  twice r (y ∷ ys) (suc i) (suc j) d lt inside e f =
      let more = twice r ys i j d (omega (arith, lt)) (omega (arith, inside)) e f in
      let sum = sum_by-cons (one r) y ys in
      omega (arith, more, sum)

  -- ---- intervals are pushed one after the other

  pub pushed_none : (extents : List (Option Extent)) (made : List LiveInterval) → made ≡ [] →
      made ++ intervals_from count (0 + 32) (drop 0 extents) ≡ intervals_from count 32 extents
  pushed_none extents made e =
      ap (λ (xs : List LiveInterval). xs ++ intervals_from count 32 (drop 0 extents)) e ∙ ap (intervals_from count 32) (none extents) where
        none : (os : List (Option Extent)) → drop 0 os ≡ os
        none [] = refl
        none (o ∷ os) = refl

  drop_at : (os : List (Option Extent)) (k : ℕ) (o : Option Extent) → k < length os → o ≡ slice_index_or os k None → drop k os ≡ o ∷ drop (k + 1) os
  drop_at [] k o lt e = absurd (omega (arith, lt))
  drop_at (x ∷ os) zero o lt e = ap (λ (y : Option Extent). y ∷ os) (sym e)
  drop_at (x ∷ os) (suc k) o lt e =
      let next : suc (k + 1) ≡ suc k + 1 = omega arith in
      drop_at os k o (omega (arith, lt)) e ∙ ap (λ (n : ℕ). o ∷ drop n (x ∷ os)) next

  one_of : (r : ℕ) (o : Option Extent) (os : List (Option Extent)) →
      intervals_from count r (o ∷ os) ≡ intervals_from count r (o ∷ []) ++ intervals_from count (r + 1) os
  one_of r None os = refl
  one_of r (Some e) os = refl

  pub pushed_one : (extents : List (Option Extent)) (k : ℕ) (o : Option Extent) (made more : List LiveInterval) → k < length extents →
      o ≡ slice_index_or extents k None → more ≡ made ++ intervals_from count (k + 32) (o ∷ []) →
      made ++ intervals_from count (k + 32) (drop k extents) ≡ intervals_from count 32 extents →
      more ++ intervals_from count (k + 1 + 32) (drop (k + 1) extents) ≡ intervals_from count 32 extents
  pushed_one extents k o made more lt at e so_far =
      let next : k + 1 + 32 ≡ k + 32 + 1 = omega arith in
      let rest : List LiveInterval = intervals_from count (k + 32 + 1) (drop (k + 1) extents) in
      ap (λ (n : ℕ). more ++ intervals_from count n (drop (k + 1) extents)) next ∙
      ap (λ (xs : List LiveInterval). xs ++ rest) e ∙
      append_assoc made (intervals_from count (k + 32) (o ∷ [])) rest ∙
      ap (λ (xs : List LiveInterval). made ++ xs) (sym (one_of (k + 32) o (drop (k + 1) extents))) ∙
      ap (λ (os : List (Option Extent)). made ++ intervals_from count (k + 32) os) (sym (drop_at extents k o lt at)) ∙ so_far

  pub pushed_all : (extents : List (Option Extent)) (k : ℕ) (made : List LiveInterval) → length extents ≤ k →
      made ++ intervals_from count (k + 32) (drop k extents) ≡ intervals_from count 32 extents → made ≡ intervals_from count 32 extents
  pushed_all extents k made le e =
      nothing_behind made ∙ ap (λ (os : List (Option Extent)). made ++ intervals_from count (k + 32) os) (sym (past extents k le)) ∙ e where
        nothing_behind : (xs : List LiveInterval) → xs ≡ xs ++ []
        nothing_behind [] = refl
        nothing_behind (x ∷ xs) = ap (λ (r : List LiveInterval). x ∷ r) (nothing_behind xs)

        past : (os : List (Option Extent)) (n : ℕ) → length os ≤ n → drop n os ≡ []
        past [] zero le = refl
        past [] (suc n) le = refl
        past (o ∷ os) zero le = absurd (omega (arith, le))
        past (o ∷ os) (suc n) le = past os n (omega (arith, le))
