-- The intervals of a function by the extents of its registers, in order.
use Rattle.std.proofs.Common.{◌≡◌, ◌⊎◌, inl, inr, ◌↔◌, ℕ, zero, suc, ◌+◌, ◌*◌, ◌-◌, ◌<◌, ◌≤◌, List, [], ◌∷◌, length, slice_index_or, Option, Some, None}
use Rattle.std.proofs.Common.{Bool, false, cond, AllPairs, Contains, refl, sym, ap, ◌∙◌, subst, arith}
use Rattle.std.specs.List.{sum_by}
use Rattle.std.specs.List.Sorted.{IsPermutation, IsNonDecreasingBy}
use Rattle.std.specs.Option.{option_map}
use Rattle.std.proofs.lemmas.Bool.{cases_lt}
use Rattle.std.proofs.lemmas.List.Sorted.{IsPermutation-sym, Contains-permutation, All-permutation, sum_by-IsPermutation}
use Rattle.scan_intervals.specs.declared.interval.LiveInterval.{LiveInterval}
use Rattle.scan_intervals.specs.Points.{CodePoint}
use Rattle.scan_intervals.specs.Intervals.{touches, first_index, last_index, IsIntervalIn, IsBefore, AreIntervals}
use Rattle.scan_liveness.specs.declared.extents.Extent.{Extent}
use Rattle.scan_liveness.specs.Extents.{extent_in, interval_of, intervals_from}
use Rattle.scan_liveness.proofs.Counted.{Fits, fits, one, member_of, of_member, once, twice}

-- an interval's rank in the order of allocation
abbrev pub rank : LiveInterval → ℕ
rank i = i.start * 4128 + i.register

before_by : (i j : LiveInterval) → rank i ≤ rank j → i.register < 4128 → j.register < 4128 → (i.register ≡ j.register → ⊥) → IsBefore i j
before_by i j le a b ne = elim (cases_lt i.start j.start) as (λ _. IsBefore i j) [
  | inl lt ↦ inl lt
  | inr ge ↦ elim (cases_lt j.start i.start) as (λ _. IsBefore i j) [
    | inl gt ↦ absurd (omega (arith, le, gt, b))
    | inr same ↦
        let e : i.start ≡ j.start = omega (arith, ge, same) in
        inr (e, least (omega (arith, le, e)))
  ]
] where
  least : i.register ≤ j.register → i.register < j.register
  least at_most = elim (cases_lt i.register j.register) as (λ _. i.register < j.register) [
    | inl lt ↦ lt
    | inr ge ↦ absurd (ne (omega (arith, at_most, ge)))
  ]

module _ (points : List CodePoint) (extents : List (Option Extent))
    (wide : (k : ℕ) → k < length extents → slice_index_or extents k None ≡ extent_in (touches (k + 32)) points)
    (all : (r : ℕ) → length extents + 32 ≤ r → (p : CodePoint) → Contains points p → touches r p ≡ false)
    (few : length extents ≤ 4096) where
  abbrev made : List LiveInterval
  made = intervals_from (length points) 32 extents

  below : (i : LiveInterval) → Contains made i → i.register < 4128
  below i c =
      let w = member_of (length points) 32 extents i c in
      let is : i.register ≡ 32 + w.index = ap (λ (x : LiveInterval). x.register) w.is in
      let less = w.inside in
      omega (arith, is, less, few)

  to_interval : (i : LiveInterval) → Contains made i → (32 ≤ i.register) × IsIntervalIn points i
  to_interval i c =
      let w = member_of (length points) 32 extents i c in
      let is : i.register ≡ 32 + w.index = ap (λ (x : LiveInterval). x.register) w.is in
      let turned : 32 + w.index ≡ w.index + 32 = omega arith in
      let extent : extent_in (touches (w.index + 32)) points ≡ Some w.extent = sym (wide w.index w.inside) ∙ w.at in
      let f = subst (Fits (touches (w.index + 32)) points) extent (fits (touches (w.index + 32)) points) in (
        omega (arith, is),
        subst (IsIntervalIn points) (sym w.is) (record {
          start = ap (λ (q : ℕ). first_index (touches q) points) turned ∙ f.2;
          end = ap (λ (q : ℕ). last_index (touches q) points) turned ∙ f.3;
        }),
      )

  none_first : (r : ℕ) (ps : List CodePoint) → ((p : CodePoint) → Contains ps p → touches r p ≡ false) → first_index (touches r) ps ≡ None
  none_first r [] none = refl
  none_first r (p ∷ ps) none =
      let here = none p (0, omega arith, refl) in
      let rest = none_first r ps (λ q c. none q (suc c.0, (let lt = c.1 in omega (arith, lt)), c.2)) in
      λ t. cond (here t) (Some 0) (option_map suc (rest t))

  -- a register's interval is that of its extent
  of_extent : (i : LiveInterval) (k : ℕ) → k + 32 ≡ i.register → k < length extents → IsIntervalIn points i → Contains made i
  of_extent i k e lt is = by_extent (extent_in (touches (k + 32)) points) refl (fits (touches (k + 32)) points) where
    starts : first_index (touches (k + 32)) points ≡ Some i.start
    starts = ap (λ (q : ℕ). first_index (touches q) points) e ∙ is.start

    ends : last_index (touches (k + 32)) points ≡ Some i.end
    ends = ap (λ (q : ℕ). last_index (touches q) points) e ∙ is.end

    by_extent : (o : Option Extent) → extent_in (touches (k + 32)) points ≡ o → Fits (touches (k + 32)) points o → Contains made i
    by_extent None h f = let bad : None ≡ Some i.start = sym f.0 ∙ starts in cc
    by_extent (Some x) h f =
        let first : Some (length points - suc x.first) ≡ Some i.start = sym f.2 ∙ starts in
        let last : Some (length points - suc x.last) ≡ Some i.end = sym f.3 ∙ ends in
        let start : length points - suc x.first ≡ i.start = cc in
        let end : length points - suc x.last ≡ i.end = cc in
        let turned : 32 + k ≡ i.register = omega (arith, e) in
        subst (Contains made) (λ t. record { register = turned t; start = start t; end = end t })
        (of_member (length points) 32 extents k x lt (wide k lt ∙ h))

  of_interval : (i : LiveInterval) → 32 ≤ i.register → IsIntervalIn points i → Contains made i
  of_interval i low is = elim (cases_lt i.register (length extents + 32)) as (λ _. Contains made i) [
    | inl lt ↦
        let e : i.register - 32 + 32 ≡ i.register = omega (arith, low) in
        of_extent i (i.register - 32) e (omega (arith, lt, low)) is
    | inr ge ↦
        let bad : None ≡ Some i.start = sym (none_first i.register points (λ p c. all i.register ge p c)) ∙ is.start in
        cc
  ]

  module _ (intervals : List LiveInterval) (same : IsPermutation made intervals) (up : IsNonDecreasingBy rank intervals) where
    small : (k : ℕ) (d : LiveInterval) → k < length intervals → (slice_index_or intervals k d).register < 4128
    small k d lt =
        All-permutation (λ (i : LiveInterval). i.register < 4128) made intervals same
        (λ j e inside. below (slice_index_or made j e) (j, inside, any made j e inside))
        k d lt where
          any : (xs : List LiveInterval) (j : ℕ) (e : LiveInterval) → j < length xs → slice_index_or xs j (slice_index_or xs j e) ≡ slice_index_or xs j e
          any [] j e inside = absurd (omega (arith, inside))
          any (x ∷ xs) zero e inside = refl
          any (x ∷ xs) (suc j) e inside = any xs j e (omega (arith, inside))

    apart : (i j : ℕ) (d : LiveInterval) → i < j → j < length intervals →
        (slice_index_or intervals i d).register ≡ (slice_index_or intervals j d).register → ⊥
    apart i j d lt inside e =
        let r = (slice_index_or intervals j d).register in
        let two = twice (length points) r intervals i j d lt inside e refl in
        let sum = sum_by-IsPermutation (one (length points) r) made intervals same in
        let at_most = once (length points) r 32 extents in
        omega (arith, two, sum, at_most)

    pub are_intervals : AreIntervals points intervals
    are_intervals = record {
      ordered = λ i j d lt inside.
          before_by (slice_index_or intervals i d) (slice_index_or intervals j d) (up i j d (omega (arith, lt)) inside) (small i d (omega (arith, lt, inside)))
          (small j d inside) (apart i j d lt inside);
      each = λ i. (
        λ c. to_interval i (Contains-permutation intervals made i (IsPermutation-sym made intervals same) c),
        λ h. Contains-permutation made intervals i same (of_interval i h.0 h.1),
      );
    }
