-- The loop of the walk.
use Rattle.std.proofs.Common.{◌≡◌, ℕ, ◌+◌, ◌<◌, ◌≤◌, List, [], ◌∷◌, ◌++◌, All, Contains, length, drop, get_or, replicate, Bool, refl, sym, ap, ◌∙◌, append-nil}
use Rattle.std.proofs.lemmas.List.{append_assoc, get_or-replicate, drop_more, drop_all}
use Rattle.std.proofs.lemmas.List.Elements.{All-contains}
use Rattle.scan_intervals.specs.declared.interval.LiveInterval.{LiveInterval}
use Rattle.scan_intervals.specs.Points.{CodePoint}
use Rattle.scan_intervals.specs.Intervals.{is_clear}
use Rattle.scan_intervals.specs.Blocked.{AreBlocked, is_unmasked}
use Rattle.scan_intervals.proofs.Masks.{unmasked_is_clear}
use Rattle.scan_allocation.specs.declared.assignment.RegisterAssignment.{RegisterAssignment}
use Rattle.scan_allocation.specs.Walk.{free_after, assignment_of, walk}
use Rattle.scan_allocation.specs.Free.{free_by}
use Rattle.scan_allocation.proofs.Alike.{walk_same}

drop_none : {X : Type 0} (xs : List X) → drop 0 xs ≡ xs
drop_none [] = refl
drop_none (x ∷ xs) = refl

module _ (masks order : List ℕ) (physical : All (λ r. r < 32) order) where
  small : (r : ℕ) → Contains order r → r < 32
  small r c = All-contains (λ q. q < 32) order r physical c

  abbrev clear : LiveInterval → ℕ → Bool
  clear = is_unmasked masks

  -- at first all registers are free
  pub loop_begins : (done : List RegisterAssignment) (intervals : List LiveInterval) → done ≡ [] →
      done ++ walk clear order (free_by (replicate 32 0)) (drop 0 intervals) ≡ walk clear order (λ r. 0) intervals
  loop_begins done intervals none =
      (λ t. none t ++ walk clear order (free_by (replicate 32 0)) (drop_none intervals t)) ∙
      walk_same order small clear clear (λ i r lt. refl) (free_by (replicate 32 0)) (λ r. 0) intervals (λ r lt. get_or-replicate 32 r 0 0 lt)

  -- what the next interval gets, and then the rest
  walk_goes_on : (done : List RegisterAssignment) (i : LiveInterval) (is : List LiveInterval) (free after : List ℕ) →
      ((r : ℕ) → r < 32 → free_by after r ≡ free_after (free_by free) i (assignment_of clear order (free_by free) i).given r) →
      (done ++ assignment_of clear order (free_by free) i ∷ []) ++ walk clear order (free_by after) is ≡ done ++ walk clear order (free_by free) (i ∷ is)
  walk_goes_on done i is free after held =
      let x : RegisterAssignment = assignment_of clear order (free_by free) i in
      let rest : walk clear order (free_by after) is ≡ walk clear order (free_after (free_by free) i x.given) is =
      walk_same order small clear clear (λ j r lt. refl) (free_by after) (free_after (free_by free) i x.given) is held in
      append_assoc done (x ∷ []) (walk clear order (free_by after) is) ∙ ap (λ (xs : List RegisterAssignment). done ++ x ∷ xs) rest

  pub loop_goes_on : (done more : List RegisterAssignment) (intervals : List LiveInterval) (n : ℕ) (i : LiveInterval) (free after : List ℕ)
      (whole : List RegisterAssignment) → n < length intervals → i ≡ get_or intervals n i →
      more ≡ done ++ assignment_of clear order (free_by free) i ∷ [] →
      ((r : ℕ) → r < 32 → free_by after r ≡ free_after (free_by free) i (assignment_of clear order (free_by free) i).given r) →
      done ++ walk clear order (free_by free) (drop n intervals) ≡ whole →
      more ++ walk clear order (free_by after) (drop (n + 1) intervals) ≡ whole
  loop_goes_on done more intervals n i free after whole lt is pushed held before =
      let rest : drop n intervals ≡ i ∷ drop (n + 1) intervals =
      drop_more intervals n i lt ∙ ap (λ (j : LiveInterval). j ∷ drop (n + 1) intervals) (sym is) in
      ap (λ (xs : List RegisterAssignment). xs ++ walk clear order (free_by after) (drop (n + 1) intervals)) pushed ∙
      walk_goes_on done i (drop (n + 1) intervals) free after held ∙
      ap (λ (js : List LiveInterval). done ++ walk clear order (free_by free) js) (sym rest) ∙ before

  pub loop_ends : (done : List RegisterAssignment) (free : List ℕ) (intervals : List LiveInterval) (n : ℕ) → length intervals ≤ n →
      done ++ walk clear order (free_by free) (drop n intervals) ≡ walk clear order (λ r. 0) intervals → done ≡ walk clear order (λ r. 0) intervals
  loop_ends done free intervals n le whole =
      sym (append-nil done) ∙
      ap (λ (js : List LiveInterval). done ++ walk clear order (free_by free) js) (sym (drop_all n intervals le)) ∙ whole

  -- where the masks are those of points, it is the walk over these
  pub walk_ends : (points : List CodePoint) (intervals : List LiveInterval) → AreBlocked points masks →
      walk clear order (λ r. 0) intervals ≡ walk (is_clear points) order (λ r. 0) intervals
  walk_ends points intervals are =
      walk_same order small clear (is_clear points) (λ i r lt. unmasked_is_clear points masks i r lt are) (λ r. 0) (λ r. 0) intervals (λ r lt. refl)
