-- An allocation by the liveness of a function.
use Rattle.std.proofs.Common.{◌≡◌, ℕ, ◌<◌, ◌≤◌, List, [], ◌∷◌, Option, None, Bool, refl, sym, ap, ◌∙◌, subst}
use Rattle.std.specs.Prelude.{All, Contains}
use Rattle.std.proofs.lemmas.List.Elements.{All-nil, All-cons, All-head, All-tail, All-weaker, All-contains_itself}
use Rattle.mir_func.specs.Function.{Function}
use Rattle.scan_liveness.specs.pass_trait.Causes.{scratch_of}
use Rattle.scan_liveness.specs.scan_intervals.declared.interval.LiveInterval.{LiveInterval}
use Rattle.scan_liveness.specs.scan_intervals.Blocked.{AreBlocked}
use Rattle.scan_liveness.specs.scan_intervals.Intervals.{is_clear}
use Rattle.scan_liveness.specs.scan_intervals.Liveness.{at_starts}
use Rattle.scan_liveness.specs.scan_intervals.Points.{CodePoint, points_of}
use Rattle.scan_liveness.specs.scan_allocation.declared.assignment.RegisterAssignment.{RegisterAssignment}
use Rattle.scan_liveness.specs.scan_allocation.Allocation.{IsAllocation, stays, given_unless, assignments_of}
use Rattle.scan_liveness.specs.scan_allocation.Walk.{order_without, walk, assignment_of, free_after}
use Rattle.scan_liveness.specs.Liveness.{IsLiveness}
use Rattle.scan_choice.specs.Given.{given_by}

abbrev IsVirtual : RegisterAssignment → Type 0
IsVirtual a = 32 ≤ a.register

walked_virtual : (clear : LiveInterval → ℕ → Bool) (order : List ℕ) (free : ℕ → ℕ) (is : List LiveInterval) → All (λ i. 32 ≤ i.register) is →
    All IsVirtual (walk clear order free is)
walked_virtual clear order free [] low = All-nil IsVirtual
walked_virtual clear order free (i ∷ is) low =
    let next : ℕ → ℕ = free_after free i (assignment_of clear order free i).given in
    All-cons IsVirtual (assignment_of clear order free i) (walk clear order next is)
    (All-head (λ (x : LiveInterval). 32 ≤ x.register) i is low)
    (walked_virtual clear order next is (All-tail (λ (x : LiveInterval). 32 ≤ x.register) i is low))

module _ (reserve : List ℕ) (f : Function) (intervals : List LiveInterval) (masks : List ℕ) (known : IsLiveness f intervals masks)
    (order : List ℕ) (ordered : order ≡ order_without reserve (scratch_of f)) (assignments : List RegisterAssignment)
    (walked : (points : List CodePoint) → AreBlocked points masks → assignments ≡ walk (is_clear points) order (λ r. 0) intervals) where
  abbrev points : List CodePoint
  points = points_of (at_starts known.live) f.blocks

  are_assigned : assignments ≡ assignments_of reserve points intervals f
  are_assigned =
      walked points known.blocked ∙ ap (λ (rs : List ℕ). walk (is_clear points) rs (λ r. 0) intervals) ordered

  pub all_virtual : All IsVirtual assignments
  all_virtual =
      subst (All IsVirtual) (sym (walked points known.blocked))
      (walked_virtual (is_clear points) order (λ r. 0) intervals
      (All-weaker (Contains intervals) (λ i. 32 ≤ i.register) (λ i c. ((known.are.each i).0 c).0) intervals (All-contains_itself intervals)))

  pub chosen : (given : List (Option ℕ)) (remains : Bool) → remains ≡ stays f assignments →
      ((r : ℕ) → given_by given r ≡ given_unless remains assignments r) → IsAllocation reserve f (given_by given)
  chosen given remains is table = record {
    live = known.live;
    decides = known.decides;
    intervals = intervals;
    are = known.are;
    is = λ t r. by_all r t;
  } where
    by_all : (r : ℕ) → given_by given r ≡ given_unless (stays f (assignments_of reserve points intervals f)) (assignments_of reserve points intervals f) r
    by_all r =
        table r ∙ ap (λ (z : Bool). given_unless z assignments r) is ∙
        ap (λ (xs : List RegisterAssignment). given_unless (stays f xs) xs r) are_assigned
