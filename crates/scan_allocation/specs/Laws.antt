-- The laws of the allocation.
use Rattle.std.specs.Prelude.{◌≡◌, ℕ, List, Contains, Option, Some, false}
use Rattle.mir_func.specs.declared.debug_substitution.OperandPair.{OperandPair}
use Rattle.mir_func.specs.Function.{Function}
use Rattle.mir_func.specs.Graph.{program_of}
use Rattle.mir_func.specs.Sound.{AllItems, HasForm}
use Rattle.scan_intervals.specs.declared.interval.LiveInterval.{LiveInterval}
use Rattle.scan_intervals.specs.Points.{CodePoint}
use Rattle.scan_intervals.specs.Intervals.{AreIntervals, Meet, is_clear}
use Rattle.scan_allocation.specs.Walk.{walk, given_to}
use Rattle.scan_allocation.specs.Allocation.{IsAllocation}
use Rattle.scan_allocation.specs.Coloring.{IsColoring}

-- two registers whose intervals meet never get the same physical register
abbrev pub IntervalsThatMeetAreApart : Type 0
IntervalsThatMeetAreApart = (points : List CodePoint) (order : List ℕ) (free : ℕ → ℕ) (intervals : List LiveInterval) → AreIntervals points intervals →
    (i j : LiveInterval) (q : ℕ) → Contains intervals i → Contains intervals j → (i.register ≡ j.register → ⊥) → Meet i j →
    given_to (walk (is_clear points) order free intervals) i.register ≡ Some q → given_to (walk (is_clear points) order free intervals) j.register ≡ Some q → ⊥

-- the allocation of a function whose code has the required forms is a coloring
abbrev pub AllocationIsColoring : Type 0
AllocationIsColoring = (reserve : List ℕ) (f : Function) (given : ℕ → Option ℕ) (resolve : OperandPair → Option OperandPair) →
    AllItems (λ i. HasForm i.kind) f.blocks → IsAllocation reserve f given → IsColoring (program_of false f.blocks resolve) given
