-- Live intervals, and where a physical register is blocked.
use Rattle.std.specs.Prelude.{◌≡◌, ◌⊎◌, ◌↔◌, ℕ, suc, ◌-◌, ◌<◌, ◌≤◌, List, [], ◌∷◌, take, drop, AllPairs, Contains, Option, Some, None, option_map}
use Rattle.std.specs.Prelude.{Bool, not, cond, ◌||◌}
use Rattle.std.specs.List.{list_any}
use Rattle.rv64_instr.specs.declared.place.Place.TheVariants.{Register}
use Rattle.rv64_instr.specs.Row.{row_of}
use Rattle.rv64_instr.specs.LocationEffects.{defines_of}
use Rattle.mir_func.specs.declared.item.ItemKind.TheVariants.{Code}
use Rattle.pass_trait.specs.Causes.{names}
use Rattle.scan_intervals.specs.declared.interval.LiveInterval.{LiveInterval}
use Rattle.scan_intervals.specs.Points.{CodePoint}

-- the code names the register, or the register is live right before or right after it
abbrev pub touches : ℕ → CodePoint → Bool
touches r p = names r (Code p.code None) || (p.before r || p.after r)

-- the code names or sets the register, or the register is live right after it: so no other register's value can be in it there
abbrev pub is_blocked : ℕ → CodePoint → Bool
is_blocked r p = names r (Code p.code None) || (defines_of (row_of p.code) (Register r) || p.after r)

-- the index of the first point that passes a test
abbrev pub first_index : (CodePoint → Bool) → List CodePoint → Option ℕ
first_index test [] = None
first_index test (p ∷ ps) = cond (test p) (Some 0) (option_map suc (first_index test ps))

-- the index behind another, or 0 if there is none and the first point passes
abbrev pub or_first : (passes : Bool) → Option ℕ → Option ℕ
or_first passes (Some n) = Some (suc n)
or_first passes None = cond passes (Some 0) None

-- the index of the last point that passes a test
abbrev pub last_index : (CodePoint → Bool) → List CodePoint → Option ℕ
last_index test [] = None
last_index test (p ∷ ps) = or_first (test p) (last_index test ps)

-- the interval is that of its register: from the first point that it touches to the last one
pub record IsIntervalIn (points : List CodePoint) (i : LiveInterval) : Type 0 where
  pub start : first_index (touches i.register) points ≡ Some i.start
  pub end : last_index (touches i.register) points ≡ Some i.end

-- the order in which registers are allocated: by the starts of their intervals, then by their numbers
abbrev pub IsBefore : LiveInterval → LiveInterval → Type 0
IsBefore i j = (i.start < j.start) ⊎ ((i.start ≡ j.start) × (i.register < j.register))

-- the list has the intervals of all virtual registers of these points, in order
pub record AreIntervals (points : List CodePoint) (intervals : List LiveInterval) : Type 0 where
  pub ordered : AllPairs IsBefore intervals
  pub each : (i : LiveInterval) → Contains intervals i ↔ ((32 ≤ i.register) × IsIntervalIn points i)

-- two intervals meet: they have a code number in common
abbrev pub Meet : LiveInterval → LiveInterval → Type 0
Meet i j = (i.start ≤ j.end) × (j.start ≤ i.end)

-- the points of an interval
abbrev pub points_within : LiveInterval → List CodePoint → List CodePoint
points_within i points = take (suc i.end - i.start) (drop i.start points)

-- the physical register is blocked nowhere in the interval
abbrev pub is_clear : List CodePoint → LiveInterval → ℕ → Bool
is_clear points i r = not (list_any (is_blocked r) (points_within i points))
