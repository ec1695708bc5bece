-- The walk over live intervals.
use Rattle.std.specs.Prelude.{ℕ, suc, List, [], ◌∷◌, filter, Option, Some, None, Bool, not, cond, ◌&&◌, nat_eq, nat_le}
use Rattle.spill_select.specs.Incoming.{is_among}
use Rattle.scan_intervals.specs.declared.interval.LiveInterval.{LiveInterval}
use Rattle.scan_allocation.specs.declared.assignment.RegisterAssignment.{RegisterAssignment}

-- the allocation order: caller-saved registers first, results and arguments later, then callee-saved ones (LLVM: allocation order). x0 to x4 are
-- never given, and the lowest temporaries are left to be scratch registers
abbrev pub ORDER : List ℕ
ORDER = 7 ∷ 28 ∷ 29 ∷ 30 ∷ 31 ∷ 11 ∷ 12 ∷ 13 ∷ 14 ∷ 15 ∷ 16 ∷ 17 ∷ 10 ∷ 9 ∷ 18 ∷ 19 ∷ 20 ∷ 21 ∷ 22 ∷ 23 ∷ 24 ∷ 25 ∷ 26 ∷ 27 ∷ 8 ∷ []

-- the allocation order without the reserve and the scratch registers
abbrev pub order_without : (reserve scratch : List ℕ) → List ℕ
order_without reserve scratch = filter (λ r. not (is_among reserve r) && not (is_among scratch r)) ORDER

-- the first number that passes a test
abbrev pub find_in : (ℕ → Bool) → List ℕ → Option ℕ
find_in test [] = None
find_in test (r ∷ rs) = cond (test r) (Some r) (find_in test rs)

-- a physical register may be given to an interval: it is free again at the interval's start, and is blocked nowhere in the interval. `free r` is the
-- first code number at which no earlier interval holds r
abbrev pub is_open : (clear : LiveInterval → ℕ → Bool) → (free : ℕ → ℕ) → LiveInterval → ℕ → Bool
is_open clear free i r = nat_le (free r) i.start && clear i r

-- from which code numbers on physical registers are free, after an interval got one, or none
abbrev pub free_after : (free : ℕ → ℕ) → LiveInterval → Option ℕ → ℕ → ℕ
free_after free i None r = free r
free_after free i (Some given) r = cond (nat_eq r given) (suc i.end) (free r)

-- what an interval's register gets: the first physical register of the order that may be given to the interval
abbrev pub assignment_of : (clear : LiveInterval → ℕ → Bool) → (order : List ℕ) → (free : ℕ → ℕ) → LiveInterval → RegisterAssignment
assignment_of clear order free i = record { register = i.register; given = find_in (is_open clear free i) order }

-- what each interval's register gets, in their order
abbrev pub walk : (clear : LiveInterval → ℕ → Bool) → (order : List ℕ) → (free : ℕ → ℕ) → List LiveInterval → List RegisterAssignment
walk clear order free [] = []
walk clear order free (i ∷ is) =
    assignment_of clear order free i ∷ walk clear order (free_after free i (assignment_of clear order free i).given) is

-- the physical register that a register gets, by the first entry for it
abbrev pub given_to : List RegisterAssignment → ℕ → Option ℕ
given_to [] r = None
given_to (x ∷ xs) r = cond (nat_eq x.register r) x.given (given_to xs r)
