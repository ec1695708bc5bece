-- The tracked entities at the function's start.
use Rattle.std.specs.Prelude.{ℕ, suc, Bool, true, false, cond}
use Rattle.value_solver.specs.declared.tracked.Tracked.{Tracked}
use Rattle.value_solver.specs.declared.tracked.Tracked.TheVariants.{Register, Slot, Pair, Part, Number}

-- the entity starts with a token: each register and each constant does
abbrev pub starts_with : Tracked → Bool
starts_with (Register r) = true
starts_with (Slot n) = false
starts_with (Pair q) = false
starts_with (Part v) = false
starts_with (Number c) = true

-- the class of the entity at an index: its index plus 1 if it starts with a token, and 0 otherwise
abbrev pub own_class : Bool → (i : ℕ) → ℕ
own_class some i = cond some (suc i) 0
