-- The first location of a class, looked up in tables.
use Rattle.std.specs.Prelude.{ℕ, ◌-◌, ◌*◌, ℤ, List, Option, Some, None, cond, nat_eq, nat_lt, slice_index_or}
use Rattle.rv64_instr.specs.declared.place.Place.{Place}
use Rattle.rv64_instr.specs.declared.place.Place.TheVariants.{Register, Slot, Const}
use Rattle.value_tracker.specs.LocationTracker.{SLOTS_FROM}

-- the location with this index: a register, or a doubleword of the frame by its offset in bytes
abbrev pub place_at : ℕ → Place
place_at i = cond (nat_lt i SLOTS_FROM) (Register i) (Slot (8 * (i - SLOTS_FROM)))

-- the location with this index, or None
abbrev pub place_by : Option ℕ → Option Place
place_by None = None
place_by (Some i) = Some (place_at i)

-- a constant takes precedence over a location
abbrev pub constant_or : Option ℤ → Option Place → Option Place
constant_or (Some c) p = Some (Const c)
constant_or None p = p

-- the first location of a class: None for class 0, the class's constant, or else the location at its first index
abbrev pub place_of : (firsts : List (Option ℕ)) → (constants : List (Option ℤ)) → ℕ → Option Place
place_of firsts constants c = cond (nat_eq c 0) None (constant_or (slice_index_or constants c None) (place_by (slice_index_or firsts c None)))
