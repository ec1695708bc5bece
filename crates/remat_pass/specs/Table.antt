-- The known constants as two hash maps.
use Rattle.std.specs.Prelude.{ℕ, List, Bool, false, nat_eq, Option, None}
use Rattle.std.specs.List.{list_any}
use Rattle.std.specs.HashMap.{HashMap, get}
use Rattle.std.specs.declared.hash.FoldHasher.{FoldHasher}
use Rattle.std.specs.declared.hash.BuildHasherDefault.{BuildHasherDefault}
use Rattle.rv64_instr.specs.declared.place.Place.{Place}
use Rattle.rv64_instr.specs.declared.place.Place.TheVariants.{Register, Slot, Const}

-- a hash map from numbers to numbers
abbrev pub Table : Type 0
Table = HashMap ℕ ℕ (BuildHasherDefault FoldHasher)

-- the known constants by maps of registers and of slots
abbrev pub known_by : (registers slots : Table) → Place → Option ℕ
known_by registers slots (Register r) = get nat_eq registers r
known_by registers slots (Slot n) = get nat_eq slots n
known_by registers slots (Const c) = None

-- the place is one of these registers
abbrev pub is_among : Place → List ℕ → Bool
is_among (Register r) numbers = list_any (nat_eq r) numbers
is_among (Slot n) numbers = false
is_among (Const c) numbers = false
