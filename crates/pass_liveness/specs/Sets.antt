-- Sets of places, as bit vectors of 64-bit words.
use Rattle.std.specs.Prelude.{◌≡◌, ℕ, ◌+◌, ◌-◌, ◌/◌, ◌%◌, ◌≤◌, List, length, slice_index, Bool, false, nat_eq, Option, Some, None}
use Rattle.std.specs.List.{sum_by}
use Rattle.std.specs.Int.{bit_at}
use Rattle.rv64_instr.specs.declared.place.Place.{Place}
use Rattle.rv64_instr.specs.declared.place.Place.TheVariants.{Register, Slot, Const}
use Rattle.rv64_instr.specs.LocationEffects.{is_register}
use Rattle.pass_liveness.specs.Index.{index_in}

-- the number of words of a set: bits for 256 slots and 4,128 registers
abbrev pub WORDS : ℕ
WORDS = 69

-- the list of words has the length of a set
abbrev pub AreWords : List ℕ → Type 0
AreWords words = length words ≡ 69

-- the words of a set: those from the index `used` on are 0
pub record IsSet (words : List ℕ) (used : ℕ) : Type 0 where
  pub long : AreWords words
  pub within : used ≤ 69
  pub zeros : (k : ℕ) → used ≤ k → slice_index words k ≡ 0

-- a measure of the bits that aren't set: it falls as bits are set
abbrev pub gap : List ℕ → ℕ
gap words = sum_by (λ w. 18446744073709551616 - w) words

-- the bit of a place: the function's slots are first, in declared order, and then all registers
abbrev pub bit_of : (slots : List ℕ) → Place → Option ℕ
bit_of slots (Register r) = Some (256 + r)
bit_of slots (Slot n) = index_in slots n
bit_of slots (Const c) = None

-- bit i is set, counted from the lowest bit of the first word
abbrev pub has_bit : (words : List ℕ) → (i : ℕ) → Bool
has_bit words i = nat_eq (bit_at (slice_index words (i / 64)) (i % 64)) 1

-- the place has a bit, and it is set
abbrev pub has_at : (words : List ℕ) → Option ℕ → Bool
has_at words None = false
has_at words (Some i) = has_bit words i

-- the place is in the set
unfoldable pub has : (slots words : List ℕ) → Place → Bool
has slots words x = has_at words (bit_of slots x)

-- the optional place is this slot
abbrev pub is_slot : ℕ → Option Place → Bool
is_slot n (Some (Slot m)) = nat_eq m n
is_slot n _ = false

-- the optional place is this register or slot; a constant is in no set
abbrev pub is_place : Place → Option Place → Bool
is_place (Register r) p = is_register r p
is_place (Slot n) p = is_slot n p
is_place (Const c) p = false
