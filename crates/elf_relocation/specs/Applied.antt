-- The bytes of a section with its relocations applied (System V gABI, chapter 4, "Relocation").
use Rattle.std.specs.Prelude.{◌≡◌, ℕ, zero, ◌+◌, ◌-◌, ◌<◌, ◌≤◌, ◌⊎◌, Bool, true, IsTrue, List, [], ◌∷◌, ◌++◌, length, take, drop, slice_index, slice_get, All}
use Rattle.std.specs.Prelude.{Option, Some, None, IsSome}
use Rattle.elf_object.specs.declared.relocations.Relocation.{Relocation}
use Rattle.elf_relocation.specs.declared.kind.RelocationKind.{RelocationKind}
use Rattle.elf_relocation.specs.Kinds.{kind_of}
use Rattle.elf_relocation.specs.Fields.{field_size, value_of, is_in_range, filled}

-- ---- the field of a relocation

-- bytes with others in place of those from an offset on
abbrev pub patched : (at : ℕ) (part bytes : List ℕ) → List ℕ
patched at part bytes = (take at bytes ++ part) ++ drop (at + length part) bytes

-- the bytes at an offset that a relocation of a kind changes
abbrev pub field_at : RelocationKind → (at : ℕ) → List ℕ → List ℕ
field_at k at bytes = take (field_size k) (drop at bytes)

-- bytes with the field at an offset filled
abbrev pub filled_at : RelocationKind → (value at : ℕ) → List ℕ → List ℕ
filled_at k v at bytes = patched at (filled k v (field_at k at bytes)) bytes

-- the same for a kind that is none of these, of which nothing is known: it changes no byte
abbrev pub size_by : Option RelocationKind → ℕ
size_by None = zero
size_by (Some k) = field_size k

abbrev pub filled_by : Option RelocationKind → (symbol addend place at : ℕ) → List ℕ → List ℕ
filled_by None s a p at bytes = bytes
filled_by (Some k) s a p at bytes = filled_at k (value_of k s a p) at bytes

abbrev pub in_range_by : Option RelocationKind → (symbol addend place : ℕ) → Bool
in_range_by None s a p = true
in_range_by (Some k) s a p = is_in_range k (value_of k s a p)

-- ---- a relocation of a section that lies at an address

-- the bytes of its field
abbrev pub size_of : Relocation → ℕ
size_of r = size_by (kind_of r.relocation_type)

-- the address of its symbol. Symbols count from 1
abbrev pub target_of : (addresses : List ℕ) → Relocation → ℕ
target_of addresses r = slice_index addresses (r.symbol - 1)

-- the bytes after it
abbrev pub one_applied : (base : ℕ) (addresses : List ℕ) → Relocation → List ℕ → List ℕ
one_applied base addresses r bytes =
    filled_by (kind_of r.relocation_type) (target_of addresses r) r.addend (base + r.offset) r.offset bytes

-- its field can have its value
abbrev pub IsInRange : (base : ℕ) (addresses : List ℕ) → Relocation → Type 0
IsInRange base addresses r = IsTrue (in_range_by (kind_of r.relocation_type) (target_of addresses r) r.addend (base + r.offset))

-- ---- all of them

-- the bytes after relocations, one after the other
abbrev pub applied : (base : ℕ) (addresses : List ℕ) → List Relocation → List ℕ → List ℕ
applied base addresses [] bytes = bytes
applied base addresses (r ∷ rest) bytes = applied base addresses rest (one_applied base addresses r bytes)

-- a relocation of one of these kinds, whose symbol is one of so many, and whose field is within so many bytes
pub record IsApplicable (size symbols : ℕ) (r : Relocation) : Type 0 where
  pub kind : IsSome (kind_of r.relocation_type)
  pub some : 0 < r.symbol
  pub symbol : r.symbol ≤ symbols
  pub within : r.offset + size_of r ≤ size

-- the relocation of this index is the first whose field can't have its value
pub record IsFirstOutOfRange (relocations : List Relocation) (base : ℕ) (addresses : List ℕ) (index : ℕ) : Type 0 where
  pub here : (r : Relocation) × (slice_get relocations index ≡ Some r) × (IsInRange base addresses r → ⊥)
  pub before : All (IsInRange base addresses) (take index relocations)

-- ---- fields that share no byte

-- the fields of two relocations share no byte
abbrev pub IsApart : Relocation → Relocation → Type 0
IsApart r q = (r.offset + size_of r ≤ q.offset) ⊎ (q.offset + size_of q ≤ r.offset)

-- each is apart from those after it
abbrev pub AreApart : List Relocation → Type 0
AreApart [] = Unit {0}
AreApart (r ∷ rest) = All (IsApart r) rest × AreApart rest

-- a byte is outside of a relocation's field
abbrev pub IsOutside : (k : ℕ) → Relocation → Type 0
IsOutside k r = (k < r.offset) ⊎ (r.offset + size_of r ≤ k)

-- the bytes of a relocation's field
abbrev pub field_of : Relocation → List ℕ → List ℕ
field_of r bytes = take (size_of r) (drop r.offset bytes)
