-- The first fault in a section's bytes: the fields in the order in which a reader checks them, each with its allowed bytes.
use Rattle.std.specs.Prelude.{◌≡◌, ◌≢◌, ℕ, ◌+◌, ◌*◌, ◌^◌, ◌<◌, ◌≤◌, ◌⊎◌, List, [], ◌∷◌, ◌++◌, length, All, nat_lt, if◌then◌else◌}
use Rattle.std.specs.List.{flat_map}
use Rattle.std.specs.Int.{w16, w32, to_le_bytes}
use Rattle.std.specs.Prelude.{drop}
use Rattle.dwarf_base.specs.Leb.{uleb_of}
use Rattle.dwarf_base.specs.Standard.{VERSION, ADDRESS_SIZE, SEGMENT_SELECTOR_SIZE, LENGTH_LIMIT}
use Rattle.dwarf_loclists.specs.declared.range.Location.{Location}
use Rattle.dwarf_loclists.specs.declared.range.Range.{Range}
use Rattle.dwarf_loclists.specs.Ranges.{Ascend}
use Rattle.dwarf_loclists.specs.Spelling.{entry, bodies, Spells}
use Rattle.dwarf_loclists.specs.Standard.{DW_LLE_end_of_list, DW_LLE_offset_pair}

-- the next field (DWARF 5 section 7.29), with what was read before it: the number n of lists by the header, the complete lists,
-- the ranges of the next list so far, and the parts of an entry
pub data LocationListField : Type 0 where
  UnitLength : LocationListField
  Version : LocationListField
  AddressSize : LocationListField
  SegmentSelectorSize : LocationListField
  OffsetEntryCount : LocationListField
  ListOffset : (n : ℕ) (done : List (List Range)) → LocationListField
  EntryKind : (n : ℕ) (done : List (List Range)) (ranges : List Range) → LocationListField
  StartOffset : (n : ℕ) (done : List (List Range)) (ranges : List Range) → LocationListField
  EndOffset : (n : ℕ) (done : List (List Range)) (ranges : List Range) (lo : ℕ) → LocationListField
  ExpressionLength : (n : ℕ) (done : List (List Range)) (ranges : List Range) (lo hi : ℕ) → LocationListField
  Expression : (n : ℕ) (done : List (List Range)) (ranges : List Range) (lo hi len : ℕ) → LocationListField
  Nothing : (done : List (List Range)) → LocationListField

-- the offset after the header, the n list offsets, the complete lists, and these ranges of the next list
abbrev pub after : ℕ → List (List Range) → List Range → ℕ
after n done ranges = 12 + 4 * n + length (bodies done) + length (flat_map entry ranges)

-- the offset of a field's first byte
abbrev pub first_byte : LocationListField → ℕ
first_byte UnitLength = 0
first_byte Version = 4
first_byte AddressSize = 6
first_byte SegmentSelectorSize = 7
first_byte OffsetEntryCount = 8
first_byte (ListOffset n done) = if nat_lt (length done) n then 12 + 4 * length done else after n done []
first_byte (EntryKind n done ranges) = after n done ranges
first_byte (StartOffset n done ranges) = after n done ranges + 1
first_byte (EndOffset n done ranges lo) = after n done ranges + 1 + length (uleb_of lo)
first_byte (ExpressionLength n done ranges lo hi) = after n done ranges + 1 + length (uleb_of lo) + length (uleb_of hi)
first_byte (Expression n done ranges lo hi len) = after n done ranges + 1 + length (uleb_of lo) + length (uleb_of hi) + length (uleb_of len)
first_byte (Nothing done) = after (length done) done []

-- the allowed bytes of a field in a section of `total` bytes, with the next field
abbrev pub MayBe : (total : ℕ) → LocationListField → List ℕ → LocationListField → Type 0
-- the length of what follows it, in the 32-bit format
MayBe total UnitLength bytes next = (n : ℕ) × (n < LENGTH_LIMIT) × (total ≡ 4 + n) × (bytes ≡ to_le_bytes w32 n) × (next ≡ Version)
MayBe total Version bytes next = (bytes ≡ to_le_bytes w16 VERSION) × (next ≡ AddressSize)
MayBe total AddressSize bytes next = (bytes ≡ ADDRESS_SIZE ∷ []) × (next ≡ SegmentSelectorSize)
MayBe total SegmentSelectorSize bytes next = (bytes ≡ SEGMENT_SELECTOR_SIZE ∷ []) × (next ≡ OffsetEntryCount)
-- the number of lists, whose offsets fit into the section
MayBe total OffsetEntryCount bytes next = (n : ℕ) × (n < 2 ^ 32) × (12 + 4 * n ≤ total) × (bytes ≡ to_le_bytes w32 n) × (next ≡ ListOffset n [])
-- a list's offset is where the list before it ends; after the last list the section ends
MayBe total (ListOffset n done) bytes next =
    ((length done < n) × (bytes ≡ to_le_bytes w32 (4 * n + length (bodies done))) × (next ≡ EntryKind n done []))
    ⊎ ((length done ≡ n) × (total ≡ after n done []) × (bytes ≡ []) × (next ≡ Nothing done))
MayBe total (EntryKind n done ranges) bytes next =
    ((bytes ≡ DW_LLE_end_of_list ∷ []) × (next ≡ ListOffset n (done ++ ranges ∷ [])))
    ⊎ ((bytes ≡ DW_LLE_offset_pair ∷ []) × (next ≡ StartOffset n done ranges))
-- a range is nonempty, and begins at or after the end of those before it
MayBe total (StartOffset n done ranges) bytes next =
    (lo : ℕ) × (lo < 2 ^ 64) × All (λ r. r.hi ≤ lo) ranges × (bytes ≡ uleb_of lo) × (next ≡ EndOffset n done ranges lo)
MayBe total (EndOffset n done ranges lo) bytes next =
    (hi : ℕ) × (hi < 2 ^ 64) × (lo < hi) × (bytes ≡ uleb_of hi) × (next ≡ ExpressionLength n done ranges lo hi)
MayBe total (ExpressionLength n done ranges lo hi) bytes next =
    (len : ℕ) × (len < 2 ^ 64) × (bytes ≡ uleb_of len) × (next ≡ Expression n done ranges lo hi len)
-- the expression of a location, of the length read before; two adjacent ranges have different locations
MayBe total (Expression n done ranges lo hi len) bytes next =
    (location : Location) × Spells bytes location × (length bytes ≡ len)
    × Ascend (ranges ++ record { lo = lo; hi = hi; location = location } ∷ [])
    × (next ≡ EntryKind n done (ranges ++ record { lo = lo; hi = hi; location = location } ∷ []))
MayBe total (Nothing done) bytes next = ⊥

-- the bytes at a field are allowed, and this field is next
pub record IsRight (bytes : List ℕ) (field next : LocationListField) : Type 0 where
  pub here : List ℕ
  pub rest : List ℕ
  pub stands : drop (first_byte field) bytes ≡ here ++ rest
  pub may : MayBe (length bytes) field here next

-- all fields before this one have allowed bytes
pub data Reaches (bytes : List ℕ) : LocationListField → Type 0 where
  begin : Reaches bytes UnitLength
  onward : {field next : LocationListField} → Reaches bytes field → IsRight bytes field next → Reaches bytes next

-- the first field without allowed bytes begins at this byte
pub record FaultAt (bytes : List ℕ) (at : ℕ) : Type 0 where
  pub field : LocationListField
  pub reached : Reaches bytes field
  pub wrong : (next : LocationListField) → IsRight bytes field next → ⊥
  pub unfinished : (done : List (List Range)) → field ≢ Nothing done
  pub is : at ≡ first_byte field
