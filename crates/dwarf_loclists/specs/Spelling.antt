-- The unique encoding of location lists: the section .debug_loclists (DWARF 5 section 7.29).
use Rattle.std.specs.Prelude.{◌≡◌, ℕ, pos, ◌+◌, ◌-◌, ◌*◌, List, [], ◌∷◌, ◌++◌, length, nat_lt, if◌then◌else◌}
use Rattle.std.specs.List.{flat_map}
use Rattle.std.specs.Int.{w16, w32, to_le_bytes}
use Rattle.rv64_instr.specs.declared.place.Place.{Place}
use Rattle.rv64_instr.specs.declared.place.Place.TheVariants.{Register, Slot, Const}
use Rattle.dwarf_base.specs.Leb.{uleb_of, sleb_of}
use Rattle.dwarf_base.specs.Standard.{VERSION, ADDRESS_SIZE, SEGMENT_SELECTOR_SIZE}
use Rattle.dwarf_loclists.specs.declared.range.Part.{Part}
use Rattle.dwarf_loclists.specs.declared.range.Location.{Location}
use Rattle.dwarf_loclists.specs.declared.range.Location.TheVariants.{Whole, Parts}
use Rattle.dwarf_loclists.specs.declared.range.Range.{Range}
use Rattle.dwarf_loclists.specs.Ranges.{IsLocated, HasWords}
use Rattle.dwarf_loclists.specs.Standard.{DW_LLE_end_of_list, DW_LLE_offset_pair, DW_OP_reg0, DW_OP_breg2, DW_OP_consts, DW_OP_piece, DW_OP_stack_value}

-- a simple location description (section 2.6.1.1): a register, memory at an offset from x2, or an implicit value. The DWARF
-- number of xN is N (RISC-V ELF psABI, "DWARF Register Numbers")
abbrev pub simple_location : Place → List ℕ
simple_location (Register r) = (DW_OP_reg0 + r) ∷ []
simple_location (Slot offset) = DW_OP_breg2 ∷ sleb_of (pos offset)
simple_location (Const c) = DW_OP_consts ∷ sleb_of c ++ DW_OP_stack_value ∷ []

-- the bytes without a location before a piece: an empty piece, if there are any (section 2.6.1.2)
abbrev pub gap : (from offset : ℕ) → List ℕ
gap from offset = if nat_lt from offset then DW_OP_piece ∷ uleb_of (offset - from) else []

-- a piece, and the gap before it
abbrev pub piece : (from : ℕ) → Part → List ℕ
piece from p = gap from p.offset ++ (simple_location p.place ++ DW_OP_piece ∷ uleb_of p.length)

-- a composite location description: its pieces, in the order of the variable's bytes (section 2.6.1.2)
abbrev pub composite_location : (from : ℕ) → List Part → List ℕ
composite_location from [] = []
composite_location from (p ∷ rest) = piece from p ++ composite_location (p.offset + p.length) rest

-- the DWARF expression of a location
abbrev pub expression : Location → List ℕ
expression (Whole p) = simple_location p
expression (Parts parts) = composite_location 0 parts

-- the bytes are the expression of a location
pub record Spells (bytes : List ℕ) (location : Location) : Type 0 where
  pub located : IsLocated location
  pub wide : HasWords location
  pub spelled : bytes ≡ expression location

-- an entry (section 2.6.2): the start of the range, its end (exclusive), and a counted location description
abbrev pub entry : Range → List ℕ
entry r =
    let location = expression r.location in
    DW_LLE_offset_pair ∷ uleb_of r.lo ++ uleb_of r.hi ++ uleb_of (length location) ++ location

-- a list: its entries, and the end
abbrev pub list_spelling : List Range → List ℕ
list_spelling ranges = flat_map entry ranges ++ DW_LLE_end_of_list ∷ []

-- the lists one after the other
abbrev pub bodies : List (List Range) → List ℕ
bodies lists = flat_map list_spelling lists

-- the offsets of the lists, with this offset for the first one
abbrev pub offsets_from : ℕ → List (List Range) → List ℕ
offsets_from first [] = []
offsets_from first (ranges ∷ rest) = to_le_bytes w32 first ++ offsets_from (first + length (list_spelling ranges)) rest

-- the header (section 7.29): the length of what follows it, the version, the sizes of addresses and of segment selectors, and how many offsets follow
abbrev pub header : (length_after count : ℕ) → List ℕ
header length_after count =
    to_le_bytes w32 length_after ++ to_le_bytes w16 VERSION
    ++ (ADDRESS_SIZE ∷ SEGMENT_SELECTOR_SIZE ∷ []) ++ to_le_bytes w32 count

-- the section. Its length doesn't count its own four bytes; the offsets count from the first offset, and the first list follows the last one
unfoldable pub spelling : List (List Range) → List ℕ
spelling lists =
    header (8 + 4 * length lists + length (bodies lists)) (length lists)
    ++ offsets_from (4 * length lists) lists ++ bodies lists
