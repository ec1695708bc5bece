-- The encoding of location lists of variables whose sizes are known (DWARF 5 sections 2.6 and 7.29): each location covers all bytes of its variable, and says
-- which of them have no place.
use Rattle.std.specs.Prelude.{ℕ, ◌+◌, ◌-◌, ◌*◌, List, [], ◌∷◌, ◌++◌, length, nat_lt, if◌then◌else◌}
use Rattle.std.specs.List.{flat_map}
use Rattle.std.specs.Int.{w32, to_le_bytes}
use Rattle.rv64_instr.specs.declared.place.Place.{Place}
use Rattle.dwarf_base.specs.Leb.{uleb_of}
use Rattle.dwarf_loclists.specs.declared.range.Part.{Part}
use Rattle.dwarf_loclists.specs.declared.range.Location.{Location}
use Rattle.dwarf_loclists.specs.declared.range.Location.TheVariants.{Whole, Parts}
use Rattle.dwarf_loclists.specs.declared.range.Range.{Range}
use Rattle.dwarf_loclists.specs.Spelling.{simple_location, header}
use Rattle.dwarf_loclists.specs.Standard.{DW_LLE_end_of_list, DW_LLE_offset_pair, DW_OP_piece}
use Rattle.sized_lists.specs.declared.list.SizedList.{SizedList}
use Rattle.sized_lists.specs.Standard.{DW_OP_bit_piece}

-- the bytes without a place from one offset up to another, if there are any: a piece of nothing (section 2.6.1.2), in bits, whose own offset is 0
abbrev pub gap : (from to : ℕ) → List ℕ
gap from to = if nat_lt from to then DW_OP_bit_piece ∷ uleb_of (8 * (to - from)) ++ 0 ∷ [] else []

-- so many bytes at a place
abbrev pub located_bytes : Place → (count : ℕ) → List ℕ
located_bytes p count = simple_location p ++ DW_OP_piece ∷ uleb_of count

-- a piece, and the gap before it
abbrev pub piece : (from : ℕ) → Part → List ℕ
piece from p = gap from p.offset ++ located_bytes p.place p.length

-- the pieces of a variable of this size, in the order of its bytes, and the gap behind them
abbrev pub composite_location : (size from : ℕ) → List Part → List ℕ
composite_location size from [] = gap from size
composite_location size from (p ∷ rest) = piece from p ++ composite_location size (p.offset + p.length) rest

-- a place has the first eight bytes of a variable
abbrev pub whole_location : (size : ℕ) → Place → List ℕ
whole_location size p = if nat_lt 8 size then located_bytes p 8 ++ gap 8 size else simple_location p

-- the DWARF expression of a location of a variable of this size
abbrev pub expression : (size : ℕ) → Location → List ℕ
expression size (Whole p) = whole_location size p
expression size (Parts parts) = composite_location size 0 parts

-- an entry (section 2.6.2): the start of the range, its end (exclusive), and a counted location description
abbrev pub entry : (size : ℕ) → Range → List ℕ
entry size r =
    let location = expression size r.location in
    DW_LLE_offset_pair ∷ uleb_of r.lo ++ uleb_of r.hi ++ uleb_of (length location) ++ location

-- the list of a variable of this size: its entries, and the end
abbrev pub list_body : (size : ℕ) → List Range → List ℕ
list_body size ranges = flat_map (entry size) ranges ++ DW_LLE_end_of_list ∷ []

abbrev pub list_spelling : SizedList → List ℕ
list_spelling l = list_body l.size l.ranges

-- the lists one after the other
abbrev pub bodies : List SizedList → List ℕ
bodies lists = flat_map list_spelling lists

-- the offsets of the lists, with this offset for the first one
abbrev pub offsets_from : ℕ → List SizedList → List ℕ
offsets_from first [] = []
offsets_from first (l ∷ rest) = to_le_bytes w32 first ++ offsets_from (first + length (list_spelling l)) rest

-- the section. Its length doesn't count its own four bytes; the offsets count from the first offset, and the first list follows the last one
unfoldable pub spelling : List SizedList → List ℕ
spelling lists =
    header (8 + 4 * length lists + length (bodies lists)) (length lists)
    ++ offsets_from (4 * length lists) lists ++ bodies lists
