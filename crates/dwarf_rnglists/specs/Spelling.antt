-- The unique encoding of range lists: the section .debug_rnglists (DWARF 5 sections 2.17.3 and 7.28). Its header is that of .debug_loclists.
use Rattle.std.specs.Prelude.{ℕ, ◌+◌, ◌*◌, List, [], ◌∷◌, ◌++◌, length}
use Rattle.std.specs.List.{flat_map}
use Rattle.std.specs.Int.{w32, to_le_bytes}
use Rattle.dwarf_base.specs.Leb.{uleb_of}
use Rattle.dwarf_loclists.specs.Spelling.{header}
use Rattle.dwarf_rnglists.specs.declared.range.AddressRange.{AddressRange}
use Rattle.dwarf_rnglists.specs.Standard.{DW_RLE_end_of_list, DW_RLE_offset_pair}

-- an entry (section 2.17.3): the start of the range, and its end (exclusive)
abbrev pub entry : AddressRange → List ℕ
entry r = DW_RLE_offset_pair ∷ uleb_of r.lo ++ uleb_of r.hi

-- a list: its entries, and the end
abbrev pub list_spelling : List AddressRange → List ℕ
list_spelling ranges = flat_map entry ranges ++ DW_RLE_end_of_list ∷ []

-- the lists one after the other
abbrev pub bodies : List (List AddressRange) → List ℕ
bodies lists = flat_map list_spelling lists

-- the offsets of the lists, with this offset for the first one
abbrev pub offsets_from : ℕ → List (List AddressRange) → List ℕ
offsets_from first [] = []
offsets_from first (ranges ∷ rest) = to_le_bytes w32 first ++ offsets_from (first + length (list_spelling ranges)) rest

-- the section. Its length doesn't count its own four bytes; the offsets count from the first offset, and the first list follows the last one
unfoldable pub spelling : List (List AddressRange) → List ℕ
spelling lists =
    header (8 + 4 * length lists + length (bodies lists)) (length lists)
    ++ offsets_from (4 * length lists) lists ++ bodies lists
