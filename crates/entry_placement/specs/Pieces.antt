-- The pieces of a tree's section: its addresses, its section offsets and the offset of its abbreviations are fields that are relocated.
use Rattle.std.specs.Prelude.{ℕ, ◌+◌, ◌==◌, if◌then◌else◌, List, [], ◌∷◌, ◌++◌, length}
use Rattle.std.specs.List.{flat_map}
use Rattle.std.specs.Int.{w16, w32, to_le_bytes}
use Rattle.dwarf_base.specs.Leb.{uleb_of}
use Rattle.dwarf_base.specs.Standard.{VERSION, ADDRESS_SIZE}
use Rattle.dwarf_info.specs.Standard.{DW_UT_compile, DW_AT_stmt_list, DW_AT_loclists_base}
use Rattle.dwarf_entry.specs.declared.tree.Value.{Value}
use Rattle.dwarf_entry.specs.declared.tree.Value.TheVariants.{Address, Data1, Data2, Data4, Unsigned, Signed, Text, Reference, SectionOffset, LocationList}
use Rattle.dwarf_entry.specs.declared.tree.Value.TheVariants.{RangeList, Flag, Present, Expression}
use Rattle.dwarf_entry.specs.declared.tree.Attribute.{Attribute}
use Rattle.dwarf_entry.specs.declared.tree.TreeItem.{TreeItem}
use Rattle.dwarf_entry.specs.declared.tree.TreeItem.TheVariants.{Die, Null}
use Rattle.dwarf_entry.specs.declared.abbreviation.Abbreviation.{Abbreviation}
use Rattle.dwarf_entry.specs.Declarations.{abbreviation_of, code_of}
use Rattle.dwarf_entry.specs.Entries.{value_bytes, offset_of, encoded}
use Rattle.elf_content.specs.declared.piece.Piece.{Piece}
use Rattle.elf_content.specs.declared.piece.Piece.TheVariants.{Fixed}
use Rattle.debug_placement.specs.Fields.{address_field, offset_field}
use Rattle.entry_placement.specs.declared.content.SectionSymbols.{SectionSymbols}

-- the number of the symbol of the section into which the attribute of a name is an offset (DWARF 5 section 7.5.5: the classes lineptr, loclistsptr and
-- rnglistsptr)
abbrev pub symbol_of : SectionSymbols → (name : ℕ) → ℕ
symbol_of s name = if name == DW_AT_stmt_list then s.lines else (if name == DW_AT_loclists_base then s.location_lists else s.range_lists)

-- the value of the attribute of a name
abbrev pub value_pieces : SectionSymbols → (offset : ℕ → ℕ) → (name : ℕ) → Value → List Piece
value_pieces s offset name (Address address) = address_field s.text address ∷ []
value_pieces s offset name (Data1 n) = Fixed (value_bytes offset (Data1 n)) ∷ []
value_pieces s offset name (Data2 n) = Fixed (value_bytes offset (Data2 n)) ∷ []
value_pieces s offset name (Data4 n) = Fixed (value_bytes offset (Data4 n)) ∷ []
value_pieces s offset name (Unsigned n) = Fixed (value_bytes offset (Unsigned n)) ∷ []
value_pieces s offset name (Signed v) = Fixed (value_bytes offset (Signed v)) ∷ []
value_pieces s offset name (Text text) = Fixed (value_bytes offset (Text text)) ∷ []
value_pieces s offset name (Reference item) = Fixed (value_bytes offset (Reference item)) ∷ []
value_pieces s offset name (SectionOffset n) = offset_field (symbol_of s name) n ∷ []
value_pieces s offset name (LocationList list) = Fixed (value_bytes offset (LocationList list)) ∷ []
value_pieces s offset name (RangeList list) = Fixed (value_bytes offset (RangeList list)) ∷ []
value_pieces s offset name (Flag is) = Fixed (value_bytes offset (Flag is)) ∷ []
value_pieces s offset name Present = Fixed (value_bytes offset Present) ∷ []
value_pieces s offset name (Expression bytes) = Fixed (value_bytes offset (Expression bytes)) ∷ []

abbrev pub attribute_pieces : SectionSymbols → (offset : ℕ → ℕ) → Attribute → List Piece
attribute_pieces s offset a = value_pieces s offset a.name a.value

abbrev pub item_pieces : SectionSymbols → List Abbreviation → (offset : ℕ → ℕ) → TreeItem → List Piece
item_pieces s abbreviations offset (Die e) =
    Fixed (uleb_of (code_of abbreviations (abbreviation_of e))) ∷ flat_map (attribute_pieces s offset) e.attributes
item_pieces s abbreviations offset Null = Fixed (0 ∷ []) ∷ []

abbrev pub tree_pieces : SectionSymbols → List Abbreviation → (offset : ℕ → ℕ) → List TreeItem → List Piece
tree_pieces s abbreviations offset tree = flat_map (item_pieces s abbreviations offset) tree

-- the unit's header
abbrev pub header_pieces : SectionSymbols → (length_after : ℕ) → List Piece
header_pieces s length_after =
    Fixed (to_le_bytes w32 length_after ++ to_le_bytes w16 VERSION ++ (DW_UT_compile ∷ ADDRESS_SIZE ∷ [])) ∷ offset_field s.abbreviations 0 ∷ []

-- the section of a unit
abbrev pub unit_pieces : SectionSymbols → List Abbreviation → List TreeItem → List Piece
unit_pieces s abbreviations tree =
    header_pieces s (8 + length (encoded abbreviations tree)) ++ tree_pieces s abbreviations (offset_of abbreviations tree) tree
