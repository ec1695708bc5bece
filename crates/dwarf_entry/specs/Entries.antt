-- A tree of entries and its unique encoding by abbreviations: the section .debug_info (DWARF 5 sections 7.5.1, 7.5.2 and 7.5.5).
use Rattle.std.specs.Prelude.{ℕ, ◌+◌, ◌<◌, cond, List, [], ◌∷◌, ◌++◌, length, take, All}
use Rattle.std.specs.List.{flat_map}
use Rattle.std.specs.Int.{w16, w32, w64, to_le_bytes}
use Rattle.dwarf_base.specs.Leb.{uleb_of, sleb_of}
use Rattle.dwarf_base.specs.Standard.{VERSION, ADDRESS_SIZE}
use Rattle.dwarf_info.specs.Standard.{DW_UT_compile, HEADER_LENGTH}
use Rattle.dwarf_info.specs.Entries.{named}
use Rattle.dwarf_entry.specs.declared.tree.Value.{Value}
use Rattle.dwarf_entry.specs.declared.tree.Value.TheVariants.{Address, Data1, Data2, Data4, Unsigned, Signed, Text, Reference, SectionOffset, LocationList}
use Rattle.dwarf_entry.specs.declared.tree.Value.TheVariants.{RangeList, Flag, Present, Expression}
use Rattle.dwarf_entry.specs.declared.tree.Attribute.{Attribute}
use Rattle.dwarf_entry.specs.declared.tree.Entry.{Entry}
use Rattle.dwarf_entry.specs.declared.tree.TreeItem.{TreeItem}
use Rattle.dwarf_entry.specs.declared.tree.TreeItem.TheVariants.{Die, Null}
use Rattle.dwarf_entry.specs.declared.abbreviation.Abbreviation.{Abbreviation}
use Rattle.dwarf_entry.specs.Declarations.{abbreviation_of, code_of}

-- the encoding of a value (section 7.5.5). `offset` is the offset of each item of the tree from the unit's first byte
abbrev pub value_bytes : (offset : ℕ → ℕ) → Value → List ℕ
value_bytes offset (Address address) = to_le_bytes w64 address
value_bytes offset (Data1 n) = n ∷ []
value_bytes offset (Data2 n) = to_le_bytes w16 n
value_bytes offset (Data4 n) = to_le_bytes w32 n
value_bytes offset (Unsigned n) = uleb_of n
value_bytes offset (Signed v) = sleb_of v
value_bytes offset (Text name) = named name ++ 0 ∷ []
value_bytes offset (Reference item) = to_le_bytes w32 (offset item)
value_bytes offset (SectionOffset n) = to_le_bytes w32 n
value_bytes offset (LocationList list) = uleb_of list
value_bytes offset (RangeList list) = uleb_of list
value_bytes offset (Flag is) = cond is 1 0 ∷ []
value_bytes offset Present = []
value_bytes offset (Expression bytes) = uleb_of (length bytes) ++ bytes

abbrev pub attribute_bytes : (offset : ℕ → ℕ) → Attribute → List ℕ
attribute_bytes offset a = value_bytes offset a.value

-- the encoding of an entry (section 7.5.2): the code of its abbreviation, and its values in order
abbrev pub entry_bytes : List Abbreviation → (offset : ℕ → ℕ) → Entry → List ℕ
entry_bytes abbreviations offset e = uleb_of (code_of abbreviations (abbreviation_of e)) ++ flat_map (attribute_bytes offset) e.attributes

-- the encoding of an item. A null entry is a zero byte, which is no code (section 7.5.3)
abbrev pub item_bytes : List Abbreviation → (offset : ℕ → ℕ) → TreeItem → List ℕ
item_bytes abbreviations offset (Die e) = entry_bytes abbreviations offset e
item_bytes abbreviations offset Null = 0 ∷ []

-- the encoding of items, one behind the other
abbrev pub tree_bytes : List Abbreviation → (offset : ℕ → ℕ) → List TreeItem → List ℕ
tree_bytes abbreviations offset tree = flat_map (item_bytes abbreviations offset) tree

-- the offset of item k from the unit's first byte: behind the header and the items before it. How long an item is doesn't rest on offsets
abbrev pub offset_of : List Abbreviation → List TreeItem → (k : ℕ) → ℕ
offset_of abbreviations tree k = HEADER_LENGTH + length (tree_bytes abbreviations (λ _. 0) (take k tree))

-- the unit's header (section 7.5.1.1): the length of what follows it, the version, the unit type, the size of addresses, and the offset of its
-- abbreviations in .debug_abbrev
abbrev pub header_at : (declarations length_after : ℕ) → List ℕ
header_at declarations length_after =
    to_le_bytes w32 length_after ++ to_le_bytes w16 VERSION ++ (DW_UT_compile ∷ ADDRESS_SIZE ∷ []) ++ to_le_bytes w32 declarations

-- the items of a tree by its own offsets
abbrev pub encoded : List Abbreviation → List TreeItem → List ℕ
encoded abbreviations tree = tree_bytes abbreviations (offset_of abbreviations tree) tree

-- the unit, if its abbreviations are at an offset of .debug_abbrev
unfoldable pub spelling_at : (declarations : ℕ) → List Abbreviation → List TreeItem → List ℕ
spelling_at declarations abbreviations tree = header_at declarations (8 + length (encoded abbreviations tree)) ++ encoded abbreviations tree

-- the section .debug_info of one unit
abbrev pub spelling : List Abbreviation → List TreeItem → List ℕ
spelling abbreviations tree = spelling_at 0 abbreviations tree

-- ---- what can be written

-- a reference is to one of so many items
abbrev pub RefersBelow : (count : ℕ) → Value → Type 0
RefersBelow count (Address address) = Unit {0}
RefersBelow count (Data1 n) = Unit {0}
RefersBelow count (Data2 n) = Unit {0}
RefersBelow count (Data4 n) = Unit {0}
RefersBelow count (Unsigned n) = Unit {0}
RefersBelow count (Signed v) = Unit {0}
RefersBelow count (Text name) = Unit {0}
RefersBelow count (Reference item) = item < count
RefersBelow count (SectionOffset n) = Unit {0}
RefersBelow count (LocationList list) = Unit {0}
RefersBelow count (RangeList list) = Unit {0}
RefersBelow count (Flag is) = Unit {0}
RefersBelow count Present = Unit {0}
RefersBelow count (Expression bytes) = Unit {0}

abbrev pub AttributeRefersBelow : (count : ℕ) → Attribute → Type 0
AttributeRefersBelow count a = RefersBelow count a.value

abbrev pub ItemRefersBelow : (count : ℕ) → TreeItem → Type 0
ItemRefersBelow count (Die e) = All (AttributeRefersBelow count) e.attributes
ItemRefersBelow count Null = Unit {0}

-- each reference of a tree is to one of its items
abbrev pub RefersWithin : List TreeItem → Type 0
RefersWithin tree = All (ItemRefersBelow (length tree)) tree
