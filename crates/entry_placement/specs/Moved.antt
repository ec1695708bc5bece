-- A tree whose code and whose sections lie at other addresses.
use Rattle.std.specs.Prelude.{ℕ, ◌+◌, ◌<◌, ◌^◌, List, map, All}
use Rattle.dwarf_entry.specs.declared.tree.Value.{Value}
use Rattle.dwarf_entry.specs.declared.tree.Value.TheVariants.{Address, Data1, Data2, Data4, Unsigned, Signed, Text, Reference, SectionOffset, LocationList}
use Rattle.dwarf_entry.specs.declared.tree.Value.TheVariants.{RangeList, Flag, Present, Expression}
use Rattle.dwarf_entry.specs.declared.tree.Attribute.{Attribute}
use Rattle.dwarf_entry.specs.declared.tree.TreeItem.{TreeItem}
use Rattle.dwarf_entry.specs.declared.tree.TreeItem.TheVariants.{Die, Null}

-- an address moved by where code lies, and a section offset by where the section of the attribute of this name does
abbrev pub moved_value : (code : ℕ) (section : ℕ → ℕ) (name : ℕ) → Value → Value
moved_value code section name (Address address) = Address (code + address)
moved_value code section name (Data1 n) = Data1 n
moved_value code section name (Data2 n) = Data2 n
moved_value code section name (Data4 n) = Data4 n
moved_value code section name (Unsigned n) = Unsigned n
moved_value code section name (Signed v) = Signed v
moved_value code section name (Text text) = Text text
moved_value code section name (Reference item) = Reference item
moved_value code section name (SectionOffset n) = SectionOffset (section name + n)
moved_value code section name (LocationList list) = LocationList list
moved_value code section name (RangeList list) = RangeList list
moved_value code section name (Flag is) = Flag is
moved_value code section name Present = Present
moved_value code section name (Expression bytes) = Expression bytes

abbrev pub moved_attribute : (code : ℕ) (section : ℕ → ℕ) → Attribute → Attribute
moved_attribute code section a = record { name = a.name; value = moved_value code section a.name a.value }

abbrev pub moved_item : (code : ℕ) (section : ℕ → ℕ) → TreeItem → TreeItem
moved_item code section (Die e) = Die (record { tag = e.tag; children = e.children; attributes = map (moved_attribute code section) e.attributes })
moved_item code section Null = Null

-- the tree where code and sections lie at these addresses
abbrev pub moved_tree : (code : ℕ) (section : ℕ → ℕ) → List TreeItem → List TreeItem
moved_tree code section tree = map (moved_item code section) tree

-- a moved address has 64 bits, a moved section offset 32
abbrev pub FitsMoved : (code : ℕ) (section : ℕ → ℕ) (name : ℕ) → Value → Type 0
FitsMoved code section name (Address address) = code + address < 2 ^ 64
FitsMoved code section name (Data1 n) = Unit {0}
FitsMoved code section name (Data2 n) = Unit {0}
FitsMoved code section name (Data4 n) = Unit {0}
FitsMoved code section name (Unsigned n) = Unit {0}
FitsMoved code section name (Signed v) = Unit {0}
FitsMoved code section name (Text text) = Unit {0}
FitsMoved code section name (Reference item) = Unit {0}
FitsMoved code section name (SectionOffset n) = section name + n < 2 ^ 32
FitsMoved code section name (LocationList list) = Unit {0}
FitsMoved code section name (RangeList list) = Unit {0}
FitsMoved code section name (Flag is) = Unit {0}
FitsMoved code section name Present = Unit {0}
FitsMoved code section name (Expression bytes) = Unit {0}

abbrev pub AttributeFitsMoved : (code : ℕ) (section : ℕ → ℕ) → Attribute → Type 0
AttributeFitsMoved code section a = FitsMoved code section a.name a.value

abbrev pub ItemFitsMoved : (code : ℕ) (section : ℕ → ℕ) → TreeItem → Type 0
ItemFitsMoved code section (Die e) = All (AttributeFitsMoved code section) e.attributes
ItemFitsMoved code section Null = Unit {0}
