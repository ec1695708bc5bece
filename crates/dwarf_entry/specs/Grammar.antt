-- The grammar of the two sections: the bytes are the encoding of a tree.
use Rattle.std.specs.Prelude.{◌≡◌, ℕ, zero, suc, ◌+◌, ◌<◌, ◌^◌, true, cond, List, [], ◌∷◌, length, All, Option, Some, None, slice_get}
use Rattle.dwarf_base.specs.Standard.{LENGTH_LIMIT}
use Rattle.dwarf_info.specs.Entries.{named}
use Rattle.dwarf_entry.specs.declared.tree.Value.{Value}
use Rattle.dwarf_entry.specs.declared.tree.Value.TheVariants.{Address, Data1, Data2, Data4, Unsigned, Signed, Text, Reference, SectionOffset, LocationList}
use Rattle.dwarf_entry.specs.declared.tree.Value.TheVariants.{RangeList, Flag, Present, Expression}
use Rattle.dwarf_entry.specs.declared.tree.TreeItem.{TreeItem}
use Rattle.dwarf_entry.specs.declared.tree.TreeItem.TheVariants.{Die, Null}
use Rattle.dwarf_entry.specs.declared.abbreviation.Specification.{Specification}
use Rattle.dwarf_entry.specs.declared.abbreviation.Abbreviation.{Abbreviation}
use Rattle.dwarf_entry.specs.Declarations.{abbreviation_of, is_declared, abbreviation_section}
use Rattle.dwarf_entry.specs.Entries.{spelling}

-- ---- trees

-- the items from inside this many open entries up to the end of a tree
abbrev pub Close : (depth : ℕ) → List TreeItem → Type 0
Close zero [] = Unit {0}
Close zero (i ∷ rest) = ⊥
Close (suc depth) [] = ⊥
Close (suc depth) (Null ∷ rest) = Close depth rest
Close (suc depth) (Die e ∷ rest) = Close (cond e.children (suc (suc depth)) (suc depth)) rest

-- the items are those of a tree: one entry, with its children if it has any
abbrev pub IsTree : List TreeItem → Type 0
IsTree [] = ⊥
IsTree (Null ∷ rest) = ⊥
IsTree (Die e ∷ rest) = Close (cond e.children 1 0) rest

-- an item of a tree that is an entry
abbrev pub IsEntry : Option TreeItem → Type 0
IsEntry None = ⊥
IsEntry (Some Null) = ⊥
IsEntry (Some (Die e)) = Unit {0}

-- ---- values

-- a value that its form can have: a number of so many bytes, a string without a zero byte, a reference to an entry of the tree
abbrev pub IsValue : List TreeItem → Value → Type 0
IsValue tree (Address address) = address < 2 ^ 64
IsValue tree (Data1 n) = n < 2 ^ 8
IsValue tree (Data2 n) = n < 2 ^ 16
IsValue tree (Data4 n) = n < 2 ^ 32
IsValue tree (Unsigned n) = Unit {0}
IsValue tree (Signed v) = Unit {0}
IsValue tree (Text name) = named name ≡ name
IsValue tree (Reference k) = IsEntry (slice_get tree k)
IsValue tree (SectionOffset offset) = offset < 2 ^ 32
IsValue tree (LocationList list) = Unit {0}
IsValue tree (RangeList list) = Unit {0}
IsValue tree (Flag is) = Unit {0}
IsValue tree Present = Unit {0}
IsValue tree (Expression bytes) = Unit {0}

-- an item whose values are such, and whose abbreviation is declared
abbrev pub IsItem : List Abbreviation → List TreeItem → TreeItem → Type 0
IsItem abbreviations tree Null = Unit {0}
IsItem abbreviations tree (Die e) = (is_declared (abbreviation_of e) abbreviations ≡ true) × All (λ a. IsValue tree a.value) e.attributes

-- an attribute of a declaration has a form, so that two zeros end the attributes (section 7.5.3)
abbrev pub HasForm : Specification → Type 0
HasForm s = 0 < s.form

abbrev pub HasForms : Abbreviation → Type 0
HasForms a = All HasForm a.attributes

-- ---- the sections

-- the two sections are the encoding of a tree by some abbreviations. The unit's length fits in the 32-bit format
pub record AreSections (debug_abbrev debug_info : List ℕ) (tree : List TreeItem) : Type 0 where
  pub abbreviations : List Abbreviation
  pub forms : All HasForms abbreviations
  pub declared : debug_abbrev ≡ abbreviation_section abbreviations
  pub spelled : debug_info ≡ spelling abbreviations tree
  pub size : length debug_info < 4 + LENGTH_LIMIT
  pub is_tree : IsTree tree
  pub values : All (IsItem abbreviations tree) tree
