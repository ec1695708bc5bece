-- The table of the items' offsets.
use Rattle.std.specs.Prelude.{◌≡◌, ℕ, ◌<◌, List, length, slice_index}
use Rattle.dwarf_entry.specs.declared.tree.TreeItem.{TreeItem}
use Rattle.dwarf_entry.specs.declared.abbreviation.Abbreviation.{Abbreviation}
use Rattle.dwarf_entry.specs.Entries.{offset_of}

-- the table has the offset of each item
pub record AreOffsets (abbreviations : List Abbreviation) (tree : List TreeItem) (offsets : List ℕ) : Type 0 where
  pub count : length offsets ≡ length tree
  pub at : (k : ℕ) → k < length tree → slice_index offsets k ≡ offset_of abbreviations tree k

-- the offset of an item by a table
abbrev pub in_table : List ℕ → ℕ → ℕ
in_table offsets k = slice_index offsets k
