-- The row of a line number table for an address (DWARF 5 section 6.2).
use Rattle.std.specs.Prelude.{◌≡◌, ℕ, ◌≤◌, ◌<◌, Option, Some, None, List, [], ◌∷◌, ◌++◌, nat_le, if◌then◌else◌, unwrap_or, Contains}
use Rattle.dwarf_line.specs.declared.table.Row.{Row}
use Rattle.dwarf_line.specs.declared.table.Sequence.{Sequence}
use Rattle.dwarf_line.specs.declared.table.LineTable.{LineTable}
use Rattle.dwarf_line.specs.Spelling.{first_address}
use Rattle.dwarf_line.specs.FirstFault.{IsSection}

-- the row for an address: the last one at or before it, if the rows' addresses ascend
abbrev pub row_in : List Row → ℕ → Option Row
row_in [] address = None
row_in (r ∷ rows) address = if nat_le r.address address then Some (unwrap_or (row_in rows address) r) else None

-- the rows are after an address: the first of them is
abbrev pub StandBehind : ℕ → List Row → Type 0
StandBehind address [] = Unit {0}
StandBehind address (r ∷ rows) = address < r.address

-- the last row at or before an address
pub record IsLastRow (rows : List Row) (address : ℕ) (r : Row) : Type 0 where
  pub before : List Row
  pub behind : List Row
  pub stands : rows ≡ before ++ r ∷ behind
  pub at : r.address ≤ address
  pub last : StandBehind address behind

-- the row for an address by a section: that of a sequence that contains the address, from its first address up to its end,
-- exclusive
pub record RowAt (bytes : List ℕ) (address : ℕ) (r : Row) : Type 0 where
  pub table : LineTable
  pub section : IsSection bytes table
  pub sequence : Sequence
  pub listed : Contains table.sequences sequence
  pub begins : first_address sequence.rows ≤ address
  pub ends : address < sequence.end
  pub found : row_in sequence.rows address ≡ Some r
