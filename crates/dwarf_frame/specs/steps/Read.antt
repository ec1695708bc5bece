-- What the parts of the reader in code have read.
use Rattle.std.specs.Prelude.{◌≡◌, ℕ, Ok, List, [], ◌∷◌, Option}
use Rattle.dwarf_frame.specs.declared.table.FrameRow.{FrameRow}
use Rattle.dwarf_frame.specs.declared.table.Row.{Row}
use Rattle.dwarf_frame.specs.declared.table.FrameDescription.{FrameDescription}
use Rattle.dwarf_frame.specs.FirstFault.{behind_common, Rows, FunctionAt, Functions}
use Rattle.dwarf_frame.specs.Rows.{rules_after, rules_in}

-- the rows of a function were read, and these are the rules of an address by them
pub record RulesRead (end : ℕ) (before : Row) (bytes : List ℕ) (address : ℕ) (rules : FrameRow) : Type 0 where
  pub rows : List Row
  pub reads : Rows end before bytes rows
  pub is : rules ≡ rules_after before.rules rows address

-- a function was read, and these are the rules of an address by it
pub record FunctionRead (bytes : List ℕ) (address : ℕ) (rules : Option FrameRow) : Type 0 where
  pub function : FrameDescription
  pub reads : FunctionAt bytes function
  pub is : rules ≡ rules_in (function ∷ []) address

-- a section was read, and these are the rules of an address by it
pub record SectionRead (undefined bytes : List ℕ) (address : ℕ) (rules : Option FrameRow) : Type 0 where
  pub functions : List FrameDescription
  pub behind : List ℕ
  pub common : behind_common undefined bytes ≡ Ok behind
  pub reads : Functions behind functions
  pub is : rules ≡ rules_in functions address
