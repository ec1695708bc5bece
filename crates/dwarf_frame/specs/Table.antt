-- The content of a table of call frame information, without its encoding (DWARF 5 section 6.4.1).
use Rattle.std.specs.Prelude.{◌≡◌, ◌≢◌, ℕ, ◌+◌, ◌-◌, ◌%◌, ◌^◌, ◌<◌, ◌≤◌, Bool, true, false, List, [], ◌∷◌, length, All, Option, Some, None, replicate, get_or}
use Rattle.std.specs.Prelude.{◌==◌, ◌||◌}
use Rattle.dwarf_frame.specs.declared.table.FrameRow.{FrameRow}
use Rattle.dwarf_frame.specs.declared.table.Row.{Row}
use Rattle.dwarf_frame.specs.declared.table.FrameDescription.{FrameDescription}
use Rattle.dwarf_frame.specs.Standard.{STACK_POINTER}

-- whether a register is saved
abbrev pub is_saved : List (Option ℕ) → Bool
is_saved [] = false
is_saved (None ∷ rest) = is_saved rest
is_saved (Some distance ∷ rest) = true

-- no register is saved
abbrev pub none_saved : List (Option ℕ)
none_saved = replicate 32 None

-- the row at a function's first address: the CFA is the stack pointer, and no register is saved
abbrev pub initial : ℕ → Row
initial start = record { address = start; rules = record { cfa_offset = 0; saved = none_saved } }

-- a distance below the CFA: a doubleword, below 2^32
abbrev pub IsDistance : Option ℕ → Type 0
IsDistance None = Unit {0}
IsDistance (Some distance) = (distance % 8 ≡ 0) × (distance < 2 ^ 32)

-- the registers that are never saved: x0 is always zero, and x2's value at the entry is the CFA
abbrev pub is_fixed : ℕ → Bool
is_fixed register = register == 0 || register == STACK_POINTER

-- a register whose value a function may lose
abbrev pub MayBeLost : ℕ → Type 0
MayBeLost register = (register < 32) × (is_fixed register ≡ false)

-- registers whose values functions may lose
pub record AreUndefined (registers : List ℕ) : Type 0 where
  pub each : All MayBeLost registers
  pub few : length registers ≤ 32

-- rules that can be written: the offset and the distances are below 2^32, and each of x0 to x31 has its place, which is empty for x0
-- and x2
pub record AreRules (rules : FrameRow) : Type 0 where
  pub offset : rules.cfa_offset < 2 ^ 32
  pub registers : length rules.saved ≡ 32
  pub distances : All IsDistance rules.saved
  pub zero : get_or rules.saved 0 None ≡ None
  pub pointer : get_or rules.saved STACK_POINTER None ≡ None

-- a row after another, in a function that ends at an address: it is later by instructions of four bytes, and its rules are
-- others. Registers are saved if none was, and if some were, they stay so or none is any more
pub record IsNext (before r : Row) (end : ℕ) : Type 0 where
  pub later : before.address < r.address
  pub words : (r.address - before.address) % 4 ≡ 0
  pub near : r.address - before.address < 2 ^ 34
  pub inside : r.address < end
  pub others : r.rules ≢ before.rules
  pub keeps : is_saved before.rules.saved ≡ true → is_saved r.rules.saved ≡ true → r.rules.saved ≡ before.rules.saved

-- the rows after a row, in a function that ends at an address
abbrev pub AreRows : Row → List Row → ℕ → Type 0
AreRows before [] end = Unit {0}
AreRows before (r ∷ rows) end = IsNext before r end × AreRules r.rules × AreRows r rows end

-- a function's address range is in 64 bits, and its rows follow the initial one
pub record IsDescription (f : FrameDescription) : Type 0 where
  pub start : f.start < 2 ^ 64
  pub size : f.size < 2 ^ 64
  pub end : f.start + f.size ≤ 2 ^ 64
  pub rows : AreRows (initial f.start) f.rows (f.start + f.size)
