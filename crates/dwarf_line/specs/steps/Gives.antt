-- The result of the reader in code, against the specified one.
use Rattle.std.specs.Prelude.{◌≡◌, ℕ, List, Result, Ok, Err}
use Rattle.dwarf_line.specs.declared.table.Sequence.{Sequence}
use Rattle.dwarf_line.specs.FirstFault.{behind_header, Program}
use Rattle.dwarf_line.specs.declared.read.ReadError.{ReadError}
use Rattle.dwarf_line.specs.declared.read.ReadError.TheVariants.{Memory, Left}

-- the same fault, or out of memory
abbrev pub Fails : {Y : Type 0} → ReadError → Result Y ℕ → Type 0
Fails Memory read = Unit {0}
Fails (Left left) read = read ≡ Err left

-- the same value under `view`, the same fault, or out of memory
abbrev pub Gives : {X Y : Type 0} → (X → Y) → Result X ReadError → Result Y ℕ → Type 0
Gives view (Ok x) read = read ≡ Ok (view x)
Gives view (Err e) read = Fails e read

-- a fault of this kind, or out of memory
abbrev pub Faults : ReadError → (ℕ → Type 0) → Type 0
Faults Memory fault = Unit {0}
Faults (Left left) fault = fault left

-- the header is read, and the bytes after it are the program of these sequences
pub record Reads (bytes : List ℕ) (sequences : List Sequence) : Type 0 where
  pub behind : List ℕ
  pub header : behind_header bytes ≡ Ok behind
  pub reads : Program behind sequences
