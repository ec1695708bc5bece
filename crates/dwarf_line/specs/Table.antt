-- The content of a line number table, without its encoding.
use Rattle.std.specs.Prelude.{ℕ, ◌<◌, ◌≤◌, ◌^◌, List, [], ◌∷◌, length, All}
use Rattle.dwarf_line.specs.declared.table.FileEntry.{FileEntry}
use Rattle.dwarf_line.specs.declared.table.Row.{Row}
use Rattle.dwarf_line.specs.declared.table.Sequence.{Sequence}
use Rattle.dwarf_line.specs.declared.table.LineTable.{LineTable}

-- the rows' addresses are nondecreasing, from an address up to the end
abbrev pub Ascend : ℕ → List Row → ℕ → Type 0
Ascend from [] end = from ≤ end
Ascend from (r ∷ rows) end = (from ≤ r.address) × Ascend r.address rows end

-- there is a row, and the addresses are nondecreasing up to the end
abbrev pub HasRows : List Row → ℕ → Type 0
HasRows [] end = ⊥
HasRows (r ∷ rows) end = Ascend r.address rows end

-- a sequence (section 6.2.5): at least one row, with nondecreasing addresses up to the end, the first address after the code
abbrev pub IsSequence : Sequence → Type 0
IsSequence s = HasRows s.rows s.end

-- a name has no zero byte
abbrev pub IsName : List ℕ → Type 0
IsName name = All (λ byte. 0 < byte) name

-- the path of a file has no zero byte, so that it can be written as DW_FORM_string
abbrev pub IsNamed : FileEntry → Type 0
IsNamed f = IsName f.name

-- the names of directories and files have no zero byte
pub record HasNames (t : LineTable) : Type 0 where
  pub dirs : All IsName t.dirs
  pub files : All IsNamed t.files

-- a row's address has 64 bits, its file, line and column have 32
pub record IsRow (r : Row) : Type 0 where
  pub address : r.address < 2 ^ 64
  pub file : r.file < 2 ^ 32
  pub line : r.line < 2 ^ 32
  pub column : r.column < 2 ^ 32

-- the registers of a sequence's rows and its end address are in range
abbrev pub HasRange : Sequence → Type 0
HasRange s = All IsRow s.rows × (s.end < 2 ^ 64)

-- a file's directory index fits in 64 bits
abbrev pub IsNumbered : FileEntry → Type 0
IsNumbered f = f.dir < 2 ^ 64

-- all numbers of a table are in range: counts, directory indices and ends fit in 64 bits, rows as `IsRow` has it
pub record Fits (t : LineTable) : Type 0 where
  pub dirs : length t.dirs < 2 ^ 64
  pub files : length t.files < 2 ^ 64
  pub numbers : All IsNumbered t.files
  pub sequences : All HasRange t.sequences
