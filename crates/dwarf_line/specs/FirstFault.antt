-- The section of a line number table read from the left, field by field (DWARF 5 sections 6.2.4 and 6.2.5), and the byte of its
-- first wrong field.
use Rattle.std.specs.Prelude.{◌≡◌, ◌≢◌, ℕ, zero, suc, ◌+◌, ◌-◌, ◌^◌, ◌<◌, Bool, true, false, Option, Some, None, Result, Ok, Err, List, [], ◌∷◌, length, ◌==◌}
use Rattle.std.specs.Prelude.{nat_lt, All, ◌&&◌, if◌then◌else◌}
use Rattle.std.specs.Int.{w16, w32, w64}
use Rattle.dwarf_base.specs.Standard.{VERSION, ADDRESS_SIZE, SEGMENT_SELECTOR_SIZE, LENGTH_LIMIT}
use Rattle.dwarf_line.specs.declared.table.Row.{Row}
use Rattle.dwarf_line.specs.declared.table.Sequence.{Sequence}
use Rattle.dwarf_line.specs.declared.table.LineTable.{LineTable}
use Rattle.dwarf_line.specs.declared.read.Advance.{Advance}
use Rattle.dwarf_line.specs.declared.read.Group.{Group}
use Rattle.dwarf_line.specs.declared.read.Group.TheVariants.{Copied, Ended}
use Rattle.dwarf_line.specs.Standard.{instruction_fields, directory_format, file_format, DW_LNS_copy, DW_LNS_advance_pc, DW_LNS_advance_line, DW_LNS_set_file}
use Rattle.dwarf_line.specs.Standard.{DW_LNS_set_column, EXTENDED_OPCODE, DW_LNE_end_sequence, DW_LNE_set_address}
use Rattle.dwarf_line.specs.Table.{HasNames, IsSequence, Fits}
use Rattle.dwarf_line.specs.Spelling.{registers_at, spelling}
use Rattle.dwarf_line.specs.Fields.{◌>>=◌, constants_at, number_at, uleb_at, advanced_at, line_at, behind_text}

-- the bytes after this number of directories
unfoldable pub behind_dirs : ℕ → List ℕ → Result (List ℕ) ℕ
behind_dirs zero bytes = Ok bytes
behind_dirs (suc n) bytes = behind_text bytes >>= behind_dirs n

-- the bytes after this number of files, each a string and a directory index
unfoldable pub behind_files : ℕ → List ℕ → Result (List ℕ) ℕ
behind_files zero bytes = Ok bytes
behind_files (suc n) bytes = do
  name ← behind_text bytes
  dir ← uleb_at (2 ^ 64) name
  behind_files n dir.1

-- the bytes after the fields that the header's length counts
unfoldable pub behind_tables : List ℕ → Result (List ℕ) ℕ
behind_tables bytes = do
  start ← constants_at instruction_fields bytes
  directories ← constants_at directory_format start
  dir_count ← uleb_at (2 ^ 64) directories
  files ← behind_dirs dir_count.0 dir_count.1
  formats ← constants_at file_format files
  file_count ← uleb_at (2 ^ 64) formats
  behind_files file_count.0 file_count.1

-- the bytes after the header: the line number program. The section's length is checked against the given bytes, and the header's
-- length at the end of the tables
unfoldable pub behind_header : List ℕ → Result (List ℕ) ℕ
behind_header bytes = do
  section ← number_at w32 bytes
  start ← if section.0 == length section.1 && nat_lt section.0 LENGTH_LIMIT then Ok section.1 else Err (length bytes)
  version ← number_at w16 start
  sizes ← if version.0 == VERSION then Ok version.1 else Err (length start)
  before ← constants_at (ADDRESS_SIZE ∷ SEGMENT_SELECTOR_SIZE ∷ []) sizes
  header ← number_at w32 before
  program ← behind_tables header.1
  if header.0 + length program == length header.1 then Ok program else Err (length before)

-- a register that an opcode may set. Without the opcode it keeps its value. The operand is wrong if it is the register's value
unfoldable pub register_at : (opcode : ℕ) → (List ℕ → Result (ℕ × List ℕ) ℕ) → ℕ → List ℕ → Result (ℕ × List ℕ) ℕ
register_at opcode operand old [] = Ok (old, [])
register_at opcode operand old (b ∷ bytes) =
    if b == opcode then operand bytes >>= (λ new. if new.0 == old then Err (length bytes) else Ok new)
    else Ok (old, b ∷ bytes)

-- the address, and the bytes left from the operand on if it is advanced, for the later check of an advance by 0. Before a
-- sequence's first row the address doesn't advance
unfoldable pub advance_at : (first : Bool) → ℕ → List ℕ → Result (Advance × List ℕ) ℕ
advance_at true from bytes = Ok (record { address = from; operand = None }, bytes)
advance_at false from [] = Ok (record { address = from; operand = None }, [])
advance_at false from (b ∷ bytes) =
    if b == DW_LNS_advance_pc then advanced_at from bytes >>= (λ to. Ok (record { address = to.0; operand = Some (length bytes) }, to.1))
    else Ok (record { address = from; operand = None }, b ∷ bytes)

-- a row of the registers. An advance of the address by 0 before it is wrong at its operand
unfoldable pub copied_at : (before : Row) → Row → Option ℕ → List ℕ → Result (Group × List ℕ) ℕ
copied_at before r None rest = Ok (Copied r, rest)
copied_at before r (Some left) rest = if r.address == before.address then Err left else Ok (Copied r, rest)

-- the end of a sequence: it follows an advance of the address, with all other registers unchanged
unfoldable pub ended_at : (before : Row) → Row → Option ℕ → List ℕ → Result (Group × List ℕ) ℕ
ended_at before r None rest = Err (suc (length rest))
ended_at before r (Some left) rest =
    if r.file == before.file && (r.column == before.column && r.line == before.line)
    then constants_at (1 ∷ DW_LNE_end_sequence ∷ []) rest >>= (λ after. Ok (Ended r.address, after))
    else Err (suc (length rest))

-- the opcode after those that set the registers: a copy, or a sequence's end
unfoldable pub closed_at : (before : Row) → Row → Option ℕ → List ℕ → Result (Group × List ℕ) ℕ
closed_at before r operand [] = Err 0
closed_at before r operand (b ∷ rest) =
    if b == DW_LNS_copy then copied_at before r operand rest
    else if b == EXTENDED_OPCODE then ended_at before r operand rest
    else Err (suc (length rest))

-- the opcodes of one row, or of a sequence's end. Those that set registers come in this order
unfoldable pub group_at : (first : Bool) → Row → List ℕ → Result (Group × List ℕ) ℕ
group_at first before bytes = do
  file ← register_at DW_LNS_set_file (uleb_at (2 ^ 32)) before.file bytes
  column ← register_at DW_LNS_set_column (uleb_at (2 ^ 32)) before.column file.1
  address ← advance_at first before.address column.1
  line ← register_at DW_LNS_advance_line (line_at before.line) before.line address.1
  closed_at before (record { address = address.0.address; file = file.0; line = line.0; column = column.0 }) address.0.operand line.1

-- the start of a sequence: DW_LNE_set_address with its first address
unfoldable pub start_at : List ℕ → Result (ℕ × List ℕ) ℕ
start_at bytes = constants_at (EXTENDED_OPCODE ∷ 9 ∷ DW_LNE_set_address ∷ []) bytes >>= number_at w64

-- the rows of a sequence and its end are at the front, with the registers set to the row `before`
pub data Rows : (first : Bool) (before : Row) (bytes : List ℕ) (rows : List Row) (end : ℕ) (rest : List ℕ) → Type 0 where
  LastRow : {first : Bool} {before : Row} {bytes : List ℕ} {end : ℕ} {rest : List ℕ}
      → group_at first before bytes ≡ Ok (Ended end, rest) → Rows first before bytes [] end rest
  NextRow : {first : Bool} {before r : Row} {bytes after : List ℕ} {rows : List Row} {end : ℕ} {rest : List ℕ}
      → group_at first before bytes ≡ Ok (Copied r, after) → Rows false r after rows end rest → Rows first before bytes (r ∷ rows) end rest

-- the first wrong field of a sequence's rows
pub data RowsFault : (first : Bool) (before : Row) (bytes : List ℕ) (left : ℕ) → Type 0 where
  InRow : {first : Bool} {before : Row} {bytes : List ℕ} {left : ℕ} → group_at first before bytes ≡ Err left → RowsFault first before bytes left
  InLaterRow : {first : Bool} {before r : Row} {bytes after : List ℕ} {left : ℕ}
      → group_at first before bytes ≡ Ok (Copied r, after) → RowsFault false r after left → RowsFault first before bytes left

-- the bytes are the program of these sequences
pub data Program : (bytes : List ℕ) (sequences : List Sequence) → Type 0 where
  NoSequence : Program [] []
  NextSequence : {bytes after rest : List ℕ} {start end : ℕ} {rows : List Row} {sequences : List Sequence}
      → start_at bytes ≡ Ok (start, after) → Rows true (registers_at start) after rows end rest → Program rest sequences
      → Program bytes (record { rows = rows; end = end } ∷ sequences)

-- the first wrong field of a program, by the number of bytes left from it on
pub data ProgramFault : (bytes : List ℕ) (left : ℕ) → Type 0 where
  InStart : {bytes : List ℕ} {left : ℕ} → bytes ≢ [] → start_at bytes ≡ Err left → ProgramFault bytes left
  InRows : {bytes after : List ℕ} {start left : ℕ}
      → start_at bytes ≡ Ok (start, after) → RowsFault true (registers_at start) after left → ProgramFault bytes left
  InLaterSequence : {bytes after rest : List ℕ} {start end left : ℕ} {rows : List Row}
      → start_at bytes ≡ Ok (start, after) → Rows true (registers_at start) after rows end rest → ProgramFault rest left → ProgramFault bytes left

-- the first wrong field of a section, by the number of bytes left from it on
pub data SectionFault (bytes : List ℕ) (left : ℕ) : Type 0 where
  InHeader : behind_header bytes ≡ Err left → SectionFault bytes left
  InProgram : (program : List ℕ) → behind_header bytes ≡ Ok program → ProgramFault program left → SectionFault bytes left

-- the offset of the first wrong field of a section
pub record FirstFault (bytes : List ℕ) (at : ℕ) : Type 0 where
  pub left : ℕ
  pub fault : SectionFault bytes left
  pub place : at ≡ length bytes - left

-- the bytes are the section of a table, whose rows and numbers are in range
pub record IsSection (bytes : List ℕ) (t : LineTable) : Type 0 where
  pub spelled : bytes ≡ spelling t
  pub size : length bytes < 4 + LENGTH_LIMIT
  pub names : HasNames t
  pub sequences : All IsSequence t.sequences
  pub fits : Fits t
