-- How the loops of the reader go on and end.
use Rattle.std.proofs.Common.{◌≡◌, ◌≢◌, ℕ, suc, ◌+◌, ◌-◌, ◌^◌, ◌<◌, ◌≤◌, List, [], ◌∷◌, ◌++◌, length, drop, Bool, true, false, eqb, Result, Ok, Err, arith, ap}
use Rattle.std.proofs.Common.{subst, sym, ◌∙◌, refl, append_assoc, append-nil, length-append}
use Rattle.std.proofs.lemmas.Bool.{eqb-false}
use Rattle.std.proofs.lemmas.List.{drop_more, nil_from_length}
use Rattle.dwarf_line.specs.declared.read.ReadError.{ReadError}
use Rattle.dwarf_line.specs.declared.read.ReadError.TheVariants.{Memory, Left}
use Rattle.dwarf_line.specs.Fields.{constants_at, behind_text, uleb_at}
use Rattle.dwarf_line.specs.declared.table.Row.{Row}
use Rattle.dwarf_line.specs.declared.table.Sequence.{Sequence}
use Rattle.dwarf_line.specs.declared.read.Group.{Group}
use Rattle.dwarf_line.specs.declared.read.Group.TheVariants.{Copied, Ended}
use Rattle.dwarf_line.specs.Table.{IsRow}
use Rattle.dwarf_line.specs.Spelling.{changing, set_file, set_column, advance_pc, advance_line, row, rows_to, set_address, registers_at}
use Rattle.dwarf_line.specs.FirstFault.{behind_dirs, behind_files, group_at, Rows, LastRow, NextRow, RowsFault, InRow, InLaterRow, start_at, Program}
use Rattle.dwarf_line.specs.FirstFault.{NoSequence}
use Rattle.dwarf_line.specs.FirstFault.{NextSequence, ProgramFault, InStart, InRows, InLaterSequence}
use Rattle.dwarf_line.specs.steps.Gives.{Fails, Faults}
use Rattle.dwarf_line.proofs.Groups.{group_takes}
use Rattle.dwarf_line.proofs.Fixed.{IsBytes, IsBytes-behind}
use Rattle.dwarf_line.proofs.Program.{rows_take, start_takes, begins_row}

-- no byte is left for a field
pub constants_ended : (fields rest bytes : List ℕ) (i : ℕ) → i < length fields → length rest < 1 → constants_at (drop i fields) rest ≡ constants_at fields bytes
    → constants_at fields bytes ≡ Err 0
constants_ended fields rest bytes i inside ended so_far =
    let nothing : rest ≡ [] = nil_from_length rest (omega arith) in
    sym so_far ∙ ap (constants_at (drop i fields)) nothing ∙ ap (λ fs. constants_at fs []) (drop_more fields i 0 inside)

-- one directory more
pub dirs_more : (count i : ℕ) (rest after bytes : List ℕ) → i < count → behind_text rest ≡ Ok after → behind_dirs (count - i) rest ≡ behind_dirs count bytes
    → behind_dirs (count - (i + 1)) after ≡ behind_dirs count bytes
unfolding behind_dirs
dirs_more count i rest after bytes inside read so_far =
    let k : count - i ≡ suc (count - (i + 1)) = omega arith in
    let one : behind_dirs (count - i) rest ≡ behind_dirs (count - (i + 1)) after = rw (k, read) refl in
    sym one ∙ so_far

pub dirs_fault : (e : ReadError) (count i : ℕ) (rest bytes : List ℕ) → i < count → Fails e (behind_text rest)
    → behind_dirs (count - i) rest ≡ behind_dirs count bytes
    → Fails e (behind_dirs count bytes)
unfolding behind_dirs
dirs_fault Memory count i rest bytes inside read so_far = tt
dirs_fault (Left left) count i rest bytes inside read so_far =
    let k : count - i ≡ suc (count - (i + 1)) = omega arith in
    let one : behind_dirs (count - i) rest ≡ Err left = rw (k, read) refl in
    sym so_far ∙ one

pub dirs_done : (count i : ℕ) (rest bytes : List ℕ) → count ≤ i → behind_dirs (count - i) rest ≡ behind_dirs count bytes → behind_dirs count bytes ≡ Ok rest
unfolding behind_dirs
dirs_done count i rest bytes above so_far =
    let k : count - i ≡ 0 = omega arith in
    let one : behind_dirs (count - i) rest ≡ Ok rest = rw k refl in
    sym so_far ∙ one

-- one file more
pub files_more : (count i : ℕ) (rest name after bytes : List ℕ) (dir : ℕ) → i < count → behind_text rest ≡ Ok name → uleb_at (2 ^ 64) name ≡ Ok (dir, after)
    → behind_files (count - i) rest ≡ behind_files count bytes → behind_files (count - (i + 1)) after ≡ behind_files count bytes
unfolding behind_files
files_more count i rest name after bytes dir inside named numbered so_far =
    let k : count - i ≡ suc (count - (i + 1)) = omega arith in
    let one : behind_files (count - i) rest ≡ behind_files (count - (i + 1)) after = rw (k, named, numbered) refl in
    sym one ∙ so_far

pub files_fault : (e : ReadError) (count i : ℕ) (rest bytes : List ℕ) → i < count → Fails e (behind_text rest)
    → behind_files (count - i) rest ≡ behind_files count bytes
    → Fails e (behind_files count bytes)
unfolding behind_files
files_fault Memory count i rest bytes inside read so_far = tt
files_fault (Left left) count i rest bytes inside read so_far =
    let k : count - i ≡ suc (count - (i + 1)) = omega arith in
    let one : behind_files (count - i) rest ≡ Err left = rw (k, read) refl in
    sym so_far ∙ one

pub files_fault_behind : (e : ReadError) (count i : ℕ) (rest name bytes : List ℕ) → i < count → behind_text rest ≡ Ok name → Fails e (uleb_at (2 ^ 64) name)
    → behind_files (count - i) rest ≡ behind_files count bytes → Fails e (behind_files count bytes)
unfolding behind_files
files_fault_behind Memory count i rest name bytes inside named read so_far = tt
files_fault_behind (Left left) count i rest name bytes inside named read so_far =
    let k : count - i ≡ suc (count - (i + 1)) = omega arith in
    let one : behind_files (count - i) rest ≡ Err left = rw (k, named, read) refl in
    sym so_far ∙ one

pub files_done : (count i : ℕ) (rest bytes : List ℕ) → count ≤ i → behind_files (count - i) rest ≡ behind_files count bytes → behind_files count bytes ≡ Ok rest
unfolding behind_files
files_done count i rest bytes above so_far =
    let k : count - i ≡ 0 = omega arith in
    let one : behind_files (count - i) rest ≡ Ok rest = rw k refl in
    sym so_far ∙ one

-- ---- the rows of a sequence

abbrev given : Group → List ℕ → Result (Group × List ℕ) ℕ
given g rest = Ok (g, rest)

pub group_fault : (e : ReadError) (first : Bool) (before : Row) (rest : List ℕ) (fault : ℕ → Type 0) → Fails e (group_at first before rest)
    → ((left : ℕ) → RowsFault first before rest left → fault left) → Faults e fault
group_fault Memory first before rest fault fails whole = tt
group_fault (Left left) first before rest fault fails whole = whole left (InRow fails)

pub group_smaller : (first : Bool) (before : Row) (rest : List ℕ) (g : Group) (r : Row) (after : List ℕ) → IsRow before
    → group_at first before rest ≡ Ok (g, after) → g ≡ Copied r
    → length after < length rest
unfolding row
group_smaller first before rest g r after fits e is =
    let copied = group_takes first before rest (Copied r) after fits (e ∙ ap (λ h. given h after) is) in
    omega (arith, ap length copied.spelled, length-append (row before r) after, length-append (row_front before r) (1 ∷ []))
  where
    row_front : (before r : Row) → List ℕ
    row_front before r =
        changing before.file r.file (set_file r.file) ++ changing before.column r.column (set_column r.column)
        ++ changing before.address r.address (advance_pc before.address r.address) ++ changing before.line r.line (advance_line before.line r.line)

pub row_fits : (first : Bool) (before : Row) (rest : List ℕ) (g : Group) (r : Row) (after : List ℕ) → IsRow before
    → group_at first before rest ≡ Ok (g, after) → g ≡ Copied r → IsRow r
row_fits first before rest g r after fits e is = (group_takes first before rest (Copied r) after fits (e ∙ ap (λ h. given h after) is)).fits

-- one row more is read
pub reads_more : (first : Bool) (before : Row) (rest : List ℕ) (g : Group) (r : Row) (after : List ℕ) (start : Row) (bytes : List ℕ)
    (so_far pushed rows : List Row) (end : ℕ) (behind : List ℕ)
    → group_at first before rest ≡ Ok (g, after) → g ≡ Copied r → pushed ≡ so_far ++ r ∷ []
    → ((rows : List Row) (end : ℕ) (behind : List ℕ) → Rows first before rest rows end behind → Rows true start bytes (so_far ++ rows) end behind)
    → Rows false r after rows end behind → Rows true start bytes (pushed ++ rows) end behind
reads_more first before rest g r after start bytes so_far pushed rows end behind e is push whole reads =
    subst (λ rs. Rows true start bytes rs end behind) (sym (append_assoc so_far (r ∷ []) rows) ∙ ap (λ x. x ++ rows) (sym push))
    (whole (r ∷ rows) end behind (NextRow (e ∙ ap (λ h. given h after) is) reads))

pub reads_all : (first : Bool) (before : Row) (rest : List ℕ) (g : Group) (end : ℕ) (after : List ℕ) (start : Row) (bytes : List ℕ) (so_far : List Row)
    → group_at first before rest ≡ Ok (g, after) → g ≡ Ended end
    → ((rows : List Row) (end : ℕ) (behind : List ℕ) → Rows first before rest rows end behind → Rows true start bytes (so_far ++ rows) end behind)
    → Rows true start bytes so_far end after
reads_all first before rest g end after start bytes so_far e is whole =
    subst (λ rs. Rows true start bytes rs end after) (append-nil so_far) (whole [] end after (LastRow (e ∙ ap (λ h. given h after) is)))

pub fault_more : (first : Bool) (before : Row) (rest : List ℕ) (g : Group) (r : Row) (after : List ℕ) (start : Row) (bytes : List ℕ) (left : ℕ)
    → group_at first before rest ≡ Ok (g, after) → g ≡ Copied r → ((left : ℕ) → RowsFault first before rest left → RowsFault true start bytes left)
    → RowsFault false r after left → RowsFault true start bytes left
fault_more first before rest g r after start bytes left e is whole fault = whole left (InLaterRow (e ∙ ap (λ h. given h after) is) fault)

-- ---- the sequences of a program

pub start_fault : (e : ReadError) (rest : List ℕ) (fault : ℕ → Type 0) → rest ≢ [] → Fails e (start_at rest)
    → ((left : ℕ) → ProgramFault rest left → fault left) → Faults e fault
start_fault Memory rest fault some fails whole = tt
start_fault (Left left) rest fault some fails whole = whole left (InStart some fails)

pub sequence_fault : (e : ReadError) (rest rows : List ℕ) (start : ℕ) (fault : ℕ → Type 0) → start_at rest ≡ Ok (start, rows)
    → Faults e (λ left. RowsFault true (registers_at start) rows left) → ((left : ℕ) → ProgramFault rest left → fault left) → Faults e fault
sequence_fault Memory rest rows start fault e fails whole = tt
sequence_fault (Left left) rest rows start fault e fails whole = whole left (InRows e fails)

-- a sequence that is read leaves fewer bytes
pub record Behind (rest after : List ℕ) : Type 0 where
  pub are : IsBytes after
  pub fewer : length after < length rest

pub sequence_behind : (rest rows after : List ℕ) (start end : ℕ) (rs : List Row) → IsBytes rest → start_at rest ≡ Ok (start, rows)
    → Rows true (registers_at start) rows rs end after → Behind rest after
sequence_behind rest rows after start end rs are e reads =
    let begin = start_takes rest start rows are e in
    let is = rows_take (begins_row start begin.1) reads in
    let rows_are : IsBytes rows = IsBytes-behind rest (set_address start) rows begin.0 are in
    record {
      are = IsBytes-behind rows (rows_to (registers_at start) rs end) after is.spelled rows_are;
      fewer = omega (arith, ap length begin.0, ap length is.spelled, length-append (rows_to (registers_at start) rs end) after);
    }

pub sequences_more : (rest rows after bytes : List ℕ) (start : ℕ) (s : Sequence) (so_far pushed ss : List Sequence) → start_at rest ≡ Ok (start, rows)
    → Rows true (registers_at start) rows s.rows s.end after → pushed ≡ so_far ++ s ∷ []
    → ((ss : List Sequence) → Program rest ss → Program bytes (so_far ++ ss)) → Program after ss → Program bytes (pushed ++ ss)
sequences_more rest rows after bytes start s so_far pushed ss e reads push whole behind =
    subst (λ xs. Program bytes xs) (sym (append_assoc so_far (s ∷ []) ss) ∙ ap (λ x. x ++ ss) (sym push)) (whole (s ∷ ss) (NextSequence e reads behind))

pub sequences_all : (rest bytes : List ℕ) (so_far : List Sequence) → length rest ≡ 0
    → ((ss : List Sequence) → Program rest ss → Program bytes (so_far ++ ss)) → Program bytes so_far
sequences_all rest bytes so_far ended whole =
    subst (λ xs. Program bytes xs) (append-nil so_far) (whole [] (subst (λ x. Program x []) (sym (nil_from_length rest ended)) NoSequence))

pub sequences_fault : (rest rows after bytes : List ℕ) (start : ℕ) (s : Sequence) (left : ℕ) → start_at rest ≡ Ok (start, rows)
    → Rows true (registers_at start) rows s.rows s.end after → ((left : ℕ) → ProgramFault rest left → ProgramFault bytes left)
    → ProgramFault after left → ProgramFault bytes left
sequences_fault rest rows after bytes start s left e reads whole fault = whole left (InLaterSequence e reads fault)

pub some_left : (rest : List ℕ) (b : Bool) → b ≡ eqb (length rest) 0 → b ≡ false → rest ≢ []
some_left rest b is not_empty e = eqb-false (length rest) 0 (sym is ∙ not_empty) (ap length e)
