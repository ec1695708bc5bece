-- A section is read exactly where it is that of a table, and then its sequences are read.
use Rattle.std.specs.Prelude.{All, MatchResult}
use Rattle.std.specs.List.{AllByRecursion}
use Rattle.std.proofs.Common.{◌≡◌, ℕ, ◌+◌, ◌-◌, ◌^◌, ◌<◌, true, List, [], ◌∷◌, ◌++◌, length, Result, Ok, Err, arith, ap, subst, sym, ◌∙◌, refl, append_assoc}
use Rattle.std.proofs.Common.{length-append}
use Rattle.std.proofs.lemmas.List.Elements.{recursion_from_All, All-from_recursion}
use Rattle.dwarf_line.specs.declared.table.FileEntry.{FileEntry}
use Rattle.dwarf_line.specs.declared.table.Row.{Row}
use Rattle.dwarf_line.specs.declared.table.Sequence.{Sequence}
use Rattle.dwarf_line.specs.declared.table.LineTable.{LineTable}
use Rattle.dwarf_line.specs.Table.{HasRows, IsSequence, IsName, IsNamed, IsNumbered, IsRow, HasRange}
use Rattle.dwarf_line.specs.Spelling.{tables, rows_to, set_address, registers_at, program, header, spelling}
use Rattle.dwarf_line.specs.FirstFault.{behind_header, Rows, start_at, Program, NoSequence, NextSequence, ProgramFault, InStart, InRows, InLaterSequence}
use Rattle.dwarf_line.specs.FirstFault.{SectionFault, InHeader, InProgram, FirstFault, IsSection}
use Rattle.dwarf_line.specs.declared.read.ReadError.{ReadError}
use Rattle.dwarf_line.specs.declared.read.ReadError.TheVariants.{Memory, Left}
use Rattle.dwarf_line.specs.steps.Gives.{Faults, Reads}
use Rattle.dwarf_line.proofs.Groups.{ok_is, not_ok}
use Rattle.dwarf_line.proofs.Fixed.{IsBytes, IsBytes-behind}
use Rattle.dwarf_line.proofs.Program.{AreRows, rows_take, rows_again, rows_apart, rows_one, start_takes, start_again, begins_row}
use Rattle.dwarf_line.proofs.Header.{HasNoZero, IsFile, tables_of, header_take, header_again}

-- what a sequence keeps that can be written
pub record IsWritten (s : Sequence) : Type 0 where
  pub rows : HasRows s.rows s.end
  pub fits : AllByRecursion IsRow s.rows
  pub end : s.end < 2 ^ 64

-- ---- the program

pub record AreSequences (bytes : List ℕ) (sequences : List Sequence) : Type 0 where
  pub spelled : bytes ≡ program sequences
  pub are : AllByRecursion IsWritten sequences

pub program_takes : {bytes : List ℕ} {sequences : List Sequence} → IsBytes bytes → Program bytes sequences → AreSequences bytes sequences
program_takes are NoSequence = record { spelled = refl; are = tt }
program_takes {bytes} are (NextSequence {after = after} {rest = rest} {start = start} {end = end} {rows = rows} {sequences = others} e reads later) =
    let begin = start_takes bytes start after are e in
    let is = rows_take (begins_row start begin.1) reads in
    let are_after : IsBytes after = IsBytes-behind bytes (set_address start) after begin.0 are in
    let next = program_takes (IsBytes-behind after (rows_to (registers_at start) rows end) rest is.spelled are_after) later in
    one start rows begin.0 is next
  where
    one : (start : ℕ) (rows : List Row) → bytes ≡ set_address start ++ after → AreRows true (registers_at start) after rows end rest → AreSequences rest others
        → AreSequences bytes (record { rows = rows; end = end } ∷ others)
    one start [] begin is next = absurd (is.begins refl)
    one start (r ∷ rows) begin is next =
        let first : r.address ≡ start = is.begins refl in
        record {
          spelled =
              begin ∙ ap (λ x. set_address start ++ x) (is.spelled ∙ ap (λ x. rows_to (registers_at start) (r ∷ rows) end ++ x) next.spelled)
              ∙ sym (append_assoc (set_address start) (rows_to (registers_at start) (r ∷ rows) end) (program others))
              ∙ ap (λ n. (set_address n ++ rows_to (registers_at n) (r ∷ rows) end) ++ program others) (sym first);
          are = (record { rows = is.ascend.1; fits = is.fits; end = is.end_fits }, next.are);
        }

pub program_again : (sequences : List Sequence) → AllByRecursion IsWritten sequences → Program (program sequences) sequences
program_again [] are = NoSequence
program_again (s ∷ others) are = one s.rows s.end are.0.rows are.0.fits are.0.end (program_again others are.1)
  where
    one : (rows : List Row) (end : ℕ) → HasRows rows end → AllByRecursion IsRow rows → end < 2 ^ 64 → Program (program others) others
        → Program (program (record { rows = rows; end = end } ∷ others)) (record { rows = rows; end = end } ∷ others)
    one [] end has fits end_fits next = absurd has
    one (r ∷ rows) end has fits end_fits next =
        let first : r.address < 2 ^ 64 = fits.0.address in
        NextSequence
        (ap start_at (append_assoc (set_address r.address) (rows_to (registers_at r.address) (r ∷ rows) end) (program others))
        ∙ start_again r.address (rows_to (registers_at r.address) (r ∷ rows) end ++ program others) first)
        (rows_again true (registers_at r.address) (r ∷ rows) end (program others) fits end_fits (omega arith, has) (λ begun. refl))
        next

-- ---- a wrong field is none that is spelled

one_start : (r : Result (ℕ × List ℕ) ℕ) (a b : ℕ) (x y : List ℕ) → r ≡ Ok (a, x) → r ≡ Ok (b, y) → (a ≡ b) × (x ≡ y)
one_start r a b x y e d = let same = ok_is (a, x) (b, y) (sym e ∙ d) in (ap (λ (p : ℕ × List ℕ). p.0) same, ap (λ (p : ℕ × List ℕ). p.1) same)

-- rows that are read from where a sequence begins are read from there
moved : (a b : ℕ) (x y rest : List ℕ) (rows : List Row) (end : ℕ) → (a ≡ b) × (x ≡ y) → Rows true (registers_at b) y rows end rest
    → Rows true (registers_at a) x rows end rest
moved a b x y rest rows end same reads =
    subst (λ n. Rows true (registers_at n) x rows end rest) (sym same.0) (subst (λ z. Rows true (registers_at b) z rows end rest) (sym same.1) reads)

nothing_starts : (start : ℕ) (after : List ℕ) → start_at [] ≡ Ok (start, after) → ⊥
unfolding start_at
nothing_starts start after e = not_ok 0 (start, after) e

pub program_apart : {bytes : List ℕ} {left : ℕ} {sequences : List Sequence} → ProgramFault bytes left → Program bytes sequences → ⊥
program_apart (InStart some e) NoSequence = some refl
program_apart {bytes} {left} (InStart some e) (NextSequence {after = after} {start = start} d reads later) = not_ok left (start, after) (sym e ∙ d)
program_apart (InRows {after = after} {start = start} e fault) NoSequence = nothing_starts start after e
program_apart {bytes} (InRows {after = x} {start = a} e fault) (NextSequence {after = y} {rest = rest} {start = b} {end = end} {rows = rows} d reads later) =
    rows_apart fault (moved a b x y rest rows end (one_start (start_at bytes) a b x y e d) reads)
program_apart (InLaterSequence {after = after} {start = start} e reads fault) NoSequence = nothing_starts start after e
program_apart {bytes} (InLaterSequence {after = x} {rest = rest} {start = a} {end = end} {rows = rows} e reads fault)
    (NextSequence {after = y} {rest = behind} {start = b} {end = end'} {rows = rows'} {sequences = others} d reads' later) =
    let same = rows_one reads (moved a b x y behind rows' end' (one_start (start_at bytes) a b x y e d) reads') in
    program_apart fault (subst (λ z. Program z others) (sym same.rest) later)

pub program_one : {bytes : List ℕ} {ss ts : List Sequence} → Program bytes ss → Program bytes ts → ss ≡ ts
program_one NoSequence NoSequence = refl
program_one NoSequence (NextSequence {after = after} {start = start} d reads later) = absurd (nothing_starts start after d)
program_one (NextSequence {after = after} {start = start} d reads later) NoSequence = absurd (nothing_starts start after d)
program_one {bytes} (NextSequence {after = x} {rest = rest} {start = a} {end = end} {rows = rows} {sequences = ss} e reads later)
    (NextSequence {after = y} {rest = behind} {start = b} {end = end'} {rows = rows'} {sequences = ts} d reads' later') =
    let same = rows_one reads (moved a b x y behind rows' end' (one_start (start_at bytes) a b x y e d) reads') in
    let next = program_one later (subst (λ z. Program z ts) (sym same.rest) later') in
    let first : sequence_of rows end ≡ sequence_of rows' end' = ap (λ r. sequence_of r end) same.rows ∙ ap (sequence_of rows') same.ends in
    ap (λ s. s ∷ ss) first ∙ ap (λ ts. sequence_of rows' end' ∷ ts) next
  where
    sequence_of : List Row → ℕ → Sequence
    sequence_of rows end = record { rows = rows; end = end }

-- ---- the section

each_of : {X : Type 0} (P Q : X → Type 0) → ((x : X) → P x → Q x) → (xs : List X) → AllByRecursion P xs → AllByRecursion Q xs
each_of P Q weaker [] are = tt
each_of P Q weaker (x ∷ xs) are = (weaker x are.0, each_of P Q weaker xs are.1)

all_of : {X : Type 0} (P Q : X → Type 0) → ((x : X) → P x → Q x) → (xs : List X) → AllByRecursion P xs → All Q xs
all_of P Q weaker xs are = All-from_recursion Q xs (each_of P Q weaker xs are)

name_of : (name : List ℕ) → HasNoZero name → IsName name
name_of name whole = All-from_recursion (λ byte. 0 < byte) name whole

no_zero : (name : List ℕ) → IsName name → HasNoZero name
no_zero name is = recursion_from_All (λ byte. 0 < byte) name is

names_again : (dirs : List (List ℕ)) → All IsName dirs → AllByRecursion HasNoZero dirs
names_again dirs names = each_of IsName HasNoZero no_zero dirs (recursion_from_All IsName dirs names)

both_of : {X : Type 0} (P Q R : X → Type 0) → ((x : X) → P x → Q x → R x) → (xs : List X) → AllByRecursion P xs → AllByRecursion Q xs → AllByRecursion R xs
both_of P Q R together [] ps qs = tt
both_of P Q R together (x ∷ xs) ps qs = (together x ps.0 qs.0, both_of P Q R together xs ps.1 qs.1)

files_again : (files : List FileEntry) → All IsNamed files → All IsNumbered files → AllByRecursion IsFile files
files_again files names numbers =
    both_of IsNamed IsNumbered IsFile (λ f named numbered. record { name = no_zero f.name named; dir = numbered }) files
    (recursion_from_All IsNamed files names)
    (recursion_from_All IsNumbered files numbers)

written_again : (ss : List Sequence) → All IsSequence ss → All HasRange ss → AllByRecursion IsWritten ss
written_again ss sequences ranges =
    both_of IsSequence HasRange IsWritten (λ s is range. record { rows = is; fits = recursion_from_All IsRow s.rows range.0; end = range.1 }) ss
    (recursion_from_All IsSequence ss sequences) (recursion_from_All HasRange ss ranges)

-- what is read is the section of a table
pub section_found : (bytes p : List ℕ) (ss : List Sequence) → IsBytes bytes → behind_header bytes ≡ Ok p → Program p ss
    → (t : LineTable) × IsSection bytes t × (t.sequences ≡ ss)
unfolding spelling tables
section_found bytes p ss are e reads =
    let head = header_take bytes p are e in
    let front : List ℕ = header (8 + length (tables_of head.dirs head.files) + length p)
    (length (tables_of head.dirs head.files)) ++ tables_of head.dirs head.files in
    let joined : bytes ≡ front ++ p =
    head.spelled ∙ sym (append_assoc (header (8 + length (tables_of head.dirs head.files) + length p) (length (tables_of head.dirs head.files)))
    (tables_of head.dirs head.files) p) in
    let sequences = program_takes (IsBytes-behind bytes front p joined are) reads in
    let t : LineTable = record { dirs = head.dirs; files = head.files; sequences = ss } in (
      t,
      record {
        spelled = joined ∙ ap (λ x. header (8 + length (tables_of head.dirs head.files) + length x)
            (length (tables_of head.dirs head.files)) ++ tables_of head.dirs head.files ++ x) sequences.spelled;
        size = head.size;
        names = record {
          dirs = all_of HasNoZero IsName name_of head.dirs head.names;
          files = all_of IsFile IsNamed
              (λ f is. name_of f.name is.name) head.files head.are;
        };
        sequences = all_of IsWritten IsSequence (λ s is. is.rows) ss sequences.are;
        fits = record {
          dirs = head.dir_count;
          files = head.file_count;
          numbers = all_of IsFile IsNumbered (λ f is. is.dir) head.files head.are;
          sequences = all_of IsWritten HasRange (λ s is. (All-from_recursion IsRow s.rows is.fits, is.end)) ss sequences.are;
        };
      },
      refl,
    )

-- and the section of a table is read
pub section_header : (bytes : List ℕ) (t : LineTable) → IsSection bytes t → behind_header bytes ≡ Ok (program t.sequences)
unfolding spelling tables
section_header bytes t is =
    let tb : List ℕ = tables_of t.dirs t.files in
    let p : List ℕ = program t.sequences in
    let long : length (spelling t) ≡ 4 + (8 + length tb + length p) = omega (arith, length-append tb p) in
    ap behind_header (is.spelled ∙ append_assoc (header (8 + length tb + length p) (length tb)) tb p)
    ∙ header_again t.dirs t.files p (names_again t.dirs is.names.dirs) (files_again t.files is.names.files is.fits.numbers) is.fits.dirs is.fits.files
    (omega (arith, long, ap length is.spelled, is.size))

pub section_program : (bytes : List ℕ) (t : LineTable) → IsSection bytes t → Program (program t.sequences) t.sequences
section_program bytes t is = program_again t.sequences (written_again t.sequences is.sequences is.fits.sequences)

-- ---- what the reader answers

pub section_reads : (r : Result (List Sequence) ReadError) (bytes p : List ℕ) → behind_header bytes ≡ Ok p
    → MatchResult r (λ ss. Program p ss) (λ e. Faults e (ProgramFault p))
    → MatchResult r (λ ss. Reads bytes ss) (λ e. Faults e (SectionFault bytes))
section_reads (Ok ss) bytes p e reads = record { behind = p; header = e; reads = reads }
section_reads (Err Memory) bytes p e fault = tt
section_reads (Err (Left left)) bytes p e fault = InProgram p e fault

section_apart : (bytes : List ℕ) (left : ℕ) (t : LineTable) → SectionFault bytes left → IsSection bytes t → ⊥
section_apart bytes left t (InHeader e) is = not_ok left (program t.sequences) (sym e ∙ section_header bytes t is)
section_apart bytes left t (InProgram p e fault) is =
    let same : p ≡ program t.sequences = ok_is p (program t.sequences) (sym e ∙ section_header bytes t is) in
    program_apart fault (subst (λ x. Program x t.sequences) (sym same) (section_program bytes t is))

pub read_only : (bytes : List ℕ) (ss : List Sequence) (t : LineTable) → Reads bytes ss → IsSection bytes t → ss ≡ t.sequences
read_only bytes ss t reads is =
    let same : reads.behind ≡ program t.sequences = ok_is reads.behind (program t.sequences) (sym reads.header ∙ section_header bytes t is) in
    program_one reads.reads (subst (λ x. Program x t.sequences) (sym same) (section_program bytes t is))

pub fault_only : (bytes : List ℕ) (left : ℕ) (e : ReadError) (t : LineTable) (P : Type 0) → e ≡ Left left → Faults e (SectionFault bytes)
    → IsSection bytes t → P
fault_only bytes left e t P is_left fault is = absurd (section_apart bytes left t (subst (λ x. Faults x (SectionFault bytes)) is_left fault) is)

pub first_fault : (bytes : List ℕ) (left : ℕ) (e : ReadError) (at : ℕ) → e ≡ Left left → Faults e (SectionFault bytes) → at ≡ length bytes - left
    → FirstFault bytes at
first_fault bytes left e at is_left fault place =
    record { left = left; fault = subst (λ x. Faults x (SectionFault bytes)) is_left fault; place = place }

pub one_table : (bytes : List ℕ) (a b : LineTable) → IsSection bytes a → IsSection bytes b → a.sequences ≡ b.sequences
one_table bytes a b is_a is_b = read_only bytes a.sequences b
    (record { behind = program a.sequences; header = section_header bytes a is_a; reads = section_program bytes a is_a }) is_b
