-- How much longer the section is with prologue_end.
use Rattle.std.specs.Int.{w16, w32, to_le_bytes}
use Rattle.std.proofs.Common.{◌≡◌, ℕ, ◌+◌, ◌-◌, ◌<◌, ◌≤◌, ◌^◌, cond, List, [], ◌∷◌, ◌++◌, length, take, drop, arith, ap, ◌∙◌, refl, length-append, length-drop}
use Rattle.std.proofs.lemmas.List.{take_at}
use Rattle.std.proofs.lemmas.List.Sums.{sum_by-cons}
use Rattle.dwarf_base.specs.Size.{capped}
use Rattle.dwarf_base.specs.Standard.{VERSION, ADDRESS_SIZE, SEGMENT_SELECTOR_SIZE}
use Rattle.dwarf_line.specs.declared.table.Row.{Row}
use Rattle.dwarf_line.specs.declared.table.Sequence.{Sequence}
use Rattle.dwarf_line.specs.declared.table.LineTable.{LineTable}
use Rattle.dwarf_line.specs.Standard.{DW_LNS_copy}
use Rattle.dwarf_line.specs.Spelling.{header, tables, rows_to}
use Rattle.dwarf_line.specs.Spelling.{sequence as plain_sequence, program as plain_program, spelling as plain_spelling}
use Rattle.prologue_lines.specs.Spelling.{DW_LNS_set_prologue_end, sequence, program, spelling}
use Rattle.prologue_lines.specs.Pieces.{header_of}
use Rattle.prologue_lines.specs.steps.Ends.{has_end, ends_in}
use Rattle.prologue_lines.proofs.Opcodes.{front, plain_front, marked_front}

sequence_ends : (rows : List Row) (end : ℕ) → length (sequence (record { rows = rows; end = end }))
    ≡ cond (has_end (record { rows = rows; end = end })) 1 0 + length (plain_sequence (record { rows = rows; end = end }))
sequence_ends [] end = omega arith
sequence_ends (r ∷ []) end = omega arith
sequence_ends (r ∷ s ∷ rows) end =
    let plain = ap (λ (zs : List ℕ). length zs) (plain_front r s rows end) in
    let marked = ap (λ (zs : List ℕ). length zs) (marked_front r s rows end) in
    omega (
      arith,
      plain,
      marked,
      length-append (front r s) (DW_LNS_copy ∷ rows_to s rows end),
      length-append (front r s) (DW_LNS_set_prologue_end ∷ DW_LNS_copy ∷ rows_to s rows end),
    )

program_ends : (sequences : List Sequence) → length (program sequences) ≡ ends_in sequences + length (plain_program sequences)
program_ends [] = refl
program_ends (s ∷ sequences) =
    let here : length (sequence s) ≡ cond (has_end s) 1 0 + length (plain_sequence s) = sequence_ends s.rows s.end in
    omega (
      arith,
      here,
      sum_by-cons (λ (x : Sequence). cond (has_end x) 1 0) s sequences,
      program_ends sequences,
      length-append (sequence s) (program sequences),
      length-append (plain_sequence s) (plain_program sequences),
    )

long_is : (t : LineTable) → length (spelling t) ≡ 12 + length (tables t) + length (program t.sequences)
unfolding spelling
long_is t =
    let n : ℕ = 8 + length (tables t) + length (program t.sequences) in
    omega (
      arith,
      length-append (header n (length (tables t)) ++ tables t) (program t.sequences),
      length-append (header n (length (tables t))) (tables t),
    )

plain_long : (t : LineTable) → length (plain_spelling t) ≡ 12 + length (tables t) + length (plain_program t.sequences)
unfolding plain_spelling
plain_long t =
    let n : ℕ = 8 + length (tables t) + length (plain_program t.sequences) in
    omega (
      arith,
      length-append (header n (length (tables t)) ++ tables t) (plain_program t.sequences),
      length-append (header n (length (tables t))) (tables t),
    )

pub section_ends : (t : LineTable) → length (spelling t) ≡ ends_in t.sequences + length (plain_spelling t)
section_ends t = omega (arith, long_is t, plain_long t, program_ends t.sequences)

-- ---- the header

-- the header behind the section's length
abbrev header_rest : (header_length : ℕ) → List ℕ
header_rest n = to_le_bytes w16 VERSION ++ (ADDRESS_SIZE ∷ SEGMENT_SELECTOR_SIZE ∷ []) ++ to_le_bytes w32 n

behind_length : (t : LineTable) → drop 4 (plain_spelling t) ≡ (header_rest (length (tables t)) ++ tables t) ++ plain_program t.sequences
unfolding plain_spelling
behind_length t = refl

pub plain_header : (t : LineTable) → 12 ≤ length (plain_spelling t)
plain_header t = omega (arith, plain_long t)

-- the length of the section behind its length, and the end of its header
pub length_after : (t : LineTable) (n ends : ℕ) → n ≡ length (plain_spelling t) → ends ≡ ends_in t.sequences
    → n - 4 + ends ≡ 8 + length (tables t) + length (program t.sequences)
length_after t n ends is counted = omega (arith, is, counted, plain_long t, program_ends t.sequences)

pub header_within : (t : LineTable) (n : ℕ) → n ≡ capped (length (tables t)) → length (spelling t) < 2 ^ 31 → 12 + n ≤ length (plain_spelling t)
header_within t n is size = omega (arith, is, size, plain_long t, section_ends t)

pub bytes_within : (t : LineTable) (n after : ℕ) (bytes section : List ℕ) → n ≡ capped (length (tables t)) → length (spelling t) < 2 ^ 31
    → section ≡ plain_spelling t → bytes ≡ to_le_bytes w32 after ++ drop 4 section → 12 + n ≤ length bytes
bytes_within t n after bytes section is size whole made =
    let long = ap (λ (zs : List ℕ). length zs) made in
    let same = ap (λ (zs : List ℕ). length zs) whole in
    omega (arith, long, same, header_within t n is size, length-drop 4 section, length-append (to_le_bytes w32 after) (drop 4 section))

pub header_made : (t : LineTable) (n after : ℕ) (bytes section : List ℕ) → n ≡ capped (length (tables t)) → length (spelling t) < 2 ^ 31
    → after ≡ 8 + length (tables t) + length (program t.sequences) → section ≡ plain_spelling t → bytes ≡ to_le_bytes w32 after ++ drop 4 section
    → take (12 + n) bytes ≡ header_of t
header_made t n after bytes section is size at whole made =
    let front : List ℕ = header after (length (tables t)) ++ tables t in
    let long : length front ≡ 12 + n =
    omega (arith, length-append (header after (length (tables t))) (tables t), is, size, plain_long t, section_ends t) in
    ap (take (12 + n)) (made ∙ ap (λ (zs : List ℕ). to_le_bytes w32 after ++ drop 4 zs) whole
    ∙ ap (λ (zs : List ℕ). to_le_bytes w32 after ++ zs) (behind_length t))
    ∙ take_at front (plain_program t.sequences) (12 + n) long
    ∙ ap (λ (k : ℕ). header k (length (tables t)) ++ tables t) at
