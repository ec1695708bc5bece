-- A sequence with prologue_end is the one without, with the opcode before the copy of its second row.
use Rattle.std.proofs.Common.{◌≡◌, ℕ, ◌+◌, ◌-◌, ◌<◌, ◌≤◌, List, [], ◌∷◌, ◌++◌, length, take, drop, get_or, arith, ap, sym, ◌∙◌, refl, append_assoc, length-append}
use Rattle.std.proofs.lemmas.List.{take_at, drop_at}
use Rattle.dwarf_base.specs.Leb.{uleb_of, groups}
use Rattle.dwarf_line.specs.declared.table.Row.{Row}
use Rattle.dwarf_line.specs.Standard.{DW_LNS_copy, DW_LNS_advance_pc}
use Rattle.dwarf_line.specs.Spelling.{changing, set_file, set_column, advance_pc, advance_line, set_address, end_sequence, row, rows_to, registers_at}
use Rattle.dwarf_line.specs.Spelling.{sequence as plain_sequence}
use Rattle.prologue_lines.specs.Spelling.{DW_LNS_set_prologue_end, sequence}

-- the opcodes for registers that change
abbrev pub opcodes : (before r : Row) → List ℕ
opcodes before r =
    changing before.file r.file (set_file r.file)
    ++ changing before.column r.column (set_column r.column)
    ++ changing before.address r.address (advance_pc before.address r.address)
    ++ changing before.line r.line (advance_line before.line r.line)

pub row_is : (before r : Row) → row before r ≡ opcodes before r ++ DW_LNS_copy ∷ []
unfolding row
row_is before r = refl

-- a sequence before the copy of its second row
abbrev pub front : (first second : Row) → List ℕ
front first second = set_address first.address ++ (row (registers_at first.address) first ++ opcodes first second)

split_at_copy : (ys opened closing rest : List ℕ) → ys ++ ((opened ++ closing) ++ rest) ≡ (ys ++ opened) ++ (closing ++ rest)
split_at_copy ys opened closing rest = ap (λ (zs : List ℕ). ys ++ zs) (append_assoc opened closing rest) ∙ sym (append_assoc ys opened (closing ++ rest))

pub plain_front : (first second : Row) (rows : List Row) (end : ℕ)
    → plain_sequence (record { rows = first ∷ second ∷ rows; end = end }) ≡ front first second ++ DW_LNS_copy ∷ rows_to second rows end
plain_front first second rows end =
    let start : List ℕ = row (registers_at first.address) first in
    ap (λ (zs : List ℕ). set_address first.address ++ (start ++ (zs ++ rows_to second rows end))) (row_is first second)
    ∙ ap (λ (zs : List ℕ). set_address first.address ++ zs)
    (split_at_copy start (opcodes first second) (DW_LNS_copy ∷ []) (rows_to second rows end))

pub marked_front : (first second : Row) (rows : List Row) (end : ℕ)
    → sequence (record { rows = first ∷ second ∷ rows; end = end }) ≡ front first second ++ DW_LNS_set_prologue_end ∷ DW_LNS_copy ∷ rows_to second rows end
marked_front first second rows end =
    let start : List ℕ = row (registers_at first.address) first in
    ap (λ (zs : List ℕ). set_address first.address ++ zs)
    (split_at_copy start (opcodes first second) (DW_LNS_set_prologue_end ∷ DW_LNS_copy ∷ []) (rows_to second rows end))

-- an advance by nothing
still : (a : ℕ) → advance_pc a a ≡ DW_LNS_advance_pc ∷ 0 ∷ []
unfolding uleb_of groups
still a = let none : a - a ≡ 0 = omega arith in ap (λ (n : ℕ). DW_LNS_advance_pc ∷ uleb_of n) none

pub front_long : (first second : Row)
    → length (plain_sequence (record { rows = first ∷ second ∷ []; end = second.address })) ≡ length (front first second) + 6
front_long first second =
    ap (λ (zs : List ℕ). length zs) (plain_front first second [] second.address)
    ∙ ap (λ (zs : List ℕ). length (front first second ++ DW_LNS_copy ∷ (zs ++ end_sequence))) (still second.address)
    ∙ length-append (front first second) (DW_LNS_copy ∷ DW_LNS_advance_pc ∷ 0 ∷ end_sequence)

-- the bytes with the opcode in its place
pub marked : (first second : Row) (rows : List Row) (end at : ℕ)
    → at + 6 ≡ length (plain_sequence (record { rows = first ∷ second ∷ []; end = second.address }))
    → take at (plain_sequence (record { rows = first ∷ second ∷ rows; end = end })) ++ DW_LNS_set_prologue_end
    ∷ drop at (plain_sequence (record { rows = first ∷ second ∷ rows; end = end }))
    ≡ sequence (record { rows = first ∷ second ∷ rows; end = end })
marked first second rows end at is =
    let here : length (front first second) ≡ at = omega (arith, is, front_long first second) in
    let behind : List ℕ = DW_LNS_copy ∷ rows_to second rows end in
    ap (λ (zs : List ℕ). take at zs ++ DW_LNS_set_prologue_end ∷ drop at zs) (plain_front first second rows end)
    ∙ ap (λ (zs : List ℕ). zs ++ DW_LNS_set_prologue_end ∷ drop at (front first second ++ behind)) (take_at (front first second) behind at here)
    ∙ ap (λ (zs : List ℕ). front first second ++ DW_LNS_set_prologue_end ∷ zs) (drop_at (front first second) behind at here)
    ∙ sym (marked_front first second rows end)

-- the opcode stands within
pub front_within : (first second : Row) (rows : List Row) (end at : ℕ)
    → at + 6 ≡ length (plain_sequence (record { rows = first ∷ second ∷ []; end = second.address }))
    → at ≤ length (plain_sequence (record { rows = first ∷ second ∷ rows; end = end }))
front_within first second rows end at is =
    let long = ap (λ (zs : List ℕ). length zs) (plain_front first second rows end) in
    omega (arith, is, front_long first second, long, length-append (front first second) (DW_LNS_copy ∷ rows_to second rows end))

-- the same of any rows, of which there are two
pub marked_at : (rows : List Row) (end at : ℕ) (d e : Row) (plain made : List ℕ) → 2 ≤ length rows → plain ≡ plain_sequence (record { rows = rows; end = end })
    → at + 6 ≡ length (plain_sequence (record { rows = get_or rows 0 d ∷ get_or rows 1 e ∷ []; end = (get_or rows 1 e).address }))
    → made ≡ take at plain ++ DW_LNS_set_prologue_end ∷ drop at plain → made ≡ sequence (record { rows = rows; end = end })
marked_at [] end at d e plain made two whole is so = absurd (omega (arith, two))
marked_at (r ∷ []) end at d e plain made two whole is so = absurd (omega (arith, two))
marked_at (r ∷ s ∷ rows) end at d e plain made two whole is so =
    so ∙ ap (λ (zs : List ℕ). take at zs ++ DW_LNS_set_prologue_end ∷ drop at zs) whole ∙ marked r s rows end at is

pub within_at : (rows : List Row) (end at : ℕ) (d e : Row) (plain : List ℕ) → 2 ≤ length rows → plain ≡ plain_sequence (record { rows = rows; end = end })
    → at + 6 ≡ length (plain_sequence (record { rows = get_or rows 0 d ∷ get_or rows 1 e ∷ []; end = (get_or rows 1 e).address })) → at ≤ length plain
within_at [] end at d e plain two whole is = absurd (omega (arith, two))
within_at (r ∷ []) end at d e plain two whole is = absurd (omega (arith, two))
within_at (r ∷ s ∷ rows) end at d e plain two whole is =
    let long = ap (λ (zs : List ℕ). length zs) whole in omega (arith, long, front_within r s rows end at is)

-- fewer rows have none
pub plain_alone : (rows : List Row) (end : ℕ) (made : List ℕ) → length rows < 2 → made ≡ plain_sequence (record { rows = rows; end = end })
    → made ≡ sequence (record { rows = rows; end = end })
plain_alone [] end made few is = is
plain_alone (r ∷ []) end made few is = is
plain_alone (r ∷ s ∷ rows) end made few is = absurd (omega (arith, few))
