-- The section where code lies at another address.
use Rattle.std.specs.Prelude.{All}
use Rattle.std.specs.List.{AllByRecursion, flat_map}
use Rattle.std.specs.Int.{w64, to_le_bytes}
use Rattle.std.proofs.Common.{◌≡◌, ℕ, ◌+◌, ◌≤◌, ◌<◌, ◌^◌, List, [], ◌∷◌, ◌++◌, length, map, arith, ap, sym, ◌∙◌, refl, append-nil, length-append}
use Rattle.std.proofs.lemmas.List.Elements.{All-from_recursion, recursion_from_All}
use Rattle.dwarf_line.specs.declared.table.Row.{Row}
use Rattle.dwarf_line.specs.declared.table.Sequence.{Sequence}
use Rattle.dwarf_line.specs.declared.table.LineTable.{LineTable}
use Rattle.dwarf_line.specs.Standard.{EXTENDED_OPCODE, DW_LNE_set_address, DW_LNS_copy}
use Rattle.dwarf_line.specs.Spelling.{set_address, row, rows_to, registers_at, header, tables}
use Rattle.dwarf_line.specs.Table.{HasRows, IsSequence}
use Rattle.elf_relocation.specs.Applied.{applied}
use Rattle.elf_content.specs.Content.{written, placed, relocations_from, symbol_address, IsWhole}
use Rattle.elf_content.proofs.Pieces.{content_placed}
use Rattle.debug_placement.specs.Lines.{moved_row, moved_sequence, moved_table, EndsBelow}
use Rattle.debug_placement.proofs.Placing.{placed-append, address_placed}
use Rattle.debug_placement.proofs.LineProofs.{opcodes_moved, row_moved, rows_moved, ends, tables_moved}
use Rattle.prologue_lines.specs.Spelling.{DW_LNS_set_prologue_end, prologue_row, rows_behind, function_rows, sequence, program, spelling}
use Rattle.prologue_lines.specs.Pieces.{header_of, sequence_pieces, line_pieces}

-- ---- rows see differences of addresses alone

prologue_moved : (b : ℕ) (before r : Row) → prologue_row (moved_row b before) (moved_row b r) ≡ prologue_row before r
prologue_moved b before r = opcodes_moved b before r (DW_LNS_set_prologue_end ∷ DW_LNS_copy ∷ [])

behind_moved : (b : ℕ) (before : Row) (rows : List Row) (end : ℕ)
    → rows_behind (moved_row b before) (map (moved_row b) rows) (b + end) ≡ rows_behind before rows end
behind_moved b before [] end = rows_moved b before [] end
behind_moved b before (r ∷ rows) end =
    ap (λ (ys : List ℕ). ys ++ rows_to (moved_row b r) (map (moved_row b) rows) (b + end)) (prologue_moved b before r)
    ∙ ap (λ (ys : List ℕ). prologue_row before r ++ ys) (rows_moved b r rows end)

function_moved : (b : ℕ) (rows : List Row) (end : ℕ) → HasRows rows end → function_rows (map (moved_row b) rows) (b + end) ≡ function_rows rows end
function_moved b [] end has = absurd has
function_moved b (r ∷ rows) end has =
    ap (λ (ys : List ℕ). ys ++ rows_behind (moved_row b r) (map (moved_row b) rows) (b + end)) (row_moved b (registers_at r.address) r)
    ∙ ap (λ (ys : List ℕ). row (registers_at r.address) r ++ ys) (behind_moved b r rows end)

-- ---- sequences

sequence_placed : (place : ℕ) (addresses : List ℕ) (text : ℕ) (rows : List Row) (end : ℕ) → HasRows rows end → symbol_address addresses text + end < 2 ^ 64
    → placed place addresses (sequence_pieces text (record { rows = rows; end = end }))
    ≡ sequence (moved_sequence (symbol_address addresses text) (record { rows = rows; end = end }))
sequence_placed place addresses text [] end has lt = absurd has
sequence_placed place addresses text (r ∷ rows) end has lt =
    let b : ℕ = symbol_address addresses text in
    let low : r.address ≤ end = ends r.address rows end has in
    let body : List ℕ = function_rows (r ∷ rows) end in
    ap (λ (ys : List ℕ). EXTENDED_OPCODE ∷ 9 ∷ DW_LNE_set_address ∷ (ys ++ (body ++ [])))
    (address_placed (place + 3) addresses text r.address (omega (arith, low, lt)))
    ∙ ap (λ (ys : List ℕ). EXTENDED_OPCODE ∷ 9 ∷ DW_LNE_set_address ∷ (to_le_bytes w64 (b + r.address) ++ ys))
    (append-nil body ∙ sym (function_moved b (r ∷ rows) end has))

sequences_placed : (place : ℕ) (addresses : List ℕ) (text : ℕ) (sequences : List Sequence) → AllByRecursion IsSequence sequences
    → AllByRecursion (EndsBelow (symbol_address addresses text)) sequences
    → placed place addresses (flat_map (sequence_pieces text) sequences) ≡ program (map (moved_sequence (symbol_address addresses text)) sequences)
sequences_placed place addresses text [] are below = refl
sequences_placed place addresses text (s ∷ rest) are below =
    let b : ℕ = symbol_address addresses text in
    let next : ℕ = place + length (written (sequence_pieces text s)) in
    placed-append place addresses (sequence_pieces text s) (flat_map (sequence_pieces text) rest)
    ∙ ap (λ (ys : List ℕ). ys ++ placed next addresses (flat_map (sequence_pieces text) rest))
    (sequence_placed place addresses text s.rows s.end are.0 below.0)
    ∙ ap (λ (ys : List ℕ). sequence (moved_sequence b s) ++ ys) (sequences_placed next addresses text rest are.1 below.1)

-- ---- the lengths

sequence_long : (b : ℕ) (rows : List Row) (end : ℕ) → HasRows rows end
    → length (sequence (moved_sequence b (record { rows = rows; end = end }))) ≡ length (sequence (record { rows = rows; end = end }))
sequence_long b [] end has = absurd has
sequence_long b (r ∷ rows) end has = ap (λ (ys : List ℕ). length (set_address 0 ++ ys)) (function_moved b (r ∷ rows) end has)

program_long : (b : ℕ) (sequences : List Sequence) → AllByRecursion IsSequence sequences
    → length (program (map (moved_sequence b) sequences)) ≡ length (program sequences)
program_long b [] are = refl
program_long b (s ∷ rest) are =
    length-append (sequence (moved_sequence b s)) (program (map (moved_sequence b) rest))
    ∙ ap (λ (n : ℕ). n + length (program (map (moved_sequence b) rest))) (sequence_long b s.rows s.end are.0)
    ∙ ap (λ (n : ℕ). length (sequence s) + n) (program_long b rest are.1)
    ∙ sym (length-append (sequence s) (program rest))

-- ---- the section

spelled : (t : LineTable) → spelling t
    ≡ header (8 + length (tables t) + length (program t.sequences)) (length (tables t)) ++ tables t ++ program t.sequences
unfolding spelling
spelled t = refl

section_placed : (place : ℕ) (addresses : List ℕ) (text : ℕ) (t : LineTable) → AllByRecursion IsSequence t.sequences
    → AllByRecursion (EndsBelow (symbol_address addresses text)) t.sequences
    → placed place addresses (line_pieces text t) ≡ spelling (moved_table (symbol_address addresses text) t)
section_placed place addresses text t are below =
    let b : ℕ = symbol_address addresses text in
    let front : List ℕ = header_of t in
    let moved : List ℕ = program (map (moved_sequence b) t.sequences) in
    ap (λ (ys : List ℕ). front ++ ys) (sequences_placed (place + length front) addresses text t.sequences are below)
    ∙ ap (λ (n : ℕ). header (8 + length (tables t) + n) (length (tables t)) ++ tables t ++ moved) (sym (program_long b t.sequences are))
    ∙ ap (λ (ys : List ℕ). header (8 + length ys + length moved) (length ys) ++ ys ++ moved) (sym (tables_moved b t))
    ∙ sym (spelled (moved_table b t))

-- fields of zeros are whole
sequences_whole : (text : ℕ) (sequences : List Sequence) → AllByRecursion IsWhole (flat_map (sequence_pieces text) sequences)
sequences_whole text [] = tt
sequences_whole text (s ∷ rest) = (tt, (refl, (tt, sequences_whole text rest)))

pub lines_placed : (t : LineTable) (text place : ℕ) (addresses : List ℕ) → All IsSequence t.sequences
    → All (EndsBelow (symbol_address addresses text)) t.sequences
    → applied place addresses (relocations_from 0 (line_pieces text t)) (written (line_pieces text t))
    ≡ spelling (moved_table (symbol_address addresses text) t)
lines_placed t text place addresses are below =
    content_placed place addresses (line_pieces text t)
    (All-from_recursion IsWhole (line_pieces text t) (tt, sequences_whole text t.sequences))
    ∙ section_placed place addresses text t (recursion_from_All IsSequence t.sequences are)
    (recursion_from_All (EndsBelow (symbol_address addresses text)) t.sequences below)
