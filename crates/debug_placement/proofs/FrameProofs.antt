-- The section of call frame information where code and the section lie at other addresses.
use Rattle.std.specs.Prelude.{All}
use Rattle.std.specs.List.{AllByRecursion, flat_map}
use Rattle.std.specs.Int.{w32, w64, to_le_bytes}
use Rattle.std.proofs.Common.{◌≡◌, ℕ, ◌+◌, ◌-◌, ◌/◌, ◌%◌, ◌<◌, ◌^◌, List, [], ◌∷◌, ◌++◌, length, map, arith, ap, sym, ◌∙◌, refl, append-nil}
use Rattle.std.proofs.lemmas.List.Elements.{All-from_recursion, recursion_from_All}
use Rattle.dwarf_line.specs.Spelling.{changing}
use Rattle.dwarf_frame.specs.declared.table.Row.{Row}
use Rattle.dwarf_frame.specs.declared.table.FrameDescription.{FrameDescription}
use Rattle.dwarf_frame.specs.Standard.{CODE_ALIGNMENT_FACTOR}
use Rattle.dwarf_frame.specs.Table.{initial}
use Rattle.dwarf_frame.specs.Spelling.{advance, def_cfa_offset, registers, row, rows_after, padded, common_entry, instructions, description, spelling}
use Rattle.elf_relocation.specs.Applied.{applied}
use Rattle.elf_content.specs.declared.piece.Piece.{Piece}
use Rattle.elf_content.specs.Content.{written, placed, relocations_from, symbol_address, IsWhole}
use Rattle.elf_content.proofs.Pieces.{content_placed}
use Rattle.debug_placement.specs.Frames.{description_by, spelling_by, description_pieces, frame_pieces, moved_row, moved_description, EndsBelow}
use Rattle.debug_placement.proofs.Placing.{placed-append, address_placed, offset_placed}

-- ---- rows see differences of addresses alone

difference : (b x y : ℕ) → b + y - (b + x) ≡ y - x
difference b x y = omega arith

row_moved : (b : ℕ) (before r : Row) → row (moved_row b before) (moved_row b r) ≡ row before r
unfolding row
row_moved b before r =
    ap (λ (n : ℕ). advance (n / CODE_ALIGNMENT_FACTOR)
    ++ changing before.rules.cfa_offset r.rules.cfa_offset (def_cfa_offset r.rules.cfa_offset)
    ++ registers before.rules.saved r.rules.saved) (difference b before.address r.address)

rows_moved : (b : ℕ) (before : Row) (rows : List Row) → rows_after (moved_row b before) (map (moved_row b) rows) ≡ rows_after before rows
rows_moved b before [] = refl
rows_moved b before (r ∷ rows) =
    ap (λ (ys : List ℕ). ys ++ rows_after (moved_row b r) (map (moved_row b) rows)) (row_moved b before r)
    ∙ ap (λ (ys : List ℕ). row before r ++ ys) (rows_moved b r rows)

instructions_moved : (b : ℕ) (f : FrameDescription) → instructions (moved_description b f) ≡ instructions f
instructions_moved b f = ap padded (rows_moved b (initial f.start) f.rows)

-- ---- descriptions

description_placed : (place : ℕ) (addresses : List ℕ) (frame text : ℕ) (f : FrameDescription) → symbol_address addresses frame < 2 ^ 32
    → EndsBelow (symbol_address addresses text) f
    → placed place addresses (description_pieces frame text f)
    ≡ description_by (symbol_address addresses frame) (moved_description (symbol_address addresses text) f)
description_placed place addresses frame text f near below =
    let b : ℕ = symbol_address addresses text in
    let c : ℕ = symbol_address addresses frame in
    let size : List ℕ = to_le_bytes w32 (20 + length (instructions f)) in
    let behind : List ℕ = to_le_bytes w64 f.size ++ instructions f in
    let offset : c + 0 ≡ c = omega arith in
    ap (λ (ys : List ℕ). size ++ (ys ++ (placed_start ++ (behind ++ []))))
    (offset_placed (place + 4) addresses frame 0 (omega (arith, near)) ∙ ap (to_le_bytes w32) offset)
    ∙ ap (λ (ys : List ℕ). size ++ (to_le_bytes w32 c ++ (ys ++ (behind ++ [])))) (address_placed (place + 8) addresses text f.start (omega (arith, below)))
    ∙ ap (λ (ys : List ℕ). size ++ (to_le_bytes w32 c ++ (to_le_bytes w64 (b + f.start) ++ ys))) (append-nil behind)
    ∙ ap (λ (ys : List ℕ). to_le_bytes w32 (20 + length ys) ++ (to_le_bytes w32 c ++ (to_le_bytes w64 (b + f.start) ++ (to_le_bytes w64 f.size ++ ys))))
    (sym (instructions_moved b f))
  where
    placed_start : List ℕ
    placed_start = to_le_bytes w64 ((symbol_address addresses text + f.start) % 2 ^ 64)

descriptions_placed : (place : ℕ) (addresses : List ℕ) (frame text : ℕ) (functions : List FrameDescription) → symbol_address addresses frame < 2 ^ 32
    → AllByRecursion (EndsBelow (symbol_address addresses text)) functions
    → placed place addresses (flat_map (description_pieces frame text) functions)
    ≡ flat_map (description_by (symbol_address addresses frame)) (map (moved_description (symbol_address addresses text)) functions)
descriptions_placed place addresses frame text [] near below = refl
descriptions_placed place addresses frame text (f ∷ rest) near below =
    let b : ℕ = symbol_address addresses text in
    let c : ℕ = symbol_address addresses frame in
    let next : ℕ = place + length (written (description_pieces frame text f)) in
    placed-append place addresses (description_pieces frame text f) (flat_map (description_pieces frame text) rest)
    ∙ ap (λ (ys : List ℕ). ys ++ placed next addresses (flat_map (description_pieces frame text) rest))
    (description_placed place addresses frame text f near below.0)
    ∙ ap (λ (ys : List ℕ). description_by c (moved_description b f) ++ ys) (descriptions_placed next addresses frame text rest near below.1)

-- ---- the section

functions_whole : (frame text : ℕ) (functions : List FrameDescription) → AllByRecursion IsWhole (flat_map (description_pieces frame text) functions)
functions_whole frame text [] = tt
functions_whole frame text (f ∷ rest) = (tt, (refl, (refl, (tt, functions_whole frame text rest))))

pub frames_placed : (undefined : List ℕ) (functions : List FrameDescription) (frame text place : ℕ) (addresses : List ℕ)
    → symbol_address addresses frame < 2 ^ 32 → All (EndsBelow (symbol_address addresses text)) functions
    → applied place addresses (relocations_from 0 (frame_pieces frame text undefined functions)) (written (frame_pieces frame text undefined functions))
    ≡ spelling_by (symbol_address addresses frame) undefined (map (moved_description (symbol_address addresses text)) functions)
frames_placed undefined functions frame text place addresses near below =
    let pieces : List Piece = frame_pieces frame text undefined functions in
    content_placed place addresses pieces (All-from_recursion IsWhole pieces (tt, functions_whole frame text functions))
    ∙ ap (λ (ys : List ℕ). common_entry undefined ++ ys)
    (descriptions_placed (place + length (common_entry undefined)) addresses frame text functions near
    (recursion_from_All (EndsBelow (symbol_address addresses text)) functions below))

alone : (functions : List FrameDescription) → flat_map (description_by 0) functions ≡ flat_map description functions
alone [] = refl
alone (f ∷ rest) = ap (λ (ys : List ℕ). description f ++ ys) (alone rest)

pub spelled_alone : (undefined : List ℕ) (functions : List FrameDescription) → spelling_by 0 undefined functions ≡ spelling undefined functions
unfolding spelling
spelled_alone undefined functions = ap (λ (ys : List ℕ). common_entry undefined ++ ys) (alone functions)
