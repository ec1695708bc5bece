-- Parts of sections that are written whole.
use Rattle.std.specs.Int.{w32, w64, to_le_bytes}
use Rattle.std.proofs.Common.{◌≡◌, ℕ, ◌+◌, ◌^◌, ◌<◌, ◌≤◌, List, [], ◌∷◌, ◌++◌, length, take, drop, arith, ap, ◌∙◌, refl, append_assoc, length-append}
use Rattle.std.proofs.lemmas.List.{take_at}
use Rattle.dwarf_base.specs.Size.{capped}
use Rattle.dwarf_line.specs.declared.table.LineTable.{LineTable}
use Rattle.dwarf_line.specs.declared.table.Row.{Row}
use Rattle.dwarf_line.specs.Standard.{EXTENDED_OPCODE, DW_LNE_set_address}
use Rattle.dwarf_line.specs.Spelling.{header, tables, program, spelling, sequence, first_address, registers_at, rows_to}
use Rattle.dwarf_frame.specs.declared.table.FrameDescription.{FrameDescription}
use Rattle.dwarf_frame.specs.Spelling.{description, instructions}
use Rattle.elf_content.specs.declared.piece.Piece.{Piece}
use Rattle.debug_content.specs.steps.Header.{header_of}

-- ---- the header of a line number table

pub header_within : (t : LineTable) (n : ℕ) → n ≡ capped (length (tables t)) → length (spelling t) < 2 ^ 31 → 12 + n ≤ length (spelling t)
unfolding spelling
header_within t n e size =
    let front : List ℕ = header (8 + length (tables t) + length (program t.sequences)) (length (tables t)) in
    let long : length ((front ++ tables t) ++ program t.sequences) ≡ 12 + length (tables t) + length (program t.sequences) =
    omega (arith, length-append (front ++ tables t) (program t.sequences), length-append front (tables t)) in
    omega (arith, e, long, size)

pub header_taken : (t : LineTable) (n : ℕ) → n ≡ capped (length (tables t)) → length (spelling t) < 2 ^ 31
    → take (12 + n) (spelling t) ≡ header_of t
unfolding spelling
header_taken t n e size =
    let front : List ℕ = header (8 + length (tables t) + length (program t.sequences)) (length (tables t)) in
    let long : length ((front ++ tables t) ++ program t.sequences) ≡ 12 + length (tables t) + length (program t.sequences) =
    omega (arith, length-append (front ++ tables t) (program t.sequences), length-append front (tables t)) in
    take_at (front ++ tables t) (program t.sequences) (12 + n) (omega (arith, e, long, size, length-append front (tables t)))

-- ---- the opcode that sets the address of a sequence

pub sequence_long : (rows : List Row) (end : ℕ) → 11 ≤ length (sequence (record { rows = rows; end = end }))
sequence_long rows end = omega arith

pub sequence_front : (rows : List Row) (end : ℕ) → take 3 (sequence (record { rows = rows; end = end })) ≡ EXTENDED_OPCODE ∷ 9 ∷ DW_LNE_set_address ∷ []
sequence_front rows end = refl

pub sequence_rest : (rows : List Row) (end : ℕ)
    → drop 11 (sequence (record { rows = rows; end = end })) ≡ rows_to (registers_at (first_address rows)) rows end
sequence_rest rows end = refl

-- ---- the fields of a frame description entry

pub description_long : (f : FrameDescription) → 16 ≤ length (description f)
description_long f = omega arith

pub description_front : (f : FrameDescription) → take 4 (description f) ≡ to_le_bytes w32 (20 + length (instructions f))
description_front f = refl

pub description_rest : (f : FrameDescription) → drop 16 (description f) ≡ to_le_bytes w64 f.size ++ instructions f
description_rest f = refl

-- ---- pieces one after the other

pub three_pieces : (o o1 o2 o3 : List Piece) (a b c x y z : Piece) → o1 ≡ o ++ a ∷ [] → o2 ≡ o1 ++ b ∷ [] → o3 ≡ o2 ++ c ∷ [] → a ≡ x → b ≡ y → c ≡ z
    → o3 ≡ o ++ x ∷ y ∷ z ∷ []
three_pieces o o1 o2 o3 a b c x y z e1 e2 e3 first second third =
    e3 ∙ (λ i. (e2 ∙ (λ j. e1 j ++ second j ∷ [])) i ++ third i ∷ [])
    ∙ (λ i. ((o ++ first i ∷ []) ++ y ∷ []) ++ z ∷ []) ∙ behind o x y z
  where
    behind : (o : List Piece) (x y z : Piece) → ((o ++ x ∷ []) ++ y ∷ []) ++ z ∷ [] ≡ o ++ x ∷ y ∷ z ∷ []
    behind [] x y z = refl
    behind (p ∷ o) x y z = ap (λ (ps : List Piece). p ∷ ps) (behind o x y z)

pub four_pieces : (o o1 o2 o3 o4 : List Piece) (a b c d x y z w : Piece) → o1 ≡ o ++ a ∷ [] → o2 ≡ o1 ++ b ∷ [] → o3 ≡ o2 ++ c ∷ [] → o4 ≡ o3 ++ d ∷ []
    → a ≡ x → b ≡ y → c ≡ z → d ≡ w → o4 ≡ o ++ x ∷ y ∷ z ∷ w ∷ []
four_pieces o o1 o2 o3 o4 a b c d x y z w e1 e2 e3 e4 first second third fourth =
    e4 ∙ (λ i. three_pieces o o1 o2 o3 a b c x y z e1 e2 e3 first second third i ++ fourth i ∷ [])
    ∙ append_assoc o (x ∷ y ∷ z ∷ []) (w ∷ [])

pub seven_pieces : (o o1 o2 o3 o4 o5 o6 o7 : List Piece) (a b c d e f g x y z w u v t : Piece) → o1 ≡ o ++ a ∷ [] → o2 ≡ o1 ++ b ∷ []
    → o3 ≡ o2 ++ c ∷ [] → o4 ≡ o3 ++ d ∷ [] → o5 ≡ o4 ++ e ∷ [] → o6 ≡ o5 ++ f ∷ [] → o7 ≡ o6 ++ g ∷ [] → a ≡ x → b ≡ y → c ≡ z → d ≡ w → e ≡ u
    → f ≡ v → g ≡ t → o7 ≡ o ++ x ∷ y ∷ z ∷ w ∷ u ∷ v ∷ t ∷ []
seven_pieces o o1 o2 o3 o4 o5 o6 o7 a b c d e f g x y z w u v t e1 e2 e3 e4 e5 e6 e7 first second third fourth fifth sixth seventh =
    three_pieces o4 o5 o6 o7 e f g u v t e5 e6 e7 fifth sixth seventh
    ∙ ap (λ (ps : List Piece). ps ++ u ∷ v ∷ t ∷ []) (four_pieces o o1 o2 o3 o4 a b c d x y z w e1 e2 e3 e4 first second third fourth)
    ∙ append_assoc o (x ∷ y ∷ z ∷ w ∷ []) (u ∷ v ∷ t ∷ [])

-- ---- bytes one after the other

pub two_appends : (o0 o1 o2 a b : List ℕ) → o0 ≡ [] → o1 ≡ o0 ++ a → o2 ≡ o1 ++ b → o2 ≡ a ++ b
two_appends o0 o1 o2 a b e0 e1 e2 = e2 ∙ ap (λ (ys : List ℕ). ys ++ b) (e1 ∙ ap (λ (ys : List ℕ). ys ++ a) e0)

pub three_appends : (o0 o1 o2 o3 a b c : List ℕ) → o0 ≡ [] → o1 ≡ o0 ++ a → o2 ≡ o1 ++ b → o3 ≡ o2 ++ c → o3 ≡ a ++ (b ++ c)
three_appends o0 o1 o2 o3 a b c e0 e1 e2 e3 = e3 ∙ ap (λ (ys : List ℕ). ys ++ c) (two_appends o0 o1 o2 a b e0 e1 e2) ∙ append_assoc a b c

pub four_appends : (o0 o1 o2 o3 o4 a b c d : List ℕ) → o0 ≡ [] → o1 ≡ o0 ++ a → o2 ≡ o1 ++ b → o3 ≡ o2 ++ c → o4 ≡ o3 ++ d
    → o4 ≡ a ++ (b ++ (c ++ d))
four_appends o0 o1 o2 o3 o4 a b c d e0 e1 e2 e3 e4 =
    e4 ∙ ap (λ (ys : List ℕ). ys ++ d) (three_appends o0 o1 o2 o3 a b c e0 e1 e2 e3) ∙ append_assoc a (b ++ c) d
    ∙ ap (λ (ys : List ℕ). a ++ ys) (append_assoc b c d)
