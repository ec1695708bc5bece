-- How long the line number table of one function is whose items have no debug location: it has one file and one row at most.
use Rattle.std.proofs.Common.{◌≡◌, ◌∙◌, ℕ, suc, ◌+◌, ◌-◌, ◌^◌, ◌<◌, ◌≤◌, Bool, true, false, cond, ◌&&◌, if◌then◌else◌, List, [], ◌∷◌, ◌++◌, map, length}
use Rattle.std.proofs.Common.{All, None, Some, refl, sym, ap, subst, arith, length-append, append-nil, drop, lit<, lit≤}
use Rattle.std.specs.Prelude.{pos, negsuc, ◌-ℤ◌, ◌==◌, nat_eq, FitsSigned}
use Rattle.std.specs.List.{flat_map, position_or_len}
use Rattle.std.specs.Int.{w64}
use Rattle.std.proofs.lemmas.Bool.{eq-eqb}
use Rattle.std.proofs.lemmas.List.Elements.{All-nil, All-cons, All-head, All-tail, All-drop}
use Rattle.mir_func.specs.declared.block.Block.{Block}
use Rattle.mir_func.specs.declared.item.Item.{Item}
use Rattle.mir_func.specs.declared.item.ItemKind.{ItemKind}
use Rattle.mir_func.specs.declared.item.ItemKind.TheVariants.{Code, Mark, Phi}
use Rattle.mir_func.specs.declared.location.Loc.{Loc}
use Rattle.mir_func.specs.declared.location.Loc.TheVariants.{Absent}
use Rattle.mir_func.specs.declared.position.Pos.{Pos}
use Rattle.mir_func.specs.Sound.{AllItems}
use Rattle.emit_code.specs.declared.code.EncodedInstruction.{EncodedInstruction}
use Rattle.read_metadata.specs.Maps.{Maps}
use Rattle.dwarf_base.specs.Leb.{uleb_of, sleb_of}
use Rattle.dwarf_base.proofs.FrontLemmas.{length-uleb_of, length-sleb_of}
use Rattle.dwarf_line.specs.declared.table.LineTable.{LineTable}
use Rattle.dwarf_line.specs.declared.table.Row.{Row}
use Rattle.dwarf_line.specs.declared.table.Sequence.{Sequence}
use Rattle.dwarf_line.specs.Spelling.{text, file, tables, registers_at, set_address, end_sequence, set_file, set_column, advance_pc, advance_line, changing}
use Rattle.dwarf_line.specs.Spelling.{row, sequence, program, spelling}
use Rattle.dwarf_line.specs.Standard.{DW_LNS_copy, instruction_fields, directory_format, file_format}
use Rattle.dwarf_line.proofs.SpellingLemmas.{length-spelling}
use Rattle.dwarf_line_table.specs.declared.source_and_code.SourceAndCode.{SourceAndCode}
use Rattle.dwarf_line_table.specs.declared.file.SourceFile.{SourceFile}
use Rattle.dwarf_line_table.specs.Files.{no_file, is_file, is_name, with_new, first_uses, files_of, number_in, dirs_of, entries_of}
use Rattle.dwarf_line_table.specs.Program.{program_file, program_files, function_uses, function_end, sequence_if, sequences_of, table_of}
use Rattle.mir_func.specs.Positions.{position_of}
use Rattle.dwarf_line_table.specs.SourcePosition.{SourceLine, first_loc, loc_if_code, loc_of, line_at}
use Rattle.dwarf_line_table.specs.Table.{row_of_line, changes, entry_line, uses_in, rows_in}
use Rattle.dwarf_line_table.proofs.FirstUses.{position_le}
use Rattle.dwarf_line_table.proofs.Keys.{unit_known}
use Rattle.gen_sizes.proofs.Lists.{named_fits}

-- ---- how long a row is

ten_more : (n : ℕ) → n ≤ 10 → suc n ≤ 11
ten_more n few = omega (arith, few)

few_low : (n : ℕ) → n ≤ 2 → n < 2 ^ 64
few_low n few = omega (arith, few)

at_once : (from to n : ℕ) (bytes : List ℕ) → length bytes ≤ n → length (changing from to bytes) ≤ n
at_once from to n bytes short = by_test (to == from) where
  by_test : (b : Bool) → length (if b then [] else bytes) ≤ n
  by_test true = omega arith
  by_test false = short

five_parts : (a b c d e : List ℕ) → length (a ++ b ++ c ++ d ++ e) ≡ length a + length b + length c + length d + length e
five_parts a b c d e =
    omega (arith, length-append (a ++ b ++ c ++ d) e, length-append (a ++ b ++ c) d, length-append (a ++ b) c, length-append a b)

-- a row of a file without a line
abbrev pub plain : (number address : ℕ) → Row
plain n a = record { address = a; file = n; line = 0; column = 0 }

row_sum : (whole a b c d : ℕ) → whole ≡ a + b + c + d + 1 → a ≤ 11 → b ≤ 11 → c ≤ 11 → d ≤ 11 → whole ≤ 45
row_sum whole a b c d is e f g h = omega (arith, is, e, f, g, h)

itself_low : (a : ℕ) → a - a < 2 ^ 64
itself_low a = omega arith

backwards_fits : FitsSigned w64 (pos 0 -ℤ pos 1)
backwards_fits = named_fits (negsuc 0) zero_low where
  zero_low : 0 < 9223372036854775808
  zero_low = omega arith

row_short : (n a : ℕ) → n < 2 ^ 64 → length (row (registers_at a) (plain n a)) ≤ 45
unfolding row
row_short n a low =
    let one = changing 1 n (set_file n) in
    let two = changing 0 0 (set_column 0) in
    let three = changing a a (advance_pc a a) in
    let four = changing 1 0 (advance_line 1 0) in
    row_sum (length (row (registers_at a) (plain n a))) (length one) (length two) (length three) (length four)
    (five_parts one two three four (DW_LNS_copy ∷ [])) (at_once 1 n 11 (set_file n) (ten_more (length (uleb_of n)) (length-uleb_of n low)))
    (at_once 0 0 11 (set_column 0) (ten_more (length (uleb_of 0)) (length-uleb_of 0 (few_low 0 (lit≤ tt)))))
    (at_once a a 11 (advance_pc a a) (ten_more (length (uleb_of (a - a))) (length-uleb_of (a - a) (itself_low a))))
    (at_once 1 0 11 (advance_line 1 0) (ten_more (length (sleb_of (pos 0 -ℤ pos 1))) (length-sleb_of (pos 0 -ℤ pos 1) backwards_fits)))

two_parts : (a b c : List ℕ) → length (a ++ (b ++ c)) ≡ length a + length b + length c
two_parts a b c = omega (arith, length-append a (b ++ c), length-append b c)

sequence_sum : (whole r rest advance : ℕ) → whole ≡ 11 + r + rest → r ≤ 45 → rest ≡ suc advance + 3 → advance ≤ 10 → whole ≤ 70
sequence_sum whole r rest advance is short rest_is few = omega (arith, is, short, rest_is, few)

low_from : (end a : ℕ) → end < 2 ^ 64 → end - a < 2 ^ 64
low_from end a low = omega (arith, low)

sequence_short : (n a end : ℕ) → n < 2 ^ 64 → end < 2 ^ 64 → length (sequence (record { rows = plain n a ∷ []; end = end })) ≤ 70
sequence_short n a end low ends =
    sequence_sum (length (sequence (record { rows = plain n a ∷ []; end = end }))) (length (row (registers_at a) (plain n a)))
    (length (advance_pc a end ++ end_sequence)) (length (uleb_of (end - a)))
    (two_parts (set_address a) (row (registers_at a) (plain n a)) (advance_pc a end ++ end_sequence)) (row_short n a low)
    (length-append (advance_pc a end) end_sequence) (length-uleb_of (end - a) (low_from end a ends))

-- ---- of rows of one line the first is left

no_changes : (n a : ℕ) (es : List EncodedInstruction) → changes (Some (plain n a)) (map (λ e. plain n e.address) es) ≡ []
no_changes n a [] = refl
no_changes n a (e ∷ es) =
    ap (λ (b : Bool). cond (b && (nat_eq 0 0 && nat_eq 0 0)) (changes (Some (plain n a)) (map (λ x. plain n x.address) es))
    (plain n e.address ∷ changes (Some (plain n e.address)) (map (λ x. plain n x.address) es))) (eq-eqb n n refl)
    ∙ no_changes n a es

program_short : (n end : ℕ) → n < 2 ^ 64 → end < 2 ^ 64 → (es : List EncodedInstruction) →
    length (program (sequence_if (changes None (map (λ e. plain n e.address) es)) end ++ [])) ≤ 70
program_short n end low ends [] = omega arith
program_short n end low ends (e ∷ es) =
    subst (λ (rows : List Row). length (program (sequence_if (plain n e.address ∷ rows) end ++ [])) ≤ 70) (sym (no_changes n e.address es))
    (subst (λ (bytes : List ℕ). length bytes ≤ 70) (sym (append-nil (sequence (record { rows = plain n e.address ∷ []; end = end }))))
    (sequence_short n e.address end low ends))

-- ---- without debug locations there is no line

first_absent : (items : List Item) → All (λ i. i.loc ≡ Absent) items → first_loc items ≡ Absent
first_absent [] all = refl
first_absent (i ∷ items) all =
    by_kind i.kind (All-head (λ (x : Item). x.loc ≡ Absent) i items all)
    (first_absent items (All-tail (λ (x : Item). x.loc ≡ Absent) i items all)) where
      by_kind : (k : ItemKind) → i.loc ≡ Absent → first_loc items ≡ Absent → loc_if_code k i.loc (first_loc items) ≡ Absent
      by_kind (Code c n) own rest = own
      by_kind (Mark v m) own rest = rest
      by_kind (Phi p n) own rest = rest

loc_absent : (blocks : List Block) → AllItems (λ i. i.loc ≡ Absent) blocks → (p : Pos) → loc_of blocks p ≡ Absent
loc_absent [] all p = refl
loc_absent (b ∷ blocks) all p =
    by_test (nat_eq b.id p.block)
    (first_absent (drop p.item b.items) (All-drop (λ (x : Item). x.loc ≡ Absent) p.item b.items
    (All-head (λ (c : Block). All (λ (x : Item). x.loc ≡ Absent) c.items) b blocks all)))
    (loc_absent blocks (All-tail (λ (c : Block). All (λ (x : Item). x.loc ≡ Absent) c.items) b blocks all) p) where
      by_test : (z : Bool) → first_loc (drop p.item b.items) ≡ Absent → loc_of blocks p ≡ Absent →
          cond z (first_loc (drop p.item b.items)) (loc_of blocks p) ≡ Absent
      by_test true here rest = here
      by_test false here rest = rest

-- the unit's file, without a line
abbrev pub unit_line : SourceFile → SourceLine
unit_line unit = record { file = unit; line = 0; column = 0 }

module _ (meta : Maps) (unit : SourceFile) (blocks : List Block) (absent : AllItems (λ i. i.loc ≡ Absent) blocks) where
  line_is : (e : EncodedInstruction) → entry_line meta unit blocks e ≡ unit_line unit
  line_is e = ap (λ (l : Loc). line_at meta unit l) (loc_absent blocks absent (position_of e.origin))

  uses_all : (es : List EncodedInstruction) → All (λ f. f ≡ unit) (uses_in meta unit blocks es)
  uses_all [] = All-nil (λ (f : SourceFile). f ≡ unit)
  uses_all (e ∷ es) =
      All-cons (λ (f : SourceFile). f ≡ unit) (entry_line meta unit blocks e).file (uses_in meta unit blocks es)
      (ap (λ (l : SourceLine). l.file) (line_is e)) (uses_all es)

  rows_are : (files : List SourceFile) (es : List EncodedInstruction) → rows_in files meta unit blocks es ≡ map (λ e. plain (number_in files unit) e.address) es
  rows_are files [] = refl
  rows_are files (e ∷ es) =
      let here = ap (λ (l : SourceLine). row_of_line files e.address l) (line_is e) in
      let rest = rows_are files es in
      λ i. here i ∷ rest i

uses_unit : (unit : SourceFile) (xs : List SourceFile) → All (λ f. f ≡ unit) xs → first_uses is_file (unit ∷ []) xs ≡ unit ∷ []
uses_unit unit [] all = refl
uses_unit unit (x ∷ xs) all =
    ap (λ (f : SourceFile). first_uses is_file (with_new is_file (unit ∷ []) f) xs) (All-head (λ (f : SourceFile). f ≡ unit) x xs all)
    ∙ (ap (λ (known : List SourceFile). first_uses is_file known xs) (sym (unit_known (unit ∷ []) (lit< tt)))
    ∙ uses_unit unit xs (All-tail (λ (f : SourceFile). f ≡ unit) x xs all))

-- ---- how long the header is

seven_parts : (a b c d e f g : List ℕ) → length (a ++ b ++ c ++ d ++ e ++ f ++ g)
    ≡ length a + length b + length c + length d + length e + length f + length g
seven_parts a b c d e f g =
    omega (arith, length-append (a ++ b ++ c ++ d ++ e ++ f) g, length-append (a ++ b ++ c ++ d ++ e) f, five_parts a b c d e)

file_short : (d : ℕ) → d < 2 ^ 64 → length (file (record { name = []; dir = d })) ≤ 11
file_short d low = ten_more (length (uleb_of d)) (length-uleb_of d low)

-- the one directory, and its index
abbrev dirs : List (List ℕ)
dirs = dirs_of (no_file ∷ [])

abbrev index : ℕ
index = position_or_len (is_name []) dirs

files_sum : (whole one two : ℕ) → whole ≡ one + (two + 0) → one ≤ 11 → two ≤ 11 → whole ≤ 22
files_sum whole one two is few more = omega (arith, is, few, more)

files_short : length (flat_map file (entries_of (no_file ∷ []))) ≤ 22
files_short =
    let first : List ℕ = file (record { name = []; dir = 0 }) in
    let second : List ℕ = file (record { name = []; dir = index }) in
    files_sum (length (flat_map file (entries_of (no_file ∷ [])))) (length first) (length second)
    (length-append first (second ++ []) ∙ ap (λ (n : ℕ). length first + n) (length-append second []))
    (file_short 0 (few_low 0 (lit≤ tt))) (file_short index (few_low index (more index (position_le (is_name []) dirs)))) where
      more : (n : ℕ) → n ≤ 1 → n ≤ 2
      more n few = omega (arith, few)

tables_sum : (whole c f g : ℕ) → whole ≡ 18 + 3 + c + 1 + 5 + f + g → c ≤ 10 → f ≤ 10 → g ≤ 22 → whole ≤ 69
tables_sum whole c f g is h i j = omega (arith, is, h, i, j)

-- the table of files and rows
abbrev pub with_rows : List SourceFile → List Sequence → LineTable
with_rows files sequences = record { dirs = dirs_of files; files = entries_of files; sequences = sequences }

tables_short : (sequences : List Sequence) → length (tables (with_rows (no_file ∷ []) sequences)) ≤ 69
unfolding tables
tables_short sequences =
    tables_sum (length (tables (with_rows (no_file ∷ []) sequences))) (length (uleb_of 1)) (length (uleb_of 2))
    (length (flat_map file (entries_of (no_file ∷ []))))
    (seven_parts instruction_fields directory_format (uleb_of 1) (flat_map text dirs) file_format (uleb_of 2) (flat_map file (entries_of (no_file ∷ []))))
    (length-uleb_of 1 (few_low 1 (lit≤ tt))) (length-uleb_of 2 (few_low 2 (lit≤ tt))) files_short

-- ---- how long the section is

section_sum : (whole tables program : ℕ) → whole ≡ 12 + tables + program → tables ≤ 69 → program ≤ 70 → whole < 2 ^ 31
section_sum whole tables program is few more = omega (arith, is, few, more)

module _ (meta : Maps) (c : SourceAndCode) (absent : AllItems (λ i. i.loc ≡ Absent) c.source.now.blocks) (low : function_end c < 2 ^ 64)
    (none : program_file meta (c ∷ []) ≡ no_file) where
  abbrev unit : SourceFile
  unit = program_file meta (c ∷ [])

  files_are : program_files meta (c ∷ []) ≡ unit ∷ []
  files_are =
      ap (λ (uses : List SourceFile). files_of unit uses) (append-nil (function_uses meta unit c))
      ∙ uses_unit unit (function_uses meta unit c) (uses_all meta unit c.source.now.blocks absent c.code.now.entries)

  abbrev Small : List SourceFile → SourceFile → Type 0
  Small files file = length (spelling (with_rows files (flat_map (sequences_of files meta file) (c ∷ [])))) < 2 ^ 31

  number_low : number_in (no_file ∷ []) no_file < 2 ^ 64
  number_low = two_at_most (position_or_len (is_file no_file) (no_file ∷ [])) (position_le (is_file no_file) (no_file ∷ [])) where
    two_at_most : (n : ℕ) → n ≤ 1 → 1 + n < 2 ^ 64
    two_at_most n few = omega (arith, few)

  program_few : length (program (flat_map (sequences_of (no_file ∷ []) meta no_file) (c ∷ []))) ≤ 70
  program_few =
      subst (λ (rows : List Row). length (program (sequence_if (changes None rows) (function_end c) ++ [])) ≤ 70)
      (sym (rows_are meta no_file c.source.now.blocks absent (no_file ∷ []) c.code.now.entries))
      (program_short (number_in (no_file ∷ []) no_file) (function_end c) number_low low c.code.now.entries)

  small : Small (no_file ∷ []) no_file
  small =
      let sequences : List Sequence = flat_map (sequences_of (no_file ∷ []) meta no_file) (c ∷ []) in
      section_sum (length (spelling (with_rows (no_file ∷ []) sequences))) (length (tables (with_rows (no_file ∷ []) sequences)))
      (length (program sequences)) (length-spelling (with_rows (no_file ∷ []) sequences)) (tables_short sequences) program_few

  -- the table of the function alone is small
  pub rows_small : length (spelling (table_of meta (c ∷ []))) < 2 ^ 31
  unfolding table_of
  rows_small =
      subst (λ (files : List SourceFile). Small files unit) (sym files_are) (subst (λ (file : SourceFile). Small (file ∷ []) file) (sym none) small)
