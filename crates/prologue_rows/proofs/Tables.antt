-- The table of a program, as its functions are gone through.
use Rattle.std.proofs.Common.{◌≡◌, ℕ, zero, suc, ◌+◌, ◌*◌, ◌≤◌, ◌<◌, ◌-◌, List, [], ◌∷◌, ◌++◌, map, take, drop, length, refl, sym, ◌∙◌, ap, arith, All}
use Rattle.std.proofs.Common.{append_assoc, append-nil, subst, length-append}
use Rattle.std.specs.List.{flat_map, prefix_len}
use Rattle.std.proofs.lemmas.List.{map-append, length-map}
use Rattle.std.proofs.lemmas.List.Elements.{All-push}
use Rattle.dwarf_line.specs.declared.table.FileEntry.{FileEntry}
use Rattle.dwarf_line.specs.declared.table.Sequence.{Sequence}
use Rattle.dwarf_line.specs.Table.{IsSequence}
use Rattle.read_metadata.specs.Maps.{Maps}
use Rattle.dwarf_line_table.specs.declared.file.SourceFile.{SourceFile}
use Rattle.dwarf_line_table.specs.declared.scope_line.ScopeLine.{ScopeLine}
use Rattle.dwarf_line_table.specs.Files.{first_uses, is_file, dirs_of, entries_of, entry_in}
use Rattle.emit_code.specs.Laid.{StandFrom}
use Rattle.dwarf_line_table.specs.declared.source_and_code.SourceAndCode.{SourceAndCode}
use Rattle.dwarf_line_table.specs.Program.{function_end}
use Rattle.dwarf_line_table.proofs.FirstUses.{lengthened, uses_append}
use Rattle.dwarf_line_table.proofs.SourceTables.{few_entries}
use Rattle.prologue_rows.specs.declared.function.LinedFunction.{LinedFunction}
use Rattle.prologue_rows.specs.declared.words.SourceWord.{SourceWord}
use Rattle.prologue_rows.specs.Files.{table_file, number_of}
use Rattle.prologue_rows.specs.Words.{word_of, words_of}
use Rattle.prologue_rows.specs.Lines
use Rattle.prologue_rows.specs.Lines.{with_line, head_len, body_of}
use Rattle.prologue_rows.specs.Rows.{line_file}
use Rattle.prologue_rows.specs.Table.{declared_of, lines_of, sequence_of, uses_of, files_of, table_of, numbers_of}

-- ---- there are at most as many rows as words and one

front_and_rest : (own : ScopeLine) (n : ℕ) (words : List SourceWord) → length (map (with_line own) (take n words) ++ drop n words) ≡ length words
front_and_rest own zero words = refl
front_and_rest own (suc n) [] = refl
front_and_rest own (suc n) (w ∷ words) = ap suc (front_and_rest own n words)

left_over : (n : ℕ) (words : List SourceWord) → length (drop n words) ≤ length words
left_over zero words = omega arith
left_over (suc n) [] = omega arith
left_over (suc n) (w ∷ words) = let rest = left_over n words in omega (arith, rest)

pub lines_few : (own : ScopeLine) (base : ℕ) (words : List SourceWord) → length (Lines.lines_of own base words) ≤ 1 + length words
lines_few own base words =
    let body = body_of words in
    omega (arith, front_and_rest own (head_len body) body, left_over (prefix_len Lines.is_prologue words) words)

pub words_few : (meta : Maps) (f : SourceAndCode) → StandFrom f.code.now.base f.code.now.entries (function_end f)
    → length (words_of meta f) ≤ length f.code.now.words
words_few meta f stand =
    let few : f.code.now.base + 4 * length f.code.now.entries ≤ f.code.now.base + 4 * length f.code.now.words =
    few_entries f.code.now.base f.code.now.entries (function_end f) stand in
    omega (arith, few, length-map f.code.now.entries (word_of meta f.source.now.blocks))

-- ---- functions

abbrev pub number_all : List SourceFile → List SourceFile → List ℕ
number_all files declared = map (λ d. number_of files (table_file d)) declared

pub record TableSoFar (meta : Maps) (unit : SourceFile) (functions rest : List LinedFunction) (files : List SourceFile)
    (sequences : List Sequence) (numbers : List ℕ) : Type 0 where
  pub few : length files + 262144 * length rest + length (flat_map declared_of rest)
      ≤ 1 + 262144 * length functions + length (flat_map declared_of functions)
  pub known : first_uses is_file files (flat_map (uses_of meta unit) rest) ≡ files_of meta unit functions
  pub listed : (more : List SourceFile) → sequences ++ map (sequence_of (files ++ more) meta unit) rest ≡ map (sequence_of (files ++ more) meta unit) functions
  pub numbered : (more : List SourceFile) → numbers ++ number_all (files ++ more) (flat_map declared_of rest)
      ≡ number_all (files ++ more) (flat_map declared_of functions)
  pub are : All IsSequence sequences

pub table_starts : (meta : Maps) (unit : SourceFile) (functions : List LinedFunction) (files : List SourceFile) (sequences : List Sequence) (numbers : List ℕ)
    → files ≡ table_file unit ∷ [] → sequences ≡ [] → numbers ≡ [] → All IsSequence sequences
    → TableSoFar meta unit functions functions files sequences numbers
table_starts meta unit functions files sequences numbers first none no_number are = record {
  few = let n : length files ≡ 1 = ap length first in omega (arith, n);
  known = ap (λ fs. first_uses is_file fs (flat_map (uses_of meta unit) functions)) first;
  listed = λ more. ap (λ ss. ss ++ map (sequence_of (files ++ more) meta unit) functions) none;
  numbered = λ more. ap (λ ns. ns ++ number_all (files ++ more) (flat_map declared_of functions)) no_number;
  are = are;
}

pub table_next : (meta : Maps) (unit : SourceFile) (functions left rest : List LinedFunction) (f : LinedFunction) (files joined files_ : List SourceFile)
    (sequences sequences_ : List Sequence) (numbers numbers_ : List ℕ) (s : Sequence)
    → TableSoFar meta unit functions left files sequences numbers → left ≡ f ∷ rest
    → joined ≡ first_uses is_file files (map (line_file meta unit) (lines_of meta f))
    → ((more : List SourceFile) → s ≡ sequence_of (joined ++ more) meta unit f)
    → length joined ≤ length files + 262144 → IsSequence s
    → files_ ≡ first_uses is_file joined (map table_file (declared_of f))
    → ((more : List SourceFile) → numbers_ ≡ numbers ++ number_all (files_ ++ more) (declared_of f))
    → length files_ ≤ length joined + length (declared_of f) → sequences_ ≡ sequences ++ s ∷ []
    → TableSoFar meta unit functions rest files_ sequences_ numbers_
table_next meta unit functions left rest f files joined files_ sequences sequences_ numbers numbers_ s before split joins sequence_is few is joins_more number
    few_more pushed =
    let so : TableSoFar meta unit functions (f ∷ rest) files sequences numbers =
    subst (λ fs. TableSoFar meta unit functions fs files sequences numbers) split before in
    let rows_uses = map (line_file meta unit) (lines_of meta f) in
    let entry_uses = map table_file (declared_of f) in
    let first_more = lengthened is_file files rows_uses in
    let second_more = lengthened is_file joined entry_uses in
    let joined_is : joined ≡ files ++ first_more.0 = joins ∙ first_more.1 in
    let files_is : files_ ≡ joined ++ second_more.0 = joins_more ∙ second_more.1 in
    record {
      few =
          let so_few : length files + 262144 * suc (length rest) + length (declared_of f ++ flat_map declared_of rest)
          ≤ 1 + 262144 * length functions + length (flat_map declared_of functions) = so.few in
          omega (arith, so_few, few, few_more, length-append (declared_of f) (flat_map declared_of rest));
      known =
          ap (λ fs. first_uses is_file fs (flat_map (uses_of meta unit) rest))
          (joins_more ∙ ap (λ fs. first_uses is_file fs entry_uses) joins ∙ sym (uses_append is_file files rows_uses entry_uses))
          ∙ sym (uses_append is_file files (uses_of meta unit f) (flat_map (uses_of meta unit) rest)) ∙ so.known;
      listed = λ more.
          let all = files_ ++ more in
          let by_joined : all ≡ joined ++ (second_more.0 ++ more) = ap (λ fs. fs ++ more) files_is ∙ append_assoc joined second_more.0 more in
          let by_files : all ≡ files ++ (first_more.0 ++ (second_more.0 ++ more)) =
          by_joined ∙ ap (λ fs. fs ++ (second_more.0 ++ more)) joined_is ∙ append_assoc files first_more.0 (second_more.0 ++ more) in
          let here : s ≡ sequence_of all meta unit f = sequence_is (second_more.0 ++ more) ∙ ap (λ fs. sequence_of fs meta unit f) (sym by_joined) in
          let later = map (sequence_of all meta unit) rest in
          ap (λ ss. ss ++ later) pushed ∙ append_assoc sequences (s ∷ []) later ∙ ap (λ x. sequences ++ x ∷ later) here
          ∙ subst (λ fs. sequences ++ map (sequence_of fs meta unit) (f ∷ rest) ≡ map (sequence_of fs meta unit) functions) (sym by_files)
          (so.listed (first_more.0 ++ (second_more.0 ++ more)));
      numbered = λ more.
          let all = files_ ++ more in
          let by_files : all ≡ files ++ (first_more.0 ++ (second_more.0 ++ more)) =
          ap (λ fs. fs ++ more) files_is ∙ append_assoc joined second_more.0 more ∙ ap (λ fs. fs ++ (second_more.0 ++ more)) joined_is
          ∙ append_assoc files first_more.0 (second_more.0 ++ more) in
          let later = number_all all (flat_map declared_of rest) in
          ap (λ ns. ns ++ later) (number more) ∙ append_assoc numbers (number_all all (declared_of f)) later
          ∙ ap (λ ns. numbers ++ ns) (sym (map-append (λ d. number_of all (table_file d)) (declared_of f) (flat_map declared_of rest)))
          ∙ subst (λ fs. numbers ++ number_all fs (flat_map declared_of (f ∷ rest)) ≡ number_all fs (flat_map declared_of functions)) (sym by_files)
          (so.numbered (first_more.0 ++ (second_more.0 ++ more)));
      are = subst (All IsSequence) (sym pushed) (All-push IsSequence sequences s so.are is);
    }

-- files stay few
pub room_left : (meta : Maps) (unit : SourceFile) (functions left rest : List LinedFunction) (f : LinedFunction) (files : List SourceFile)
    (sequences : List Sequence) (numbers : List ℕ) → TableSoFar meta unit functions left files sequences numbers → left ≡ f ∷ rest
    → length functions ≤ 4096 → length (flat_map declared_of functions) < 1073741824
    → length files + 262144 + length (declared_of f) < 4294967294
room_left meta unit functions left rest f files sequences numbers before split few declared =
    let so : TableSoFar meta unit functions (f ∷ rest) files sequences numbers =
    subst (λ fs. TableSoFar meta unit functions fs files sequences numbers) split before in
    let so_few : length files + 262144 * suc (length rest) + length (declared_of f ++ flat_map declared_of rest)
    ≤ 1 + 262144 * length functions + length (flat_map declared_of functions) = so.few in
    omega (arith, so_few, few, declared, length-append (declared_of f) (flat_map declared_of rest))

pub files_few : (meta : Maps) (unit : SourceFile) (functions left : List LinedFunction) (files : List SourceFile) (sequences : List Sequence)
    (numbers : List ℕ) → TableSoFar meta unit functions left files sequences numbers → length functions ≤ 4096
    → length (flat_map declared_of functions) < 1073741824 → length files < 4294967294
files_few meta unit functions left files sequences numbers so few declared = omega (arith, so.few, few, declared)

behind_zero : (files : List SourceFile) (u : SourceFile) (more : List SourceFile) → files ≡ u ∷ more → drop 1 (entries_of files) ≡ map (entry_in (dirs_of files)) files
behind_zero [] u more is = absurd cc
behind_zero (f ∷ fs) u more is = refl

-- all functions are gone through
pub table_done : (meta : Maps) (unit : SourceFile) (functions left : List LinedFunction) (files : List SourceFile) (sequences : List Sequence)
    (numbers : List ℕ) (dirs : List (List ℕ)) (listed entries : List FileEntry)
    → TableSoFar meta unit functions left files sequences numbers → left ≡ [] → dirs ≡ dirs_of files → listed ≡ entries_of files → entries ≡ drop 1 listed
    → (record { dirs = dirs; files = entries; sequences = sequences } ≡ table_of meta unit functions) × (numbers ≡ numbers_of meta unit functions)
unfolding table_of
table_done meta unit functions left files sequences numbers dirs listed entries before none dirs_are listed_are entries_are =
    let so : TableSoFar meta unit functions [] files sequences numbers =
    subst (λ fs. TableSoFar meta unit functions fs files sequences numbers) none before in
    let all : files ≡ files_of meta unit functions = so.known in
    let same : files ++ [] ≡ files_of meta unit functions = append-nil files ∙ all in
    let longer = lengthened is_file (table_file unit ∷ []) (flat_map (uses_of meta unit) functions) in
    let first : files ≡ table_file unit ∷ longer.0 = all ∙ longer.1 in
    let dirs_all = dirs_are ∙ ap dirs_of all in
    let entries_all = entries_are ∙ ap (drop 1) listed_are ∙ behind_zero files (table_file unit) longer.0 first
    ∙ ap (λ fs. map (entry_in (dirs_of fs)) fs) all in
    let sequences_all = sym (append-nil sequences) ∙ so.listed [] ∙ ap (λ fs. map (sequence_of fs meta unit) functions) same in (
      λ i. record { dirs = dirs_all i; files = entries_all i; sequences = sequences_all i },
      sym (append-nil numbers) ∙ so.numbered [] ∙ ap (λ fs. number_all fs (flat_map declared_of functions)) same,
    )
