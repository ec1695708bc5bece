-- The table of a program, as its functions are gone through.
-- Plan: as with rows: the sequences listed, with those of the functions left, are all, whatever files join later. A function has at most as
-- many entries as words, so the files stay few.
use Rattle.std.proofs.Common.{◌≡◌, ℕ, suc, ◌+◌, ◌*◌, ◌≤◌, ◌<◌, Bool, true, false, cond, List, [], ◌∷◌, ◌++◌, map, length, refl, sym, ◌∙◌, ap, arith}
use Rattle.std.specs.Prelude.{Option}
use Rattle.std.proofs.Common.{append_assoc, append-nil, subst}
use Rattle.std.specs.List.{flat_map}
use Rattle.dwarf_line.specs.declared.table.Sequence.{Sequence}
use Rattle.read_metadata.specs.Maps.{Maps}
use Rattle.emit_code.specs.declared.code.EncodedInstruction.{EncodedInstruction}
use Rattle.emit_code.specs.Laid.{StandFrom}
use Rattle.dwarf_line_table.specs.declared.source_and_code.SourceAndCode.{SourceAndCode}
use Rattle.dwarf_line_table.specs.declared.file.SourceFile.{SourceFile}
use Rattle.dwarf_line.specs.declared.table.FileEntry.{FileEntry}
use Rattle.dwarf_line_table.specs.Files.{first_uses, is_file, unit_in, files_of, number_in, dirs_of, entries_of}
use Rattle.dwarf_line_table.specs.SourcePosition.{scope_file}
use Rattle.dwarf_line_table.specs.Program.{program_file, program_files, function_uses, sequences_of, table_of, files_with, table_with, scope_number}
use Rattle.dwarf_line_table.proofs.FirstUses.{lengthened, uses_append}

-- no more entries than words
pub few_entries : (address : ℕ) (es : List EncodedInstruction) (end : ℕ) → StandFrom address es end → address + 4 * length es ≤ end
few_entries address [] end at = omega (arith, at)
few_entries address (e ∷ es) end (here, sized, rest) =
    let after : address + e.size + 4 * length es ≤ end = few_entries (address + e.size) es end rest in
    by e.call sized after
  where
    by : (call : Bool) → e.size ≡ cond call 8 4 → address + e.size + 4 * length es ≤ end → address + 4 * suc (length es) ≤ end
    by true size after = omega (arith, size, after)
    by false size after = omega (arith, size, after)

pub entries_within : (base words : ℕ) (es listed : List EncodedInstruction) → StandFrom base es (base + 4 * words) → listed ≡ es → length listed ≤ words
entries_within base words es listed stand e =
    let few : base + 4 * length es ≤ base + 4 * words = few_entries base es (base + 4 * words) stand in
    let same : length listed ≡ length es = ap length e in
    omega (arith, few, same)

pub record TableSoFar (meta : Maps) (unit : SourceFile) (functions rest : List SourceAndCode) (files : List SourceFile)
    (sequences : List Sequence) : Type 0 where
  pub some : 0 < length files
  pub led : unit_in files ≡ unit
  pub few : length files + 262144 * length rest ≤ 1 + 262144 * length functions
  pub known : first_uses is_file files (flat_map (function_uses meta unit) rest) ≡ files_of unit (flat_map (function_uses meta unit) functions)
  pub listed : (more : List SourceFile) → sequences ++ flat_map (sequences_of (files ++ more) meta unit) rest ≡ flat_map
      (sequences_of (files ++ more) meta unit) functions

pub table_starts : (meta : Maps) (unit : SourceFile) (functions : List SourceAndCode) (files : List SourceFile) → files ≡ unit ∷ [] → TableSoFar meta unit
    functions functions files []
table_starts meta unit functions files e = record {
  some = let n : length files ≡ 1 = ap length e in omega (arith, n);
  led = ap unit_in e;
  few = let n : length files ≡ 1 = ap length e in omega (arith, n);
  known = ap (λ fs. first_uses is_file fs (flat_map (function_uses meta unit) functions)) e;
  listed = λ more. refl;
}

longer_unit : (files more : List SourceFile) → 0 < length files → (unit_in (files ++ more) ≡ unit_in files) × (0 < length (files ++ more))
longer_unit [] more some = absurd (omega (arith, some))
longer_unit (f ∷ fs) more some = (refl, omega arith)

pub table_next : (meta : Maps) (unit : SourceFile) (functions rest : List SourceAndCode) (f : SourceAndCode) (files files_ : List SourceFile)
    (sequences sequences_ : List Sequence)
    → TableSoFar meta unit functions (f ∷ rest) files sequences
    → files_ ≡ first_uses is_file files (function_uses meta (unit_in files) f)
    → ((more : List SourceFile) → sequences_ ≡ sequences ++ sequences_of (files_ ++ more) meta (unit_in files) f)
    → length files_ ≤ length files + 262144
    → TableSoFar meta unit functions rest files_ sequences_
table_next meta unit functions rest f files files_ sequences sequences_ so joins lists few =
    let longer = lengthened is_file files (function_uses meta (unit_in files) f) in
    let is : files_ ≡ files ++ longer.0 = joins ∙ longer.1 in
    let stays = longer_unit files longer.0 so.some in
    record {
      some = let P : List SourceFile → Type 0 = λ fs. 0 < length fs in subst P (sym is) stays.1;
      led = ap unit_in is ∙ stays.0 ∙ so.led;
      few = let so_few : length files + 262144 * suc (length rest) ≤ 1 + 262144 * length functions = so.few in omega (arith, so_few, few);
      known =
          ap (λ fs. first_uses is_file fs (flat_map (function_uses meta unit) rest))
          (joins ∙ ap (λ u. first_uses is_file files (function_uses meta u f)) so.led)
          ∙ sym (uses_append is_file files (function_uses meta unit f) (flat_map (function_uses meta unit) rest)) ∙ so.known;
      listed = λ more.
          let all : files_ ++ more ≡ files ++ (longer.0 ++ more) = ap (λ fs. fs ++ more) is ∙ append_assoc files longer.0 more in
          let P : List SourceFile → Type 0 = λ fs.
          sequences ++ flat_map (sequences_of fs meta unit) (f ∷ rest) ≡ flat_map (sequences_of fs meta unit) functions in
          ap (λ ss. ss ++ flat_map (sequences_of (files_ ++ more) meta unit) rest)
          (lists more ∙ ap (λ u. sequences ++ sequences_of (files_ ++ more) meta u f) so.led)
          ∙ append_assoc sequences (sequences_of (files_ ++ more) meta unit f) (flat_map (sequences_of (files_ ++ more) meta unit) rest)
          ∙ subst P (sym all) (so.listed (longer.0 ++ more));
    }

-- the files of a program once its functions are gone through, and with further ones
all_files : (meta : Maps) (functions : List SourceAndCode) (unit : SourceFile) (files : List SourceFile) (sequences : List Sequence) →
    unit ≡ program_file meta functions → TableSoFar meta unit functions [] files sequences → files ≡ program_files meta functions
all_files meta functions unit files sequences unit_is so = so.known ∙ ap (λ u. files_of u (flat_map (function_uses meta u) functions)) unit_is

joined_files : (meta : Maps) (functions : List SourceAndCode) (unit : SourceFile) (files joined : List SourceFile) (sequences : List Sequence)
    (further : List (Option ℕ)) → unit ≡ program_file meta functions → TableSoFar meta unit functions [] files sequences
    → joined ≡ first_uses is_file files (map (scope_file meta (unit_in files)) further) → joined ≡ files_with meta functions further
joined_files meta functions unit files joined sequences further unit_is so join =
    let all = all_files meta functions unit files sequences unit_is so in
    join ∙ ap (λ u. first_uses is_file files (map (scope_file meta u) further)) (so.led ∙ unit_is)
    ∙ ap (λ fs. first_uses is_file fs (map (scope_file meta (program_file meta functions)) further)) all

pub table_done_with : (meta : Maps) (functions : List SourceAndCode) (further : List (Option ℕ)) (unit : SourceFile) (files joined : List SourceFile)
    (sequences : List Sequence) (dirs : List (List ℕ)) (entries : List FileEntry)
    → unit ≡ program_file meta functions → TableSoFar meta unit functions [] files sequences
    → joined ≡ first_uses is_file files (map (scope_file meta (unit_in files)) further) → dirs ≡ dirs_of joined → entries ≡ entries_of joined
    → record { dirs = dirs; files = entries; sequences = sequences } ≡ table_with meta functions further
unfolding table_with
table_done_with meta functions further unit files joined sequences dirs entries unit_is so join dirs_are entries_are =
    let all : joined ≡ files_with meta functions further = joined_files meta functions unit files joined sequences further unit_is so join in
    let longer = lengthened is_file files (map (scope_file meta (unit_in files)) further) in
    let longer_is : files ++ longer.0 ≡ files_with meta functions further = sym (join ∙ longer.1) ∙ all in
    let listed : sequences ≡ flat_map (sequences_of (files_with meta functions further) meta (program_file meta functions)) functions =
    sym (append-nil sequences) ∙ so.listed longer.0
    ∙ ap (λ fs. flat_map (sequences_of fs meta unit) functions) longer_is
    ∙ ap (λ u. flat_map (sequences_of (files_with meta functions further) meta u) functions) unit_is in
    let dirs_all = dirs_are ∙ ap dirs_of all in
    let entries_all = entries_are ∙ ap entries_of all in
    λ i. record { dirs = dirs_all i; files = entries_all i; sequences = listed i }

pub numbers_done : (meta : Maps) (functions : List SourceAndCode) (further : List (Option ℕ)) (unit : SourceFile) (files joined : List SourceFile)
    (sequences : List Sequence) (numbers : List ℕ)
    → unit ≡ program_file meta functions → TableSoFar meta unit functions [] files sequences
    → joined ≡ first_uses is_file files (map (scope_file meta (unit_in files)) further)
    → ((more : List SourceFile) → numbers ≡ map (λ scope. number_in (joined ++ more) (scope_file meta (unit_in files) scope)) further)
    → numbers ≡ map (scope_number meta functions further) further
numbers_done meta functions further unit files joined sequences numbers unit_is so join are =
    let all : joined ++ [] ≡ files_with meta functions further =
    append-nil joined ∙ joined_files meta functions unit files joined sequences further unit_is so join in
    are [] ∙ ap (λ fs. map (λ scope. number_in fs (scope_file meta (unit_in files) scope)) further) all
    ∙ ap (λ u. map (λ scope. number_in (files_with meta functions further) (scope_file meta u scope)) further) (so.led ∙ unit_is)

-- without further files it is the table of the program
pub no_further : (meta : Maps) (functions : List SourceAndCode) → table_with meta functions [] ≡ table_of meta functions
unfolding table_with table_of
no_further meta functions = refl
