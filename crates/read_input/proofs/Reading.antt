-- What a reader knows of a text, from call to call.
use Rattle.std.proofs.Common.{◌≡◌, ◌==◌, ℕ, ◌+◌, ◌-◌, Bool, true, false, List, [], ◌∷◌, ◌++◌, length, take, drop, Some, None, Ok, All, refl, sym, ap, subst}
use Rattle.std.proofs.Common.{◌∙◌, append_assoc}
use Rattle.std.specs.Prelude.{is_some, position}
use Rattle.std.specs.Str.Lines.{lines, strip_carriage_return}
use Rattle.std.proofs.lemmas.List.{append-nil, take_rest}
use Rattle.std.proofs.lemmas.List.Elements.{All-nil, All-append}
use Rattle.read_metadata.specs.Maps.{Maps}
use Rattle.read_documents.specs.declared.parts.Documents.{Documents}
use Rattle.read_documents.specs.Documents.{documents_of}
use Rattle.read_documents.specs.steps.Scan.{start}
use Rattle.read_documents.proofs.Scanned.{scan-lines_of}
use Rattle.read_program.specs.Program.{FunctionsFrom}
use Rattle.read_input.specs.declared.partial.PartialProgram.{PartialProgram}
use Rattle.read_input.specs.declared.reader.ProgramReader.{ProgramReader}
use Rattle.read_input.specs.Reading.{Knows, goes_on, IsReadingOf}
use Rattle.read_input.proofs.Lines.{lines-ended, none-without, none-before, passed-line}
use Rattle.read_input.proofs.Program.{knows-refused}

-- before the first byte
abbrev nothing : (linked : Bool) → PartialProgram
nothing linked = record { lines = 0; scan = start linked; meta = None; functions = []; refused = None }

-- no document was read
none_read : (meta : Maps) → FunctionsFrom meta [] [] (Ok [])
unfolding FunctionsFrom
none_read meta = refl

knows-start : (linked : Bool) (future : List ℕ) → Knows (nothing linked) (documents_of linked ([] ++ future)) (lines ([] ++ future))
knows-start linked future = goes_on [] [] refl (refl, none_read) (sym (scan-lines_of linked future))

pub reading-start : (linked : Bool) (r : ProgramReader) → r.line ≡ [] → r.program ≡ nothing linked → IsReadingOf linked r []
reading-start linked r empty same = record {
  one_line = subst (All (λ (b : ℕ). (b == 10) ≡ false)) (sym empty) (All-nil (λ (b : ℕ). (b == 10) ≡ false));
  knows = λ future. subst (λ (line : List ℕ). Knows r.program (documents_of linked ([] ++ future)) (lines (line ++ future))) (sym empty) (subst (λ (p :
      PartialProgram). Knows p (documents_of linked ([] ++ future)) (lines ([] ++ future))) (sym same) (knows-start linked future));
}

-- behind the LF of a line, by what is known where its bytes have come
at_line_end : (linked : Bool) (r : ProgramReader) (front : List ℕ) → IsReadingOf linked r front → (future : List ℕ) →
    Knows r.program (documents_of linked ((front ++ 10 ∷ []) ++ future)) (strip_carriage_return r.line ∷ lines future)
at_line_end linked r front reading future =
    let all = append_assoc front (10 ∷ []) future in
    let cut = lines-ended r.line future reading.one_line in
    subst (λ (text : List ℕ). Knows r.program (documents_of linked text) (strip_carriage_return r.line ∷ lines future)) (sym all)
    (subst (λ (ls : List (List ℕ)). Knows r.program (documents_of linked (front ++ 10 ∷ future)) ls) cut (reading.knows (10 ∷ future)))

-- a line has ended and was taken
pub reading-line : (linked : Bool) (r s : ProgramReader) (front : List ℕ) → IsReadingOf linked r front → s.line ≡ [] →
    ((documents : Documents) (behind : List (List ℕ)) → Knows r.program documents (strip_carriage_return r.line ∷ behind) →
    Knows s.program documents behind) →
    IsReadingOf linked s (front ++ 10 ∷ [])
reading-line linked r s front reading empty takes = record {
  one_line = subst (All (λ (b : ℕ). (b == 10) ≡ false)) (sym empty) (All-nil (λ (b : ℕ). (b == 10) ≡ false));
  knows = λ future. subst (λ (line : List ℕ). Knows s.program (documents_of linked ((front ++ 10 ∷ []) ++ future)) (lines (line ++ future))) (sym empty) (takes
      (documents_of linked ((front ++ 10 ∷ []) ++ future)) (lines future) (at_line_end linked r front reading future));
}

-- more bytes of a line
pub reading-bytes : (linked : Bool) (r s : ProgramReader) (front bytes : List ℕ) → s.program ≡ r.program → s.line ≡ r.line ++ bytes →
    All (λ b. (b == 10) ≡ false) bytes → IsReadingOf linked r front →
    IsReadingOf linked s (front ++ bytes)
reading-bytes linked r s front bytes same more none reading = record {
  one_line = subst (All (λ (b : ℕ). (b == 10) ≡ false)) (sym more) (All-append (λ (b : ℕ). (b == 10) ≡ false) r.line bytes reading.one_line none);
  knows = λ future.
      let text = sym (append_assoc front bytes future) in
      let line : r.line ++ (bytes ++ future) ≡ s.line ++ future =
      sym (append_assoc r.line bytes future) ∙ ap (λ xs. xs ++ future) (sym more) in
      let program = sym same in
      subst (λ (p : PartialProgram). Knows p (documents_of linked ((front ++ bytes) ++ future)) (lines (s.line ++ future))) program
      (subst (λ (xs : List ℕ). Knows r.program (documents_of linked ((front ++ bytes) ++ future)) (lines xs)) line
      (subst (λ (xs : List ℕ). Knows r.program (documents_of linked xs) (lines (r.line ++ (bytes ++ future)))) text (reading.knows (bytes ++ future))));
}

-- where a line was refused, bytes change nothing
pub reading-refused : (linked : Bool) (r : ProgramReader) (front bytes : List ℕ) → is_some r.program.refused ≡ true → IsReadingOf linked r front →
    IsReadingOf linked r (front ++ bytes)
reading-refused linked r front bytes is reading = record {
  one_line = reading.one_line;
  knows = λ future. knows-refused r.program (documents_of linked ((front ++ bytes) ++ future)) (lines (r.line ++ (bytes ++ future))) (lines (r.line ++
      future)) is (subst (λ (xs : List ℕ). Knows r.program (documents_of linked xs) (lines (r.line ++ (bytes ++ future)))) (sym (append_assoc front bytes
      future)) (reading.knows (bytes ++ future)));
}

-- ---- the bytes of a piece

-- what was passed of a piece, where the rest is left
abbrev pub IsPassed : (before now : ProgramReader) → (bytes rest : List ℕ) → Type 0
IsPassed before now bytes rest =
    (linked : Bool) (front : List ℕ) → IsReadingOf linked before front →
    (passed : List ℕ) × (bytes ≡ passed ++ rest) × IsReadingOf linked now (front ++ passed)

pub passed-none : (r : ProgramReader) (bytes : List ℕ) → IsPassed r r bytes bytes
passed-none r bytes = λ linked front reading. ([], refl, subst (IsReadingOf linked r) (sym (append-nil front)) reading)

module _ (before now : ProgramReader) (bytes rest : List ℕ) (so_far : IsPassed before now bytes rest) (linked : Bool) (front : List ℕ)
    (reading : IsReadingOf linked before front)
  where
    -- a line and its LF
    pub passed-more : (held next : ProgramReader) (end : ℕ) → Some end ≡ position (λ b. b == 10) rest → held.program ≡ now.program →
        held.line ≡ now.line ++ take end rest → ((f : List ℕ) → IsReadingOf linked held f → IsReadingOf linked next (f ++ 10 ∷ [])) →
        (passed : List ℕ) × (bytes ≡ passed ++ take (length rest - (end + 1)) (drop (end + 1) rest)) × IsReadingOf linked next (front ++ passed)
    passed-more held next end is same more ends =
        let here = so_far linked front reading in
        let line = take end rest in
        let begun = reading-bytes linked now held (front ++ here.0) line same more (none-before rest end is) here.2 in
        let all : ((front ++ here.0) ++ line) ++ 10 ∷ [] ≡ front ++ (here.0 ++ (line ++ 10 ∷ [])) =
        append_assoc (front ++ here.0) line (10 ∷ []) ∙ append_assoc front here.0 (line ++ 10 ∷ []) in
        let passed = here.0 ++ (line ++ 10 ∷ []) in
        let cut = passed-line rest end is bytes here.0 here.1 ∙ ap (λ (left : List ℕ). passed ++ left) (sym (take_rest rest (end + 1))) in
        (passed, cut, subst (IsReadingOf linked next) all (ends ((front ++ here.0) ++ line) begun))

    all_passed : (r : ProgramReader) → IsReadingOf linked r ((front ++ (so_far linked front reading).0) ++ rest) → IsReadingOf linked r (front ++ bytes)
    all_passed r read =
        let here = so_far linked front reading in
        subst (IsReadingOf linked r) (append_assoc front here.0 rest ∙ ap (λ xs. front ++ xs) (sym here.1)) read

    -- bytes without an LF
    pub passed-open : (held : ProgramReader) → None ≡ position (λ b. b == 10) rest → held.program ≡ now.program → held.line ≡ now.line ++ rest →
        IsReadingOf linked held (front ++ bytes)
    passed-open held is same more =
        let here = so_far linked front reading in
        all_passed held (reading-bytes linked now held (front ++ here.0) rest same more (none-without rest is) here.2)

    -- bytes behind a refusal
    pub passed-refused : is_some now.program.refused ≡ true → IsReadingOf linked now (front ++ bytes)
    passed-refused is = let here = so_far linked front reading in all_passed now (reading-refused linked now (front ++ here.0) rest is here.2)
