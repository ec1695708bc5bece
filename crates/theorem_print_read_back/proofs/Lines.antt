-- The lines of substitutions are read as these.
use Rattle.std.proofs.Common.{◌≡◌, ℕ, ◌+◌, Bool, true, false, cond, not, ◌||◌, List, [], ◌∷◌, ◌++◌, length, map, All, Option, Some, None}
use Rattle.std.proofs.Common.{refl, sym, ap, ◌∙◌, append_assoc, append-nil}
use Rattle.std.specs.Prelude.{codes}
use Rattle.std.specs.Fmt.{decimal}
use Rattle.std.specs.Str.{bytes_eq}
use Rattle.std.proofs.lemmas.List.Elements.{All-head, All-tail}
use Rattle.read_lexer.specs.declared.line.Line.{Line}
use Rattle.read_lexer.specs.declared.parts.Class.TheVariants as class
use Rattle.read_lexer.specs.declared.parts.Token.{Token}
use Rattle.read_lexer.specs.Comment.{before}
use Rattle.read_lexer.specs.Front.{token_at}
use Rattle.read_metadata.specs.Number.{integer_of}
use Rattle.mir_func.specs.declared.debug_substitution.DebugSubstitution as func
use Rattle.read_declarations.specs.declared.stream.YamlToken as stream
use Rattle.read_declarations.specs.declared.entry.MappingField.{MappingField}
use Rattle.read_declarations.specs.declared.entry.MappingEntry.{MappingEntry}
use Rattle.read_declarations.specs.declared.entry.Listing.{Listing}
use Rattle.read_declarations.specs.declared.entry.ParserState.TheVariants.{Outside, Key}
use Rattle.read_declarations.specs.FlowMapping.{has_key, entries_from}
use Rattle.read_declarations.specs.Field.{value_at, number_in, needed, given}
use Rattle.read_declarations.specs.List.{list_in}
use Rattle.read_declarations.specs.Stream.{piece_of, stream_from, text_at}
use Rattle.read_declarations.specs.Substitutions.{pair_of, substitution_with, substitution_of, substituted, substitutions_behind, substitutions_of}
use Rattle.readback_items.proofs.Cuts.{safe_passes, semicolon_mark}
use Rattle.readback_items.proofs.Lexing.{Piece, spelled}
use Rattle.readback_items.proofs.Phrases.{piece}
use Rattle.readback_items.proofs.Tokens.{word_read, single_read}
use Rattle.read_proof.specs.Read.{EntryIsLimited}
use Rattle.readback_functions.specs.Document.{lines_from}
use Rattle.readback_functions.proofs.Listed.{IsLexedLine, pieces_at, Stands, outside, IsEntryLine, AreEntryLines, AllMean, listed}
use Rattle.readback_functions.proofs.Spans.{token_of, line_texts}
use Rattle.readback_functions.proofs.EntryLines.{field_reads, number_read, open_reads, text_found, mark, field, close_reads, comma_reads, field_at, IsRead}
use Rattle.theorem_print_read_back.specs.Substitutions.{entry_line, AreNew, SubstitutionsReadBack}
use Rattle.theorem_print_read_back.proofs.Fields.{opened, open_step, field_step, comma_step, close_step}

-- ---- what an entry says

abbrev Means : List Line → List MappingField → func.DebugSubstitution → Type 0
Means lines fields e = substitution_of lines fields ≡ Some e

-- numbers that are read make a substitution
said : (a b c d f : Option ℕ) (v w x y z : ℕ) → a ≡ Some v → b ≡ Some w → c ≡ Some x → d ≡ Some y → f ≡ Some z →
    substitution_with (pair_of a b) (pair_of c d) f
    ≡ Some (record { src = record { number = v; operand = w }; dst = record { number = x; operand = y }; subreg = z })
said a b c d f v w x y z p q r s t = λ i. substitution_with (pair_of (p i) (q i)) (pair_of (r i) (s i)) (t i)

-- ---- the pieces of a line

abbrev behind_subreg : List Piece
behind_subreg = mark 1 125 ∷ []

abbrev behind_dstop : func.DebugSubstitution → List Piece
behind_dstop e = mark 0 44 ∷ field (codes "subreg") e.subreg behind_subreg

abbrev behind_dstinst : func.DebugSubstitution → List Piece
behind_dstinst e = mark 0 44 ∷ field (codes "dstop") e.dst.operand (behind_dstop e)

abbrev behind_srcop : func.DebugSubstitution → List Piece
behind_srcop e = mark 0 44 ∷ field (codes "dstinst") e.dst.number (behind_dstinst e)

abbrev behind_srcinst : func.DebugSubstitution → List Piece
behind_srcinst e = mark 0 44 ∷ field (codes "srcop") e.src.operand (behind_srcop e)

abbrev entry_pieces : func.DebugSubstitution → List Piece
entry_pieces e = mark 2 45 ∷ mark 1 123 ∷ field (codes "srcinst") e.src.number (behind_srcinst e)

entry_reads : (e : func.DebugSubstitution) → EntryIsLimited e → IsRead (entry_pieces e)
entry_reads e is =
    open_reads (field (codes "srcinst") e.src.number (behind_srcinst e))
    (field_reads 115 (codes "rcinst") e.src.number (behind_srcinst e) is.src.0 refl refl refl refl refl
    (comma_reads (field (codes "srcop") e.src.operand (behind_srcop e))
    (field_reads 115 (codes "rcop") e.src.operand (behind_srcop e) is.src.1 refl refl refl refl refl
    (comma_reads (field (codes "dstinst") e.dst.number (behind_dstinst e))
    (field_reads 100 (codes "stinst") e.dst.number (behind_dstinst e) is.dst.0 refl refl refl refl refl
    (comma_reads (field (codes "dstop") e.dst.operand (behind_dstop e))
    (field_reads 100 (codes "stop") e.dst.operand (behind_dstop e) is.dst.1 refl refl refl refl refl
    (comma_reads (field (codes "subreg") e.subreg behind_subreg)
    (field_reads 115 (codes "ubreg") e.subreg behind_subreg is.subreg refl refl refl refl refl close_reads)))))))))

-- ---- its fields

module _ (e : func.DebugSubstitution) (is : EntryIsLimited e) where
  abbrev pieces : List Piece
  pieces = entry_pieces e

  abbrev srcop_at : ℕ
  srcop_at = 15 + length (decimal e.src.number) + 0 + 1

  abbrev srcop_value_at : ℕ
  srcop_value_at = srcop_at + 1 + 5 + 0 + 1

  abbrev dstinst_at : ℕ
  dstinst_at = srcop_value_at + 1 + length (decimal e.src.operand) + 0 + 1

  abbrev dstinst_value_at : ℕ
  dstinst_value_at = dstinst_at + 1 + 7 + 0 + 1

  abbrev dstop_at : ℕ
  dstop_at = dstinst_value_at + 1 + length (decimal e.dst.number) + 0 + 1

  abbrev dstop_value_at : ℕ
  dstop_value_at = dstop_at + 1 + 5 + 0 + 1

  abbrev subreg_at : ℕ
  subreg_at = dstop_value_at + 1 + length (decimal e.dst.operand) + 0 + 1

  abbrev subreg_value_at : ℕ
  subreg_value_at = subreg_at + 1 + 6 + 0 + 1

  abbrev srcinst : Token
  srcinst = token_of 5 (piece 1 class.Word (codes "srcinst"))

  abbrev srcinst_value : Token
  srcinst_value = token_of 14 (piece 1 class.Integer (decimal e.src.number))

  abbrev srcop : Token
  srcop = token_of srcop_at (piece 1 class.Word (codes "srcop"))

  abbrev srcop_value : Token
  srcop_value = token_of srcop_value_at (piece 1 class.Integer (decimal e.src.operand))

  abbrev dstinst : Token
  dstinst = token_of dstinst_at (piece 1 class.Word (codes "dstinst"))

  abbrev dstinst_value : Token
  dstinst_value = token_of dstinst_value_at (piece 1 class.Integer (decimal e.dst.number))

  abbrev dstop : Token
  dstop = token_of dstop_at (piece 1 class.Word (codes "dstop"))

  abbrev dstop_value : Token
  dstop_value = token_of dstop_value_at (piece 1 class.Integer (decimal e.dst.operand))

  abbrev subreg : Token
  subreg = token_of subreg_at (piece 1 class.Word (codes "subreg"))

  abbrev subreg_value : Token
  subreg_value = token_of subreg_value_at (piece 1 class.Integer (decimal e.subreg))

  abbrev fields : ℕ → ℕ → List MappingField
  fields at n =
      field_at at n srcinst srcinst_value ∷ field_at at n srcop srcop_value ∷ field_at at n dstinst dstinst_value ∷ field_at at n dstop dstop_value ∷
      field_at at n subreg subreg_value ∷ []

  record Texts (lines : List Line) (at n : ℕ) : Type 0 where
    srcinst_is : text_at lines (piece_of at n srcinst) ≡ codes "srcinst"
    srcinst_value_is : text_at lines (piece_of at n srcinst_value) ≡ decimal e.src.number
    srcop_is : text_at lines (piece_of at n srcop) ≡ codes "srcop"
    srcop_value_is : text_at lines (piece_of at n srcop_value) ≡ decimal e.src.operand
    dstinst_is : text_at lines (piece_of at n dstinst) ≡ codes "dstinst"
    dstinst_value_is : text_at lines (piece_of at n dstinst_value) ≡ decimal e.dst.number
    dstop_is : text_at lines (piece_of at n dstop) ≡ codes "dstop"
    dstop_value_is : text_at lines (piece_of at n dstop_value) ≡ decimal e.dst.operand
    subreg_is : text_at lines (piece_of at n subreg) ≡ codes "subreg"
    subreg_value_is : text_at lines (piece_of at n subreg_value) ≡ decimal e.subreg

  texts : (lines : List Line) (at n : ℕ) → Stands lines at n pieces → Texts lines at n
  texts lines at n stands =
      let ts = line_texts pieces in
      record {
        srcinst_is = text_found lines at n pieces srcinst (codes "srcinst") stands ts.1.1.0;
        srcinst_value_is = text_found lines at n pieces srcinst_value (decimal e.src.number) stands ts.1.1.1.1.0;
        srcop_is = text_found lines at n pieces srcop (codes "srcop") stands ts.1.1.1.1.1.1.0;
        srcop_value_is = text_found lines at n pieces srcop_value (decimal e.src.operand) stands ts.1.1.1.1.1.1.1.1.0;
        dstinst_is = text_found lines at n pieces dstinst (codes "dstinst") stands ts.1.1.1.1.1.1.1.1.1.1.0;
        dstinst_value_is = text_found lines at n pieces dstinst_value (decimal e.dst.number) stands ts.1.1.1.1.1.1.1.1.1.1.1.1.0;
        dstop_is = text_found lines at n pieces dstop (codes "dstop") stands ts.1.1.1.1.1.1.1.1.1.1.1.1.1.1.0;
        dstop_value_is = text_found lines at n pieces dstop_value (decimal e.dst.operand) stands ts.1.1.1.1.1.1.1.1.1.1.1.1.1.1.1.1.0;
        subreg_is = text_found lines at n pieces subreg (codes "subreg") stands ts.1.1.1.1.1.1.1.1.1.1.1.1.1.1.1.1.1.1.0;
        subreg_value_is = text_found lines at n pieces subreg_value (decimal e.subreg) stands ts.1.1.1.1.1.1.1.1.1.1.1.1.1.1.1.1.1.1.1.1.0;
      }

  module _ (lines : List Line) (at n : ℕ) (ts : Texts lines at n) where
    -- the pieces of a token behind a key, and behind a value
    abbrev colon_at : ℕ → stream.YamlToken
    colon_at place = piece_of at n (token_of place (mark 0 58))

    abbrev comma_at : ℕ → stream.YamlToken
    comma_at place = piece_of at n (token_of place (mark 0 44))

    abbrev one : MappingField
    one = field_at at n srcinst srcinst_value

    abbrev two : MappingField
    two = field_at at n srcop srcop_value

    abbrev three : MappingField
    three = field_at at n dstinst dstinst_value

    abbrev four : MappingField
    four = field_at at n dstop dstop_value

    abbrev five : MappingField
    five = field_at at n subreg subreg_value

    new_two : not (has_key lines (one ∷ []) two.key) ≡ true
    new_two = λ i. not (bytes_eq (ts.srcinst_is i) (ts.srcop_is i) || false)

    new_three : not (has_key lines (one ∷ two ∷ []) three.key) ≡ true
    new_three = λ i. not (bytes_eq (ts.srcinst_is i) (ts.dstinst_is i) || (bytes_eq (ts.srcop_is i) (ts.dstinst_is i) || false))

    new_four : not (has_key lines (one ∷ two ∷ three ∷ []) four.key) ≡ true
    new_four = λ i. not (bytes_eq (ts.srcinst_is i) (ts.dstop_is i) || (bytes_eq (ts.srcop_is i) (ts.dstop_is i)
        || (bytes_eq (ts.dstinst_is i) (ts.dstop_is i) || false)))

    new_five : not (has_key lines (one ∷ two ∷ three ∷ four ∷ []) five.key) ≡ true
    new_five = λ i. not (bytes_eq (ts.srcinst_is i) (ts.subreg_is i) || (bytes_eq (ts.srcop_is i) (ts.subreg_is i)
        || (bytes_eq (ts.dstinst_is i) (ts.subreg_is i) || (bytes_eq (ts.dstop_is i) (ts.subreg_is i) || false))))

    module _ (cut : Bool) (es : List MappingEntry) (rest : List stream.YamlToken) where
      abbrev closing : List stream.YamlToken
      closing = piece_of at n (token_of (subreg_value_at + 1 + length (decimal e.subreg)) (mark 1 125)) ∷ rest

      abbrev from_five : List stream.YamlToken
      from_five = five.key ∷ colon_at (subreg_at + 1 + 6) ∷ five.value ∷ closing

      abbrev from_four : List stream.YamlToken
      from_four = four.key ∷ colon_at (dstop_at + 1 + 5) ∷ four.value ∷ comma_at (dstop_value_at + 1 + length (decimal e.dst.operand)) ∷ from_five

      abbrev from_three : List stream.YamlToken
      from_three = three.key ∷ colon_at (dstinst_at + 1 + 7) ∷ three.value ∷ comma_at (dstinst_value_at + 1 + length (decimal e.dst.number)) ∷ from_four

      abbrev from_two : List stream.YamlToken
      from_two = two.key ∷ colon_at (srcop_at + 1 + 5) ∷ two.value ∷ comma_at (srcop_value_at + 1 + length (decimal e.src.operand)) ∷ from_three

      abbrev from_one : List stream.YamlToken
      from_one = one.key ∷ colon_at 13 ∷ one.value ∷ comma_at (15 + length (decimal e.src.number)) ∷ from_two

      step_five : entries_from lines cut (opened es Key n (one ∷ two ∷ three ∷ four ∷ [])) from_five
          ≡ entries_from lines cut (opened (es ++ record { line = n; fields = fields at n } ∷ []) Outside n []) rest
      step_five =
          field_step lines cut es n (one ∷ two ∷ three ∷ four ∷ []) five.key (colon_at (subreg_at + 1 + 6)) five.value closing refl refl new_five
          ∙ close_step lines cut es n (fields at n) (piece_of at n (token_of (subreg_value_at + 1 + length (decimal e.subreg)) (mark 1 125))) rest refl refl

      step_four : entries_from lines cut (opened es Key n (one ∷ two ∷ three ∷ [])) from_four
          ≡ entries_from lines cut (opened es Key n (one ∷ two ∷ three ∷ four ∷ [])) from_five
      step_four =
          let comma = comma_at (dstop_value_at + 1 + length (decimal e.dst.operand)) in
          field_step lines cut es n (one ∷ two ∷ three ∷ []) four.key (colon_at (dstop_at + 1 + 5)) four.value (comma ∷ from_five) refl refl new_four
          ∙ comma_step lines cut es n (one ∷ two ∷ three ∷ four ∷ []) comma from_five refl

      step_three : entries_from lines cut (opened es Key n (one ∷ two ∷ [])) from_three
          ≡ entries_from lines cut (opened es Key n (one ∷ two ∷ three ∷ [])) from_four
      step_three =
          let comma = comma_at (dstinst_value_at + 1 + length (decimal e.dst.number)) in
          field_step lines cut es n (one ∷ two ∷ []) three.key (colon_at (dstinst_at + 1 + 7)) three.value (comma ∷ from_four) refl refl new_three
          ∙ comma_step lines cut es n (one ∷ two ∷ three ∷ []) comma from_four refl

      step_two : entries_from lines cut (opened es Key n (one ∷ [])) from_two ≡ entries_from lines cut (opened es Key n (one ∷ two ∷ [])) from_three
      step_two =
          let comma = comma_at (srcop_value_at + 1 + length (decimal e.src.operand)) in
          field_step lines cut es n (one ∷ []) two.key (colon_at (srcop_at + 1 + 5)) two.value (comma ∷ from_three) refl refl new_two
          ∙ comma_step lines cut es n (one ∷ two ∷ []) comma from_three refl

      step_one : entries_from lines cut (opened es Key n []) from_one ≡ entries_from lines cut (opened es Key n (one ∷ [])) from_two
      step_one =
          let comma = comma_at (15 + length (decimal e.src.number)) in
          field_step lines cut es n [] one.key (colon_at 13) one.value (comma ∷ from_two) refl refl refl
          ∙ comma_step lines cut es n (one ∷ []) comma from_two refl

    entry_read : (cut : Bool) (es : List MappingEntry) (last : ℕ) (rest : List stream.YamlToken) →
        entries_from lines cut (outside es last) (pieces_at at n pieces ++ rest)
        ≡ entries_from lines cut (outside (es ++ record { line = n; fields = fields at n } ∷ []) n) rest
    entry_read cut es last rest =
        open_step lines cut es last (piece_of at n (token_of 0 (mark 2 45))) (piece_of at n (token_of 3 (mark 1 123))) (from_one cut es rest) refl refl
        ∙ (step_one cut es rest ∙ (step_two cut es rest ∙ (step_three cut es rest ∙ (step_four cut es rest ∙ step_five cut es rest))))

    -- the value of a key, by the texts of all keys
    abbrev found : (key one two three four five : List ℕ) → Option stream.YamlToken
    found key one two three four five =
        cond (bytes_eq one key) (Some (piece_of at n srcinst_value)) (cond (bytes_eq two key) (Some (piece_of at n srcop_value))
        (cond (bytes_eq three key) (Some (piece_of at n dstinst_value)) (cond (bytes_eq four key) (Some (piece_of at n dstop_value))
        (cond (bytes_eq five key) (Some (piece_of at n subreg_value)) None))))

    found_is : (key : List ℕ) →
        value_at lines key (fields at n) ≡ found key (codes "srcinst") (codes "srcop") (codes "dstinst") (codes "dstop") (codes "subreg")
    unfolding value_at
    found_is key = λ i. found key (ts.srcinst_is i) (ts.srcop_is i) (ts.dstinst_is i) (ts.dstop_is i) (ts.subreg_is i)

    entry_says : Means lines (fields at n) e
    entry_says =
        said (needed lines (codes "srcinst") (fields at n)) (needed lines (codes "srcop") (fields at n)) (needed lines (codes "dstinst") (fields at n))
        (needed lines (codes "dstop") (fields at n)) (given lines (codes "subreg") 0 (fields at n)) e.src.number e.src.operand e.dst.number e.dst.operand
        e.subreg
        (ap (number_in lines None) (found_is (codes "srcinst")) ∙ (ap integer_of ts.srcinst_value_is ∙ number_read e.src.number is.src.0))
        (ap (number_in lines None) (found_is (codes "srcop")) ∙ (ap integer_of ts.srcop_value_is ∙ number_read e.src.operand is.src.1))
        (ap (number_in lines None) (found_is (codes "dstinst")) ∙ (ap integer_of ts.dstinst_value_is ∙ number_read e.dst.number is.dst.0))
        (ap (number_in lines None) (found_is (codes "dstop")) ∙ (ap integer_of ts.dstop_value_is ∙ number_read e.dst.operand is.dst.1))
        (ap (number_in lines (Some 0)) (found_is (codes "subreg")) ∙ (ap integer_of ts.subreg_value_is ∙ number_read e.subreg is.subreg))

  entry_is : IsEntryLine Means pieces e
  unfolding list_in
  entry_is = record {
    lexed = (let read = entry_reads e is in record { reads = read.all; passes = read.passes });
    opens = λ lines cut at n rest. refl;
    fields = fields;
    read = λ lines at n stands. entry_read lines at n (texts lines at n stands);
    means = λ lines at n stands. entry_says lines at n (texts lines at n stands);
  }

-- ---- all lines

all_entries : (es : List func.DebugSubstitution) → All EntryIsLimited es → AreEntryLines Means (map entry_pieces es) es
all_entries [] all = tt
all_entries (e ∷ es) all = (entry_is e (All-head EntryIsLimited e es all), all_entries es (All-tail EntryIsLimited e es all))

spelled_lines : (es : List func.DebugSubstitution) → map spelled (map entry_pieces es) ≡ map entry_line es
spelled_lines [] = refl
spelled_lines (e ∷ es) = ap (λ (l : List (List ℕ)). entry_line e ∷ l) (spelled_lines es)

key_reads : IsLexedLine (piece 0 class.Word (codes "debugValueSubstitutions") ∷ mark 0 58 ∷ [])
unfolding token_at before
key_reads = record {
  reads = (word_read 100 (codes "ebugValueSubstitutions") (58 ∷ []) refl refl refl refl, (single_read 58 [] (λ at after. refl) refl, tt));
  passes = (safe_passes (59 ∷ []) semicolon_mark (codes "debugValueSubstitutions") (58 ∷ []) refl, (refl, tt));
}

all_taken : (lines : List Line) (front : List func.DebugSubstitution) (entries : List MappingEntry) (es : List func.DebugSubstitution) →
    AllMean Means lines entries es → AreNew front es →
    substitutions_behind lines (record { entries = front; refused = None }) entries ≡ record { entries = front ++ es; refused = None }
unfolding substitutions_behind
all_taken lines front [] [] all new = ap (λ (l : List func.DebugSubstitution). record { entries = l; refused = None }) (sym (append-nil front))
all_taken lines front [] (e ∷ es) all new = absurd all
all_taken lines front (x ∷ xs) [] all new = absurd all
all_taken lines front (x ∷ xs) (e ∷ es) all new =
    ap (λ (o : Option func.DebugSubstitution). substitutions_behind lines (substituted (record { entries = front; refused = None }) x.line o) xs) all.0
    ∙ (ap (λ (t : Bool). substitutions_behind lines (record { entries = cond t front (front ++ e ∷ []); refused = None }) xs) new.0
    ∙ (all_taken lines (front ++ e ∷ []) xs es all.1 new.1
    ∙ ap (λ (l : List func.DebugSubstitution). record { entries = l; refused = None }) (append_assoc front (e ∷ []) es)))

some_read : (n : ℕ) (es : List func.DebugSubstitution) → All EntryIsLimited es → AreNew [] es →
    substitutions_of (lines_from n (codes "debugValueSubstitutions:" ∷ map entry_line es)) ≡ record { entries = es; refused = None }
some_read n es all new =
    let pss = map entry_pieces es in
    let read = listed Means n (piece 0 class.Word (codes "debugValueSubstitutions")) (mark 0 58) pss es key_reads (all_entries es all) in
    let lines = lines_from n (codes "debugValueSubstitutions:" ∷ map spelled pss) in
    ap (λ (l : List (List ℕ)). substitutions_of (lines_from n (codes "debugValueSubstitutions:" ∷ l))) (sym (spelled_lines es))
    ∙ (ap (λ (l : Listing). substitutions_behind lines (record { entries = []; refused = l.refused }) l.entries) read.are
    ∙ all_taken lines [] read.entries es read.mean new)

none_read : (n : ℕ) → substitutions_of (lines_from n []) ≡ record { entries = []; refused = None }
unfolding substitutions_behind list_in entries_from stream_from
none_read n = refl

pub substitutions_read_back : SubstitutionsReadBack
substitutions_read_back n [] all new = none_read n
substitutions_read_back n (e ∷ es) all new = some_read n (e ∷ es) all new
