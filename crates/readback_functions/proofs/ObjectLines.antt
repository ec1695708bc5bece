-- The line of an object is read as its entry, with a local offset or without.
use Rattle.std.proofs.Common.{◌≡◌, ℕ, ◌+◌, ◌≤◌, Bool, true, false, cond, not, ◌||◌, eqb, List, [], ◌∷◌, ◌++◌, length, map}
use Rattle.std.proofs.Common.{Option, Some, None, refl, ap, ◌∙◌, arith}
use Rattle.std.specs.Prelude.{codes}
use Rattle.std.specs.Fmt.{decimal}
use Rattle.std.specs.Str.{bytes_eq}
use Rattle.std.proofs.lemmas.Bool.{cond-true, eqb-true}
use Rattle.base_ids.specs.Limits.{MAX_NUMBER}
use Rattle.read_lexer.specs.declared.line.Line.{Line}
use Rattle.read_lexer.specs.declared.parts.Class.TheVariants as class
use Rattle.read_lexer.specs.declared.parts.Token.{Token}
use Rattle.read_metadata.specs.Number.{integer_of}
use Rattle.mir_func.specs.declared.object.Object.{Object}
use Rattle.read_declarations.specs.declared.stream.YamlToken as stream
use Rattle.read_declarations.specs.declared.entry.MappingField.{MappingField}
use Rattle.read_declarations.specs.declared.entry.MappingEntry.{MappingEntry}
use Rattle.read_declarations.specs.declared.entry.OpenList.{OpenList}
use Rattle.read_declarations.specs.declared.entry.ParserState.TheVariants.{Next}
use Rattle.read_declarations.specs.declared.stack.StackEntry.{StackEntry}
use Rattle.read_declarations.specs.FlowMapping.{has_key, entries_from}
use Rattle.read_declarations.specs.Field.{value_at, number_in, negated_of, negated_in}
use Rattle.read_declarations.specs.List.{list_in}
use Rattle.read_declarations.specs.Stack.{is_alignment}
use Rattle.read_declarations.specs.Stream.{piece_of, text_at}
use Rattle.readback_items.proofs.Lexing.{Piece, spelled}
use Rattle.readback_items.proofs.Phrases.{piece}
use Rattle.readback_functions.specs.Declared.{line_end, object_entry, IsEntry}
use Rattle.readback_functions.proofs.Listed.{pieces_at, Stands, outside, IsEntryLine}
use Rattle.readback_functions.proofs.Spans.{token_of, tokens_at, line_texts}
use Rattle.readback_functions.proofs.EntryLines.{number_read, negated_read, mark, numbers_pieces, local_field, end_pieces}
use Rattle.readback_functions.proofs.EntryLines.{object_pieces, numbers_read, Means, text_found, says_entry, field_at}

-- in an entry, after its fields so far
abbrev open_entry : List MappingEntry → ℕ → List MappingField → OpenList
open_entry es line fields = record { entries = es; place = Next; line = line; fields = fields }

-- an object's numbers
module _ (id size align : ℕ) where
  abbrev id_key : Token
  id_key = token_of 5 (piece 1 class.Word (codes "id"))

  abbrev id_value : Token
  id_value = token_of 9 (piece 1 class.Integer (decimal id))

  abbrev size_key : Token
  size_key = token_of (10 + length (decimal id) + 0 + 1) (piece 1 class.Word (codes "size"))

  abbrev size_place : ℕ
  size_place = 10 + length (decimal id) + 0 + 1 + 1 + 4 + 0 + 1

  abbrev size_value : Token
  size_value = token_of size_place (piece 1 class.Integer (decimal size))

  abbrev align_key : Token
  align_key = token_of (size_place + 1 + length (decimal size) + 0 + 1) (piece 1 class.Word (codes "alignment"))

  abbrev align_place : ℕ
  align_place = size_place + 1 + length (decimal size) + 0 + 1 + 1 + 9 + 0 + 1

  abbrev align_value : Token
  align_value = token_of align_place (piece 1 class.Integer (decimal align))

  -- where the numbers end
  abbrev numbers_end : ℕ
  numbers_end = align_place + 1 + length (decimal align)

  abbrev local_key : Token
  local_key = token_of (numbers_end + 0 + 1) (piece 1 class.Word (codes "local-offset"))

  abbrev local_value : ℕ → Token
  local_value k = token_of (numbers_end + 0 + 1 + 1 + 12 + 0 + 1) (piece 1 class.Integer (45 ∷ decimal k))

  abbrev numbers_fields : ℕ → ℕ → List MappingField → List MappingField
  numbers_fields at n more = field_at at n id_key id_value ∷ field_at at n size_key size_value ∷ field_at at n align_key align_value ∷ more

  record ObjectTexts (lines : List Line) (at n : ℕ) : Type 0 where
    id_text : text_at lines (piece_of at n id_key) ≡ codes "id"
    id_is : text_at lines (piece_of at n id_value) ≡ decimal id
    size_text : text_at lines (piece_of at n size_key) ≡ codes "size"
    size_is : text_at lines (piece_of at n size_value) ≡ decimal size
    align_text : text_at lines (piece_of at n align_key) ≡ codes "alignment"
    align_is : text_at lines (piece_of at n align_value) ≡ decimal align

  record LocalTexts (k : ℕ) (lines : List Line) (at n : ℕ) : Type 0 where
    numbers : ObjectTexts lines at n
    local_text : text_at lines (piece_of at n local_key) ≡ codes "local-offset"
    local_is : text_at lines (piece_of at n (local_value k)) ≡ 45 ∷ decimal k

  module _ (more : List Piece) where
    abbrev with_more : List Piece
    with_more = numbers_pieces id size align more

    object_texts : (lines : List Line) (at n : ℕ) → Stands lines at n with_more → ObjectTexts lines at n
    object_texts lines at n stands =
        let ts = line_texts with_more in
        record {
          id_text = text_found lines at n with_more id_key (codes "id") stands ts.1.1.0;
          id_is = text_found lines at n with_more id_value (decimal id) stands ts.1.1.1.1.0;
          size_text = text_found lines at n with_more size_key (codes "size") stands ts.1.1.1.1.1.1.0;
          size_is = text_found lines at n with_more size_value (decimal size) stands ts.1.1.1.1.1.1.1.1.0;
          align_text = text_found lines at n with_more align_key (codes "alignment") stands ts.1.1.1.1.1.1.1.1.1.1.0;
          align_is = text_found lines at n with_more align_value (decimal align) stands ts.1.1.1.1.1.1.1.1.1.1.1.1.0;
        }

    -- after these fields
    numbers_met : (lines : List Line) (at n : ℕ) → ObjectTexts lines at n → (cut : Bool) (es : List MappingEntry) (last : ℕ) (rest : List stream.YamlToken) →
        entries_from lines cut (outside es last) (pieces_at at n with_more ++ rest)
        ≡ entries_from lines cut (open_entry es n (numbers_fields at n [])) (map (piece_of at n) (tokens_at numbers_end more) ++ rest)
    unfolding entries_from
    numbers_met lines at n ts cut es last rest =
        cond-true (not (has_key lines (field_at at n id_key id_value ∷ []) (piece_of at n size_key))) _ _
        (λ i. not (bytes_eq (ts.id_text i) (ts.size_text i) || false))
        ∙ cond-true (not (has_key lines (field_at at n id_key id_value ∷ field_at at n size_key size_value ∷ []) (piece_of at n align_key))) _ _
        (λ i. not (bytes_eq (ts.id_text i) (ts.align_text i) || (bytes_eq (ts.size_text i) (ts.align_text i) || false)))

  aligned_small : is_alignment align ≡ true → align ≤ MAX_NUMBER
  aligned_small is = by (eqb align 1) (eqb align 2) (eqb align 4) (eqb align 8) (eqb align 16) refl refl refl refl refl is where
    at : (n : ℕ) → eqb align n ≡ true → n ≤ MAX_NUMBER → align ≤ MAX_NUMBER
    at n e small = let same = eqb-true align n e in omega (arith, same, small)

    by : (a b c d e : Bool) → eqb align 1 ≡ a → eqb align 2 ≡ b → eqb align 4 ≡ c → eqb align 8 ≡ d → eqb align 16 ≡ e →
        (a || (b || (c || (d || e)))) ≡ true → align ≤ MAX_NUMBER
    by true b c d e p q r s t all = at 1 p (omega arith)
    by false true c d e p q r s t all = at 2 q (omega arith)
    by false false true d e p q r s t all = at 4 r (omega arith)
    by false false false true e p q r s t all = at 8 s (omega arith)
    by false false false false true p q r s t all = at 16 t (omega arith)
    by false false false false false p q r s t all = absurd cc

  -- ---- an object without a local offset

  abbrev plain_pieces : List Piece
  plain_pieces = numbers_pieces id size align (mark 1 125 ∷ [])

  plain_says : (is : IsEntry (record { id = id; size = size; align = align; local_offset = None })) (lines : List Line) (at n : ℕ) →
      ObjectTexts lines at n →
      Means lines (numbers_fields at n []) (record { id = id; size = size; align = align; local_offset = None })
  unfolding value_at
  plain_says is lines at n ts =
      let v = piece_of at n id_value in
      let w = piece_of at n size_value in
      let x = piece_of at n align_value in
      says_entry lines (numbers_fields at n []) id size align None
      (λ i. cond (bytes_eq (ts.id_text i) (codes "type")) (Some v) (cond (bytes_eq (ts.size_text i) (codes "type")) (Some w)
      (cond (bytes_eq (ts.align_text i) (codes "type")) (Some x) None)))
      ((λ i. number_in lines None (cond (bytes_eq (ts.id_text i) (codes "id")) (Some v) (cond (bytes_eq (ts.size_text i) (codes "id")) (Some w)
      (cond (bytes_eq (ts.align_text i) (codes "id")) (Some x) None))))
      ∙ (ap integer_of ts.id_is ∙ number_read id is.id))
      ((λ i. number_in lines None (cond (bytes_eq (ts.id_text i) (codes "size")) (Some v) (cond (bytes_eq (ts.size_text i) (codes "size")) (Some w)
      (cond (bytes_eq (ts.align_text i) (codes "size")) (Some x) None))))
      ∙ (ap integer_of ts.size_is ∙ number_read size is.size))
      ((λ i. number_in lines (Some 1) (cond (bytes_eq (ts.id_text i) (codes "alignment")) (Some v)
      (cond (bytes_eq (ts.size_text i) (codes "alignment")) (Some w) (cond (bytes_eq (ts.align_text i) (codes "alignment")) (Some x) None))))
      ∙ (ap integer_of ts.align_is ∙ number_read align (aligned_small is.aligned)))
      (λ i. negated_in lines (cond (bytes_eq (ts.id_text i) (codes "local-offset")) (Some v)
      (cond (bytes_eq (ts.size_text i) (codes "local-offset")) (Some w) (cond (bytes_eq (ts.align_text i) (codes "local-offset")) (Some x) None))))
      is.aligned

  plain_is : IsEntry (record { id = id; size = size; align = align; local_offset = None }) →
      IsEntryLine Means plain_pieces (record { id = id; size = size; align = align; local_offset = None })
  unfolding list_in entries_from
  plain_is is = record {
    lexed = (let read = numbers_read id size align None is.id is.size (aligned_small is.aligned) tt in record { reads = read.all; passes = read.passes });
    opens = λ lines cut at n rest. refl;
    fields = λ at n. numbers_fields at n [];
    read = λ lines at n stands. numbers_met (mark 1 125 ∷ []) lines at n (object_texts (mark 1 125 ∷ []) lines at n stands);
    means = λ lines at n stands. plain_says is lines at n (object_texts (mark 1 125 ∷ []) lines at n stands);
  }

  -- ---- an object with a local offset

  module _ (k : ℕ) where
    abbrev placed_pieces : List Piece
    placed_pieces = numbers_pieces id size align (mark 0 44 ∷ local_field k (mark 1 125 ∷ []))

    abbrev placed_entry : StackEntry
    placed_entry = record { id = id; size = size; align = align; local_offset = Some k }

    abbrev placed_fields : ℕ → ℕ → List MappingField
    placed_fields at n = numbers_fields at n (field_at at n local_key (local_value k) ∷ [])

    local_texts : (lines : List Line) (at n : ℕ) → Stands lines at n placed_pieces → LocalTexts k lines at n
    local_texts lines at n stands =
        let ts = line_texts placed_pieces in
        record {
          numbers = object_texts (mark 0 44 ∷ local_field k (mark 1 125 ∷ [])) lines at n stands;
          local_text = text_found lines at n placed_pieces local_key (codes "local-offset") stands ts.1.1.1.1.1.1.1.1.1.1.1.1.1.1.0;
          local_is = text_found lines at n placed_pieces (local_value k) (45 ∷ decimal k) stands ts.1.1.1.1.1.1.1.1.1.1.1.1.1.1.1.1.0;
        }

    -- after the numbers
    local_met : (lines : List Line) (at n : ℕ) → LocalTexts k lines at n → (cut : Bool) (es : List MappingEntry) (rest : List stream.YamlToken) →
        entries_from lines cut (open_entry es n (numbers_fields at n []))
        (map (piece_of at n) (tokens_at numbers_end (mark 0 44 ∷ local_field k (mark 1 125 ∷ []))) ++ rest)
        ≡ entries_from lines cut (outside (es ++ record { line = n; fields = placed_fields at n } ∷ []) n) rest
    unfolding entries_from
    local_met lines at n texts cut es rest =
        let ts = texts.numbers in
        cond-true (not (has_key lines (numbers_fields at n []) (piece_of at n local_key))) _ _
        (λ i. not (bytes_eq (ts.id_text i) (texts.local_text i) || (bytes_eq (ts.size_text i) (texts.local_text i) ||
        (bytes_eq (ts.align_text i) (texts.local_text i) || false))))

    placed_read : (lines : List Line) (at n : ℕ) → LocalTexts k lines at n → (cut : Bool) (es : List MappingEntry) (last : ℕ)
        (rest : List stream.YamlToken) → entries_from lines cut (outside es last) (pieces_at at n placed_pieces ++ rest)
        ≡ entries_from lines cut (outside (es ++ record { line = n; fields = placed_fields at n } ∷ []) n) rest
    placed_read lines at n texts cut es last rest =
        numbers_met (mark 0 44 ∷ local_field k (mark 1 125 ∷ [])) lines at n texts.numbers cut es last rest
        ∙ local_met lines at n texts cut es rest

    placed_says : IsEntry placed_entry → (lines : List Line) (at n : ℕ) → LocalTexts k lines at n → Means lines (placed_fields at n) placed_entry
    unfolding value_at
    placed_says is lines at n texts =
        let ts = texts.numbers in
        let v = piece_of at n id_value in
        let w = piece_of at n size_value in
        let x = piece_of at n align_value in
        let y = piece_of at n (local_value k) in
        says_entry lines (placed_fields at n) id size align (Some k)
        (λ i. cond (bytes_eq (ts.id_text i) (codes "type")) (Some v) (cond (bytes_eq (ts.size_text i) (codes "type")) (Some w)
        (cond (bytes_eq (ts.align_text i) (codes "type")) (Some x) (cond (bytes_eq (texts.local_text i) (codes "type")) (Some y) None))))
        ((λ i. number_in lines None (cond (bytes_eq (ts.id_text i) (codes "id")) (Some v) (cond (bytes_eq (ts.size_text i) (codes "id")) (Some w)
        (cond (bytes_eq (ts.align_text i) (codes "id")) (Some x) (cond (bytes_eq (texts.local_text i) (codes "id")) (Some y) None)))))
        ∙ (ap integer_of ts.id_is ∙ number_read id is.id))
        ((λ i. number_in lines None (cond (bytes_eq (ts.id_text i) (codes "size")) (Some v) (cond (bytes_eq (ts.size_text i) (codes "size")) (Some w)
        (cond (bytes_eq (ts.align_text i) (codes "size")) (Some x) (cond (bytes_eq (texts.local_text i) (codes "size")) (Some y) None)))))
        ∙ (ap integer_of ts.size_is ∙ number_read size is.size))
        ((λ i. number_in lines (Some 1) (cond (bytes_eq (ts.id_text i) (codes "alignment")) (Some v)
        (cond (bytes_eq (ts.size_text i) (codes "alignment")) (Some w) (cond (bytes_eq (ts.align_text i) (codes "alignment")) (Some x)
        (cond (bytes_eq (texts.local_text i) (codes "alignment")) (Some y) None)))))
        ∙ (ap integer_of ts.align_is ∙ number_read align (aligned_small is.aligned)))
        ((λ i. negated_in lines (cond (bytes_eq (ts.id_text i) (codes "local-offset")) (Some v)
        (cond (bytes_eq (ts.size_text i) (codes "local-offset")) (Some w) (cond (bytes_eq (ts.align_text i) (codes "local-offset")) (Some x)
        (cond (bytes_eq (texts.local_text i) (codes "local-offset")) (Some y) None)))))
        ∙ (ap negated_of texts.local_is ∙ negated_read k is.local))
        is.aligned

    placed_is : IsEntry placed_entry → IsEntryLine Means placed_pieces placed_entry
    unfolding list_in
    placed_is is = record {
      lexed = (let read = numbers_read id size align (Some k) is.id is.size (aligned_small is.aligned) is.local in record {
        reads = read.all;
        passes = read.passes;
      });
      opens = λ lines cut at n rest. refl;
      fields = placed_fields;
      read = λ lines at n stands. placed_read lines at n (local_texts lines at n stands);
      means = λ lines at n stands. placed_says is lines at n (local_texts lines at n stands);
    }

  line_is : (l : Option ℕ) → IsEntry (record { id = id; size = size; align = align; local_offset = l }) →
      IsEntryLine Means (numbers_pieces id size align (end_pieces l)) (record { id = id; size = size; align = align; local_offset = l })
  line_is None is = plain_is is
  line_is (Some k) is = placed_is k is

  pub line_spelled : (l : Option ℕ) → spelled (numbers_pieces id size align (end_pieces l)) ≡
      codes "  - { id: " ++ (decimal id ++ (codes ", size: " ++ (decimal size ++ (codes ", alignment: " ++ (decimal align ++ line_end l)))))
  line_spelled None = refl
  line_spelled (Some k) = refl

pub object_is : (o : Object) → IsEntry (object_entry o) → IsEntryLine Means (object_pieces o) (object_entry o)
object_is o is = line_is o.id o.size o.align o.local_offset is
