-- The lines of slots and objects are read as stack entries.
use Rattle.std.proofs.Common.{◌≡◌, ℕ, suc, ◌+◌, ◌^◌, ◌<◌, ◌≤◌, Bool, true, false, cond, not, ◌||◌, eqb, leb, List, [], ◌∷◌, ◌++◌, length, map, All}
use Rattle.std.proofs.Common.{Option, Some, None, Result, refl, sym, subst, ap, ◌∙◌, arith, append_assoc, append-nil}
use Rattle.std.specs.Prelude.{codes}
use Rattle.std.specs.List.{slice_get}
use Rattle.std.specs.Fmt.{decimal}
use Rattle.std.specs.Str.{bytes_eq}
use Rattle.std.proofs.lemmas.Bool.{cond-true, lt-leb, eqb-true}
use Rattle.std.proofs.lemmas.Fmt.{decimal_by_steps}
use Rattle.std.proofs.lemmas.List.{length-append, map-append}
use Rattle.std.proofs.lemmas.List.Elements.{All-head, All-tail}
use Rattle.base_ids.specs.Limits.{MAX_NUMBER}
use Rattle.read_lexer.specs.declared.line.Line.{Line}
use Rattle.read_lexer.specs.declared.parts.Class.TheVariants as class
use Rattle.read_lexer.specs.declared.parts.Token.{Token}
use Rattle.read_lexer.specs.Comment.{before}
use Rattle.read_lexer.specs.Front.{token_at}
use Rattle.read_metadata.specs.Number.{integer_of}
use Rattle.mir_func.specs.declared.object.Object.{Object}
use Rattle.mir_func.specs.Objects.{local_count}
use Rattle.mir_func.specs.Sound.{AreApart}
use Rattle.mir_func.specs.Limits.{MAX_SLOTS}
use Rattle.read_refusal.specs.declared.kind.RefusalKind.{RefusalKind}
use Rattle.read_refusal.specs.declared.kind.RefusalKind.TheVariants.{TooMany}
use Rattle.read_declarations.specs.declared.stream.YamlToken as stream
use Rattle.read_declarations.specs.declared.entry.MappingField.{MappingField}
use Rattle.read_declarations.specs.declared.entry.MappingEntry.{MappingEntry}
use Rattle.read_declarations.specs.declared.entry.Listing.{Listing}
use Rattle.read_declarations.specs.declared.stack.StackEntry.{StackEntry}
use Rattle.read_declarations.specs.declared.stack.StackRead.{StackRead}
use Rattle.read_declarations.specs.FlowMapping.{has_key, entries_from}
use Rattle.read_declarations.specs.Field.{value_at, number_in, negated_in}
use Rattle.read_declarations.specs.List.{list_in}
use Rattle.read_declarations.specs.Stack.{has_id, clash, refusal_at, judged, stack_behind, stack_of}
use Rattle.read_declarations.specs.Stack.{entry_offsets, without_offset, shared}
use Rattle.read_declarations.specs.Stream.{piece_of, stream_from, text_at}
use Rattle.readback_items.proofs.Cuts.{safe_passes, semicolon_mark}
use Rattle.readback_items.proofs.Lexing.{Piece, spelled}
use Rattle.readback_items.proofs.Phrases.{piece}
use Rattle.readback_items.proofs.Tokens.{word_read, single_read}
use Rattle.readback_functions.specs.Document.{lines_from}
use Rattle.readback_functions.specs.Declared.{slot_line, object_line, entry_lines, slot_entry, object_entry, entries_read, IsEntry, StacksReadBack}
use Rattle.readback_functions.proofs.Listed.{IsLexedLine, pieces_at, Stands, outside, IsEntryLine, AreEntryLines, AllMean, listed}
use Rattle.readback_functions.proofs.Spans.{token_of, line_texts}
use Rattle.readback_functions.proofs.EntryLines.{number_read, mark, slot_pieces, object_pieces, slot_reads, Means, text_found, says_entry, field_at}
use Rattle.readback_functions.proofs.ObjectLines.{object_is, line_spelled}

module _ (m : ℕ) (small : m ≤ MAX_NUMBER) where
  abbrev slot_line_pieces : List Piece
  slot_line_pieces = slot_pieces m

  abbrev slot_id : Token
  slot_id = token_of 5 (piece 1 class.Word (codes "id"))

  abbrev slot_id_value : Token
  slot_id_value = token_of 9 (piece 1 class.Integer (decimal m))

  abbrev slot_size : Token
  slot_size = token_of (10 + length (decimal m) + 0 + 1) (piece 1 class.Word (codes "size"))

  abbrev slot_size_value : Token
  slot_size_value = token_of (10 + length (decimal m) + 0 + 1 + 1 + 4 + 0 + 1) (piece 1 class.Integer (decimal 8))

  abbrev slot_fields : ℕ → ℕ → List MappingField
  slot_fields at n = field_at at n slot_id slot_id_value ∷ field_at at n slot_size slot_size_value ∷ []

  record SlotTexts (lines : List Line) (at n : ℕ) : Type 0 where
    id : text_at lines (piece_of at n slot_id) ≡ codes "id"
    id_value : text_at lines (piece_of at n slot_id_value) ≡ decimal m
    size : text_at lines (piece_of at n slot_size) ≡ codes "size"
    size_value : text_at lines (piece_of at n slot_size_value) ≡ decimal 8

  slot_texts : (lines : List Line) (at n : ℕ) → Stands lines at n slot_line_pieces → SlotTexts lines at n
  slot_texts lines at n stands =
      let ts = line_texts slot_line_pieces in
      record {
        id = text_found lines at n slot_line_pieces slot_id (codes "id") stands ts.1.1.0;
        id_value = text_found lines at n slot_line_pieces slot_id_value (decimal m) stands ts.1.1.1.1.0;
        size = text_found lines at n slot_line_pieces slot_size (codes "size") stands ts.1.1.1.1.1.1.0;
        size_value = text_found lines at n slot_line_pieces slot_size_value (decimal 8) stands ts.1.1.1.1.1.1.1.1.0;
      }

  slot_read : (lines : List Line) (at n : ℕ) → SlotTexts lines at n → (cut : Bool) (es : List MappingEntry) (last : ℕ) (rest : List stream.YamlToken) →
      entries_from lines cut (outside es last) (pieces_at at n slot_line_pieces ++ rest)
      ≡ entries_from lines cut (outside (es ++ record { line = n; fields = slot_fields at n } ∷ []) n) rest
  unfolding entries_from
  slot_read lines at n ts cut es last rest =
      cond-true (not (has_key lines (field_at at n slot_id slot_id_value ∷ []) (piece_of at n slot_size))) _ _
      (λ i. not (bytes_eq (ts.id i) (ts.size i) || false))

  slot_says : (lines : List Line) (at n : ℕ) → SlotTexts lines at n → Means lines (slot_fields at n) (slot_entry m)
  unfolding value_at
  slot_says lines at n ts =
      let v = piece_of at n slot_id_value in
      let w = piece_of at n slot_size_value in
      says_entry lines (slot_fields at n) m 8 1 None
      (λ i. cond (bytes_eq (ts.id i) (codes "type")) (Some v) (cond (bytes_eq (ts.size i) (codes "type")) (Some w) None))
      ((λ i. number_in lines None (cond (bytes_eq (ts.id i) (codes "id")) (Some v) (cond (bytes_eq (ts.size i) (codes "id")) (Some w) None)))
      ∙ (ap integer_of ts.id_value ∙ number_read m small))
      ((λ i. number_in lines None (cond (bytes_eq (ts.id i) (codes "size")) (Some v) (cond (bytes_eq (ts.size i) (codes "size")) (Some w) None)))
      ∙ (ap integer_of ts.size_value ∙ number_read 8 (omega arith)))
      (λ i. number_in lines (Some 1) (cond (bytes_eq (ts.id i) (codes "alignment")) (Some v) (cond (bytes_eq (ts.size i) (codes "alignment")) (Some w) None)))
      (λ i. negated_in lines (cond (bytes_eq (ts.id i) (codes "local-offset")) (Some v) (cond (bytes_eq (ts.size i) (codes "local-offset")) (Some w) None)))
      refl

  slot_is : IsEntryLine Means slot_line_pieces (slot_entry m)
  unfolding list_in
  slot_is = record {
    lexed = (let is = slot_reads m small in record { reads = is.all; passes = is.passes });
    opens = λ lines cut at n rest. refl;
    fields = slot_fields;
    read = λ lines at n stands. slot_read lines at n (slot_texts lines at n stands);
    means = λ lines at n stands. slot_says lines at n (slot_texts lines at n stands);
  }

-- ---- all lines

abbrev lines_of_pieces : List ℕ → List Object → List (List Piece)
lines_of_pieces slots objects = map slot_pieces slots ++ map object_pieces objects

all_objects : (objects : List Object) → All IsEntry (map object_entry objects) → AreEntryLines Means (map object_pieces objects) (map object_entry objects)
all_objects [] all = tt
all_objects (o ∷ os) all = (
  object_is o (All-head IsEntry (object_entry o) (map object_entry os) all),
  all_objects os (All-tail IsEntry (object_entry o) (map object_entry os) all),
)

all_entries : (slots : List ℕ) (objects : List Object) → All IsEntry (entries_read slots objects) →
    AreEntryLines Means (lines_of_pieces slots objects) (entries_read slots objects)
all_entries [] objects all = all_objects objects all
all_entries (m ∷ slots) objects all = (
  slot_is m (All-head IsEntry (slot_entry m) (entries_read slots objects) all).id,
  all_entries slots objects (All-tail IsEntry (slot_entry m) (entries_read slots objects) all),
)

spelled_objects : (objects : List Object) → map spelled (map object_pieces objects) ≡ map object_line objects
spelled_objects [] = refl
spelled_objects (o ∷ os) = λ i. line_spelled o.id o.size o.align o.local_offset i ∷ spelled_objects os i

one_digit : (n : ℕ) → n < 2 ^ 64 → n < 10 → decimal n ≡ (48 + n) ∷ []
one_digit n small = decimal_by_steps (λ m text. m < 10 → text ≡ (48 + m) ∷ []) (λ m one low. refl) (λ m text ten before low. absurd (omega arith)) n small

spelled_slot : (m : ℕ) → spelled (slot_pieces m) ≡ slot_line m
spelled_slot m = ap (λ (t : List ℕ). codes "  - { id: " ++ (decimal m ++ (codes ", size: " ++ (t ++ codes " }")))) (one_digit 8 (omega arith) (omega arith))

spelled_lines : (slots : List ℕ) (objects : List Object) → map spelled (lines_of_pieces slots objects) ≡ entry_lines slots objects
spelled_lines [] objects = spelled_objects objects
spelled_lines (m ∷ slots) objects = λ i. spelled_slot m i ∷ spelled_lines slots objects i

key_reads : IsLexedLine (piece 0 class.Word (codes "stack") ∷ mark 0 58 ∷ [])
unfolding token_at before
key_reads = record {
  reads = (word_read 115 (codes "tack") (58 ∷ []) refl refl refl refl, (single_read 58 [] (λ at after. refl) refl, tt));
  passes = (safe_passes (59 ∷ []) semicolon_mark (codes "stack") (58 ∷ []) refl, (refl, tt));
}

-- ---- no number stands twice

abbrev ids_of_entries : List StackEntry → List ℕ
ids_of_entries es = map (λ (e : StackEntry). e.id) es

record IsAt (id : ℕ) (before : List StackEntry) (ids : List ℕ) : Type 0 where
  place : ℕ
  within : place < length before
  is : slice_get ids place ≡ Some id

found_at : (id : ℕ) (before : List StackEntry) (rest : List ℕ) → has_id before id ≡ true → IsAt id before (ids_of_entries before ++ rest)
found_at id [] rest has = absurd cc
found_at id (e ∷ es) rest has = by (found_at id es rest) (eqb id e.id) refl has where
  by : (has_id es id ≡ true → IsAt id es (ids_of_entries es ++ rest)) → (b : Bool) → eqb id e.id ≡ b → (b || has_id es id) ≡ true →
      IsAt id (e ∷ es) (ids_of_entries (e ∷ es) ++ rest)
  by later true same all = record { place = 0; within = omega arith; is = ap (λ (n : ℕ). Some n) (sym (eqb-true id e.id same)) }
  by later false other all =
      let more = later all in
      record { place = suc more.place; within = (let w = more.within in omega (arith, w)); is = more.is }

seam_id : (before : List StackEntry) (id : ℕ) (rest : List ℕ) → slice_get (ids_of_entries before ++ id ∷ rest) (length before) ≡ Some id
seam_id [] id rest = refl
seam_id (e ∷ es) id rest = seam_id es id rest

not_twice : (before : List StackEntry) (id : ℕ) (rest : List ℕ) → AreApart (ids_of_entries before ++ id ∷ rest) → has_id before id ≡ false
not_twice before id rest apart = by (has_id before id) refl where
  by : (b : Bool) → has_id before id ≡ b → b ≡ false
  by false e = refl
  by true e =
      let at = found_at id before (id ∷ rest) e in
      let same = apart at.place (length before) id at.is (seam_id before id rest) in
      absurd (let w = at.within in omega (arith, w, same))

judged_all : (lines : List Line) (before : List StackEntry) (entries : List MappingEntry) (es : List StackEntry) → AllMean Means lines entries es →
    AreApart (ids_of_entries before ++ ids_of_entries es) → length before + length es ≤ MAX_SLOTS →
    stack_behind lines (record { entries = before; refused = None }) entries ≡ record { entries = before ++ es; refused = None }
unfolding stack_behind
judged_all lines before [] [] all apart few = ap (λ (l : List StackEntry). record { entries = l; refused = None }) (sym (append-nil before))
judged_all lines before [] (e ∷ es) all apart few = absurd all
judged_all lines before (x ∷ xs) [] all apart few = absurd all
judged_all lines before (x ∷ xs) (e ∷ es) all apart few =
    let read : StackRead = record { entries = before; refused = None } in
    let new = not_twice before e.id (ids_of_entries es) apart in
    let room : leb MAX_SLOTS (length before) ≡ false = lt-leb MAX_SLOTS (length before) (omega (arith, few)) in
    let none : clash (has_id before e.id) (length before) ≡ None =
    ap (λ (b : Bool). clash b (length before)) new ∙ ap (λ (b : Bool). cond b (Some TooMany) None) room in
    let more = judged_all lines (before ++ e ∷ []) xs es all.1
    (subst AreApart (sym (ap (λ (l : List ℕ). l ++ ids_of_entries es) (map-append (λ (y : StackEntry). y.id) before (e ∷ []))
    ∙ append_assoc (ids_of_entries before) (e.id ∷ []) (ids_of_entries es))) apart)
    (omega (arith, few, length-append before (e ∷ []))) in
    ap (λ (r : Result StackEntry RefusalKind). stack_behind lines (judged read x.line r) xs) all.0
    ∙ (ap (λ (o : Option RefusalKind). stack_behind lines (record { entries = before ++ e ∷ []; refused = refusal_at x.line o }) xs) none
    ∙ (more ∙ ap (λ (l : List StackEntry). record { entries = l; refused = None }) (append_assoc before (e ∷ []) es)))

not_alone : (es : List StackEntry) → (local_count (entry_offsets es) ≡ 1 → ⊥) → shared es ≡ es
not_alone es several = by (eqb (local_count (entry_offsets es)) 1) refl where
  by : (b : Bool) → eqb (local_count (entry_offsets es)) 1 ≡ b → cond b (map without_offset es) es ≡ es
  by true one = absurd (several (eqb-true (local_count (entry_offsets es)) 1 one))
  by false other = refl

-- what is done once all entries are read
abbrev at_end : StackRead → StackRead
at_end read = record { entries = shared read.entries; refused = read.refused }

some_stack : (n : ℕ) (slots : List ℕ) (objects : List Object) → All IsEntry (entries_read slots objects) →
    (local_count (entry_offsets (entries_read slots objects)) ≡ 1 → ⊥) →
    AreApart (ids_of_entries (entries_read slots objects)) → length (entries_read slots objects) ≤ MAX_SLOTS →
    stack_of (lines_from n (codes "stack:" ∷ entry_lines slots objects)) ≡ record { entries = entries_read slots objects; refused = None }
some_stack n slots objects all several apart few =
    let pss = lines_of_pieces slots objects in
    let read = listed Means n (piece 0 class.Word (codes "stack")) (mark 0 58) pss (entries_read slots objects) key_reads (all_entries slots objects all) in
    let lines = lines_from n (codes "stack:" ∷ map spelled pss) in
    ap (λ (l : List (List ℕ)). stack_of (lines_from n (codes "stack:" ∷ l))) (sym (spelled_lines slots objects))
    ∙ (ap (λ (l : Listing). at_end (stack_behind lines (record { entries = []; refused = l.refused }) l.entries)) read.are
    ∙ (ap at_end (judged_all lines [] read.entries (entries_read slots objects) read.mean apart (omega (arith, few)))
    ∙ ap (λ (es : List StackEntry). record { entries = es; refused = None }) (not_alone (entries_read slots objects) several)))

no_stack : (n : ℕ) → stack_of (lines_from n []) ≡ record { entries = []; refused = None }
unfolding stack_behind list_in entries_from stream_from
no_stack n = refl

pub stacks_read_back : StacksReadBack
stacks_read_back n [] [] all several apart few = no_stack n
stacks_read_back n [] (o ∷ os) all several apart few = some_stack n [] (o ∷ os) all several apart few
stacks_read_back n (m ∷ slots) objects all several apart few = some_stack n (m ∷ slots) objects all several apart few
