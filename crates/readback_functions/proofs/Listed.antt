-- Lists whose entries stand on a line each: what is read of the lines of a key.
use Rattle.std.proofs.Common.{◌≡◌, ℕ, ◌+◌, Bool, false, List, [], ◌∷◌, ◌++◌, length, map, Some, None, Result}
use Rattle.std.proofs.Common.{refl, sym, ap, ◌∙◌, arith, append_assoc, append-nil}
use Rattle.std.specs.Prelude.{is_some, drop}
use Rattle.std.specs.List.{slice_get}
use Rattle.std.proofs.lemmas.List.{length-append}
use Rattle.read_lexer.specs.declared.fault.LexError.{LexError}
use Rattle.read_lexer.specs.declared.line.Line.{Line}
use Rattle.read_lexer.specs.declared.parts.Token.{Token}
use Rattle.read_lexer.specs.Comment.{before}
use Rattle.read_lexer.specs.Line.{tokens_of}
use Rattle.read_declarations.specs.declared.stream.YamlToken as stream
use Rattle.read_declarations.specs.declared.stream.TokenStream.{TokenStream}
use Rattle.read_declarations.specs.declared.entry.MappingField.{MappingField}
use Rattle.read_declarations.specs.declared.entry.MappingEntry.{MappingEntry}
use Rattle.read_declarations.specs.declared.entry.OpenList.{OpenList}
use Rattle.read_declarations.specs.declared.entry.ParserState.TheVariants.{Outside}
use Rattle.read_declarations.specs.FlowMapping.{entries_from, entries_of}
use Rattle.read_declarations.specs.List.{list_in, with_fault, list_of}
use Rattle.read_declarations.specs.Stream.{line_tokens_of, piece_of, with_line, stream_from}
use Rattle.readback_items.proofs.Cuts.{AllPass, pieces_pass, semicolon_mark}
use Rattle.readback_items.proofs.Lexing.{Piece, spelled, AllRead}
use Rattle.readback_functions.specs.Document.{lines_from}
use Rattle.readback_functions.proofs.Spans.{tokens_at, line_tokens}

-- ---- tokens

-- a line of tokens without a comment
pub record IsLexedLine (ps : List Piece) : Type 0 where
  pub reads : AllRead ps
  pub passes : AllPass (59 ∷ []) ps

abbrev pub AreLexedLines : List (List Piece) → Type 0
AreLexedLines [] = Unit {0}
AreLexedLines (ps ∷ pss) = IsLexedLine ps × AreLexedLines pss

-- the tokens of a line at an index
abbrev pub pieces_at : ℕ → ℕ → List Piece → List stream.YamlToken
pieces_at at n ps = map (piece_of at n) (tokens_at 0 ps)

-- the tokens of lines, the first of which has an index and a number
abbrev pub all_pieces : ℕ → ℕ → List (List Piece) → List stream.YamlToken
all_pieces at n [] = []
all_pieces at n (ps ∷ pss) = pieces_at at n ps ++ all_pieces (at + 1) (n + 1) pss

stream_is : (at n : ℕ) (pss : List (List Piece)) → AreLexedLines pss →
    stream_from at (lines_from n (map spelled pss)) ≡ record { pieces = all_pieces at n pss; fault = None }
unfolding stream_from
stream_is at n [] all = refl
stream_is at n (ps ∷ pss) all =
    let others = stream_from (at + 1) (lines_from (n + 1) (map spelled pss)) in
    ap (λ (t : List ℕ). with_line at n (line_tokens_of t (tokens_of false t)) others) (pieces_pass (59 ∷ []) semicolon_mark ps all.0.passes)
    ∙ (ap (λ (r : Result (List Token) LexError). with_line at n (line_tokens_of (spelled ps) r) others) (line_tokens ps all.0.reads)
    ∙ ap (λ (s : TokenStream). with_line at n (record { tokens = tokens_at 0 ps; fault = None }) s) (stream_is (at + 1) (n + 1) pss all.1))

-- ---- entries

-- before an entry
abbrev pub outside : List MappingEntry → ℕ → OpenList
outside es line = record { entries = es; place = Outside; line = line; fields = [] }

-- a line stands at an index of lines, and is of pieces
pub record Stands (lines : List Line) (at n : ℕ) (ps : List Piece) : Type 0 where
  pub there : slice_get lines at ≡ Some (record { number = n; text = spelled ps })

module _ {E : Type 0} (Means : List Line → List MappingField → E → Type 0) where
  -- a line is an entry that means this
  pub record IsEntryLine (ps : List Piece) (e : E) : Type 0 where
    pub lexed : IsLexedLine ps
    pub opens : (lines : List Line) (cut : Bool) (at n : ℕ) (rest : List stream.YamlToken) →
        list_in lines cut (pieces_at at n ps ++ rest) ≡ entries_of lines cut (pieces_at at n ps ++ rest)
    pub fields : (at n : ℕ) → List MappingField
    pub read : (lines : List Line) (at n : ℕ) → Stands lines at n ps → (cut : Bool) (es : List MappingEntry) (last : ℕ) (rest : List stream.YamlToken) →
        entries_from lines cut (outside es last) (pieces_at at n ps ++ rest)
        ≡ entries_from lines cut (outside (es ++ record { line = n; fields = fields at n } ∷ []) n) rest
    pub means : (lines : List Line) (at n : ℕ) → Stands lines at n ps → Means lines (fields at n) e

  abbrev pub AreEntryLines : List (List Piece) → List E → Type 0
  AreEntryLines [] [] = Unit {0}
  AreEntryLines [] (e ∷ es) = ⊥
  AreEntryLines (ps ∷ pss) [] = ⊥
  AreEntryLines (ps ∷ pss) (e ∷ es) = IsEntryLine ps e × AreEntryLines pss es

  all_lexed : (pss : List (List Piece)) (es : List E) → AreEntryLines pss es → AreLexedLines pss
  all_lexed [] [] all = tt
  all_lexed [] (e ∷ es) all = absurd all
  all_lexed (ps ∷ pss) [] all = absurd all
  all_lexed (ps ∷ pss) (e ∷ es) all = (all.0.lexed, all_lexed pss es all.1)

  -- entries mean these
  abbrev pub AllMean : List Line → List MappingEntry → List E → Type 0
  AllMean lines [] [] = Unit {0}
  AllMean lines [] (e ∷ es) = ⊥
  AllMean lines (x ∷ xs) [] = ⊥
  AllMean lines (x ∷ xs) (e ∷ es) = Means lines x.fields e × AllMean lines xs es

  seam : (front : List Line) (line : Line) (rest : List Line) → slice_get (front ++ line ∷ rest) (length front) ≡ Some line
  seam [] line rest = refl
  seam (x ∷ front) line rest = seam front line rest

  -- what entries are read from an index on
  record AreRead (lines : List Line) (cut : Bool) (before : List MappingEntry) (last : ℕ) (pieces : List stream.YamlToken) (es : List E) : Type 0 where
    entries : List MappingEntry
    are : entries_from lines cut (outside before last) pieces ≡ record { entries = before ++ entries; refused = None }
    mean : AllMean lines entries es

  entries_are : (lines front : List Line) (cut : Bool) (before : List MappingEntry) (last at n : ℕ) (pss : List (List Piece)) (es : List E) →
      lines ≡ front ++ lines_from n (map spelled pss) → at ≡ length front → AreEntryLines pss es → AreRead lines cut before last (all_pieces at n pss) es
  unfolding entries_from
  entries_are lines front cut before last at n [] [] whole place all = record {
    entries = [];
    are = ap (λ (l : List MappingEntry). record { entries = l; refused = None }) (sym (append-nil before));
    mean = tt;
  }
  entries_are lines front cut before last at n [] (e ∷ es) whole place all = absurd all
  entries_are lines front cut before last at n (ps ∷ pss) [] whole place all = absurd all
  entries_are lines front cut before last at n (ps ∷ pss) (e ∷ es) whole place all =
      let line : Line = record { number = n; text = spelled ps } in
      let entry : MappingEntry = record { line = n; fields = all.0.fields at n } in
      let stands : Stands lines at n ps = record {
        there = (λ i. slice_get (whole i) (place i)) ∙ seam front line (lines_from (n + 1) (map spelled pss));
      } in
      let rest = entries_are lines (front ++ line ∷ []) cut (before ++ entry ∷ []) n (at + 1) (n + 1) pss es
      (whole ∙ sym (append_assoc front (line ∷ []) (lines_from (n + 1) (map spelled pss)))) (omega (arith, place, length-append front (line ∷ []))) all.1 in
      record {
        entries = entry ∷ rest.entries;
        are = all.0.read lines at n stands cut before last (all_pieces (at + 1) (n + 1) pss)
            ∙ (rest.are ∙ ap (λ (l : List MappingEntry). record { entries = l; refused = None }) (append_assoc before (entry ∷ []) rest.entries));
        mean = (all.0.means lines at n stands, rest.mean);
      }

  opens_list : (lines : List Line) (cut : Bool) (at n : ℕ) (pss : List (List Piece)) (es : List E) → AreEntryLines pss es →
      list_in lines cut (all_pieces at n pss) ≡ entries_of lines cut (all_pieces at n pss)
  unfolding list_in
  opens_list lines cut at n [] [] all = refl
  opens_list lines cut at n [] (e ∷ es) all = absurd all
  opens_list lines cut at n (ps ∷ pss) [] all = absurd all
  opens_list lines cut at n (ps ∷ pss) (e ∷ es) all = all.0.opens lines cut at n (all_pieces (at + 1) (n + 1) pss)

  -- a key's line has two tokens, and behind it stand entries
  pub record IsListed (lines : List Line) (es : List E) : Type 0 where
    pub entries : List MappingEntry
    pub are : list_of lines ≡ record { entries = entries; refused = None }
    pub mean : AllMean lines entries es

  pub listed : (n : ℕ) (p q : Piece) (pss : List (List Piece)) (es : List E) → IsLexedLine (p ∷ q ∷ []) → AreEntryLines pss es →
      IsListed (lines_from n (spelled (p ∷ q ∷ []) ∷ map spelled pss)) es
  listed n p q pss es key all =
      let lines = lines_from n (map spelled ((p ∷ q ∷ []) ∷ pss)) in
      let front : List Line = record { number = n; text = spelled (p ∷ q ∷ []) } ∷ [] in
      let read = entries_are lines front false [] 0 1 (n + 1) pss es refl refl all in
      record {
        entries = read.entries;
        are = ap (λ (s : TokenStream). with_fault s.fault (list_in lines (is_some s.fault) (drop 2 s.pieces)))
            (stream_is 0 n ((p ∷ q ∷ []) ∷ pss) (key, all_lexed pss es all))
            ∙ (opens_list lines false 1 (n + 1) pss es all ∙ read.are);
        mean = read.mean;
      }
