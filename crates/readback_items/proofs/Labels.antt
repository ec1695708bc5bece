-- The line of a label is read as the label.
use Rattle.std.proofs.Common.{◌≡◌, ℕ, ◌^◌, ◌<◌, ◌≤◌, Bool, false, cond, List, [], ◌∷◌, ◌++◌, Option, Some, None, Ok}
use Rattle.std.proofs.Common.{refl, ap, ◌∙◌, arith}
use Rattle.std.specs.Prelude.{codes}
use Rattle.std.specs.Fmt.{decimal}
use Rattle.std.proofs.lemmas.Bool.{cond-false, lt-ltb}
use Rattle.read_lexer.specs.declared.parts.Class.TheVariants as class
use Rattle.read_lexer.specs.Comment.{before}
use Rattle.read_lexer.specs.Front.{token_at}
use Rattle.read_lexer.specs.Line.{tokens_of}
use Rattle.read_token.specs.declared.lexeme.Lexeme.{Lexeme}
use Rattle.read_token.specs.declared.lexeme.Lexeme.TheVariants as lexemes
use Rattle.read_token.specs.declared.lexeme.Word.{Word}
use Rattle.read_token.specs.declared.lexeme.Word.TheVariants as words
use Rattle.read_token.specs.Number.{BEYOND}
use Rattle.read_token.specs.Sentence.{lexemes_of}
use Rattle.read_token.specs.Word.{case_of, is_plain, flag_of, keyword_of, initial_of, word_of}
use Rattle.read_line.specs.declared.form.BodyLine.TheVariants.{Passed, Label}
use Rattle.read_line.specs.Body.{is_listing, code_of, sentence_of, line_of_tokens, body_line_of}
use Rattle.readback_items.specs.Laws.{LabelsReadBack}
use Rattle.readback_items.proofs.Cuts.{IsMark, Passes, AllPass, safe_passes, decimal_safe, pieces_pass, semicolon_mark, colons_mark}
use Rattle.readback_items.proofs.Lexing.{Piece, spelled, AllRead, Lexed, pieces_lexed}
use Rattle.readback_items.proofs.Numbers.{named_decimal}
use Rattle.readback_items.proofs.Phrases.{piece}
use Rattle.readback_items.proofs.Tokens.{word_read, single_read, decimal_word}
use Rattle.base_ids.specs.Limits.{MAX_NUMBER}

module _ (n : ℕ) (small : n ≤ MAX_NUMBER) where
  block_word : word_of (codes "bb." ++ decimal n) ≡ words.Block n
  unfolding word_of flag_of is_plain keyword_of
  block_word = ap (λ (o : Option ℕ). case_of o words.Block (initial_of (codes "bb." ++ decimal n))) (named_decimal n small)

  wide : n < 2 ^ 64
  wide = omega (arith, small)

  abbrev pieces : List Piece
  pieces = piece 2 class.Word (codes "bb." ++ decimal n) ∷ piece 0 (class.Single 58) (58 ∷ []) ∷ []

  all_read : AllRead pieces
  unfolding token_at
  all_read = (word_read 98 (codes "b." ++ decimal n) (58 ∷ []) refl refl (decimal_word n wide) refl, (single_read 58 [] (λ at after. refl) refl, tt))

  ends : (mark : List ℕ) → IsMark mark → Passes mark (58 ∷ []) [] → AllPass mark pieces
  ends mark is last = (safe_passes mark is (codes "bb." ++ decimal n) (58 ∷ []) (decimal_safe n wide), (last, tt))

  no_comment : Passes (59 ∷ []) (58 ∷ []) []
  unfolding before
  no_comment = refl

  no_operands : Passes (58 ∷ 58 ∷ []) (58 ∷ []) []
  unfolding before
  no_operands = refl

  no_listing : is_listing (spelled pieces) ≡ false
  unfolding is_listing
  no_listing = refl

  sentence_is : (line : List ℕ) (ls : List Lexeme) → Lexed line pieces ls → sentence_of false line ls ≡ Ok (Label (Some n))
  unfolding sentence_of
  sentence_is line ls (t, rest, text, e, (u, last, colon, e2, none)) =
      ap (sentence_of false line) (e ∙ (ap (λ (w : Word). lexemes.Word w t ∷ rest) block_word ∙ ap (λ (xs : List Lexeme). lexemes.Word (words.Block n) t ∷ xs)
      (e2 ∙ ap (λ (xs : List Lexeme). lexemes.Colon ∷ xs) none)))
      ∙ ap (λ (b : Bool). Ok (cond b (Label (Some n)) (Label None))) (lt-ltb n BEYOND (omega (arith, small)))

  label : body_line_of false (codes "  bb." ++ decimal n ++ codes ":") ≡ Ok (Label (Some n))
  unfolding body_line_of
  label =
      let line = spelled pieces in
      let lexed = pieces_lexed pieces all_read in
      let comments : before (59 ∷ []) None line ≡ line = pieces_pass (59 ∷ []) semicolon_mark pieces (ends (59 ∷ []) semicolon_mark no_comment) in
      let operands : before (58 ∷ 58 ∷ []) None line ≡ line = pieces_pass (58 ∷ 58 ∷ []) colons_mark pieces (ends (58 ∷ 58 ∷ []) colons_mark no_operands) in
      let code : code_of line ≡ line = ap (before (58 ∷ 58 ∷ []) None) comments ∙ operands in
      cond-false (is_listing line) (Ok Passed) (line_of_tokens false (code_of line) (tokens_of false (code_of line))) no_listing
      ∙ (ap (λ (t : List ℕ). line_of_tokens false t (tokens_of false t)) code
      ∙ (ap (line_of_tokens false line) lexed.are ∙ sentence_is line (lexemes_of line lexed.tokens) lexed.lexed))

pub labels_read_back : LabelsReadBack
labels_read_back n small = label n small
