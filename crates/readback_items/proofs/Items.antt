-- The line of an item is read as its form: its pieces are those of its definitions, its opcode, its operands and its end.
use Rattle.std.proofs.Common.{◌≡◌, ℕ, ◌+◌, ◌-◌, ◌<◌, ◌≤◌, Bool, true, false, cond, ◌&&◌, ◌||◌, eqb, ltb, List, [], ◌∷◌, ◌++◌, length, map, Option, Some, None}
use Rattle.std.proofs.Common.{Ok, refl, sym, subst, ap, ◌∙◌, arith, append_assoc}
use Rattle.std.specs.Prelude.{codes, drop, nat_eq, IfSome}
use Rattle.std.specs.List.{list_any, prefix_len, starts_with}
use Rattle.std.specs.Char.{is_ascii_uppercase}
use Rattle.std.specs.Fmt.{decimal}
use Rattle.std.proofs.lemmas.Bool.{cond-true, cond-false}
use Rattle.std.proofs.lemmas.Bool.Decides.{nat_tests}
use Rattle.read_metadata.specs.Token.{text_of}
use Rattle.mir_func.specs.declared.location.Loc.{Loc}
use Rattle.base_ids.specs.Limits.{MAX_NUMBER}
use Rattle.read_lexer.specs.declared.parts.Class.TheVariants as class
use Rattle.read_lexer.specs.declared.parts.Token.{Token}
use Rattle.read_lexer.specs.Bytes.{is_blank}
use Rattle.read_lexer.specs.Comment.{before}
use Rattle.read_lexer.specs.Line.{tokens_of}
use Rattle.read_token.specs.declared.lexeme.Flag.TheVariants as flags
use Rattle.read_token.specs.declared.lexeme.Lexeme.{Lexeme}
use Rattle.read_token.specs.declared.lexeme.Lexeme.TheVariants as lexemes
use Rattle.read_token.specs.declared.lexeme.RegisterName.{RegisterName}
use Rattle.read_token.specs.declared.lexeme.Word.{Word}
use Rattle.read_token.specs.declared.lexeme.Word.TheVariants as words
use Rattle.read_token.specs.Sentence.{lexemes_of}
use Rattle.read_token.specs.Word.{word_of}
use Rattle.read_line.specs.declared.attribute.Attributes.{Attributes}
use Rattle.read_line.specs.declared.form.BodyLine.TheVariants as lines
use Rattle.read_line.specs.declared.form.ItemForm.{ItemForm}
use Rattle.read_line.specs.declared.form.OperandForm.{OperandForm}
use Rattle.read_line.specs.declared.form.RegisterForm.{RegisterForm}
use Rattle.read_line.specs.Attribute.{begins_attribute, attributes_of, attributes_behind}
use Rattle.read_line.specs.Body.{is_listing, code_of, as_item, sentence_of, line_of_tokens, body_line_of}
use Rattle.read_line.specs.Exceeds.{register_exceeds, operand_exceeds, attributes_exceed, is_wide}
use Rattle.read_line.specs.Item.{is_upper, is_lower, behind_words, opcode_at, begins_operand, operands_at, operands_of, attributes_of_item, item_with}
use Rattle.read_line.specs.Item.{is_no_return, says_no_return, defined_item}
use Rattle.read_line.specs.Item.{definitions_at, item_of}
use Rattle.read_line.specs.Read.{◌>>=◌}
use Rattle.read_line.specs.Register.{begins_register}
use Rattle.read_program.specs.Limited.{LocIsLimited}
use Rattle.mir_printer.specs.Spelling.{comma_separated, register_text, number_text, location_text}
use Rattle.readback_items.specs.Forms.{register_name, register_form}
use Rattle.readback_items.proofs.Attributes.{tail_pieces, tail_spells, tail_reads, tail_ends, tail_narrow, tail_uncut, IsUncut, tail_parses, tail_within}
use Rattle.readback_items.proofs.Cuts.{Passes, AllPass, safe_passes, pieces_pass, semicolon_mark, colons_mark, colon_passes, semicolon_colon}
use Rattle.readback_items.proofs.Lexing.{Piece, spelled, AllRead, Lexed, pieces_lexed}
use Rattle.readback_items.proofs.Lists.{lexed_length, pieces_of, texts, forms, spells_all, reads_all, narrow_all, uncut_all, parses_all, enough}
use Rattle.readback_items.proofs.Lists.{set_pieces, AreRegisters, spells_set, reads_set, narrow_set, uncut_set, parses_set, enough_set}
use Rattle.readback_items.proofs.Opcodes.{Opcode}
use Rattle.readback_items.proofs.Phrases.{piece, Phrase, AllNarrow}
use Rattle.readback_items.proofs.Registers.{register_lexeme, register_within}
use Rattle.readback_items.proofs.Tokens.{Ends}

-- ---- opcodes

record IsUpper (w : Word) : Type 0 where
  lower : is_lower w ≡ false
  register : (t : Token) (ls : List Lexeme) → begins_register (lexemes.Word w t ∷ ls) ≡ false
  sentence : (line : List ℕ) (t : Token) (ls : List Lexeme) → sentence_of false line (lexemes.Word w t ∷ ls) ≡ as_item (item_of false line (lexemes.Word w t ∷
      ls))

upper_word : (w : Word) → is_upper w ≡ true → IsUpper w
unfolding begins_register sentence_of
upper_word words.Argument e = record { lower = refl; register = λ t ls. refl; sentence = λ line t ls. refl }
upper_word words.Fragment e = record { lower = refl; register = λ t ls. refl; sentence = λ line t ls. refl }
upper_word words.Upper e = record { lower = refl; register = λ t ls. refl; sentence = λ line t ls. refl }
upper_word (words.Flag f) e = absurd cc
upper_word words.Location e = absurd cc
upper_word words.InstrNumber e = absurd cc
upper_word words.InstrRef e = absurd cc
upper_word words.TargetFlags e = absurd cc
upper_word words.TiedDef e = absurd cc
upper_word words.Line e = absurd cc
upper_word words.Column e = absurd cc
upper_word words.Scope e = absurd cc
upper_word words.InlinedAt e = absurd cc
upper_word words.NoReturn e = absurd cc
upper_word words.HighPart e = absurd cc
upper_word words.LowPart e = absurd cc
upper_word words.TypeName e = absurd cc
upper_word (words.Block n) e = absurd cc
upper_word words.Lower e = absurd cc
upper_word words.Underscore e = absurd cc

-- definitions begin with a register
set_first : (line : List ℕ) (r : ℕ) (rs : List ℕ) (ps : List Piece) (ls : List Lexeme) → r < 4128 → Lexed line (set_pieces 4 r rs ++ ps) ls →
    (name : RegisterName) × (more : List Lexeme) × (ls ≡ lexemes.Register name ∷ more)
set_first line r [] ps ls small (t, more, text, e, lexed) = (register_name r, more, e ∙ ap (λ (l : Lexeme). l ∷ more) (register_lexeme r t small))
set_first line r (s ∷ rs) ps ls small (t, more, text, e, lexed) =
    (register_name r, more, e ∙ ap (λ (l : Lexeme). l ∷ more) (register_lexeme r t small))

register_sentence : (line : List ℕ) (ls : List Lexeme) → (name : RegisterName) × (more : List Lexeme) × (ls ≡ lexemes.Register name ∷ more) →
    sentence_of false line ls ≡ as_item (item_of false line ls)
unfolding sentence_of
register_sentence line ls (name, more, e) = subst (λ (xs : List Lexeme). sentence_of false line xs ≡ as_item (item_of false line xs)) (sym e) refl

-- ---- what stands behind an opcode

abbrev uses_pieces : List Phrase → List Piece → List Piece
uses_pieces [] tail = tail
uses_pieces (q ∷ qs) tail = pieces_of 1 q qs ++ tail

-- the text of registers before an equals sign
abbrev pub set_text_of : List ℕ → List ℕ
set_text_of [] = []
set_text_of (r ∷ rs) = comma_separated (map register_text (r ∷ rs)) ++ codes " = "

-- the operands' text, behind a space
abbrev pub uses_text_of : List Phrase → List ℕ
uses_text_of [] = []
uses_text_of (q ∷ qs) = 32 ∷ comma_separated (q.text ∷ texts qs)

abbrev Small : Option ℕ → Type 0
Small k = IfSome k (λ n. n ≤ MAX_NUMBER)

abbrev attributes_are : Option ℕ → Loc → Attributes
attributes_are k loc = record { number = k; loc = loc }

module _ (qs : List Phrase) (k : Option ℕ) (loc : Loc) (small : Small k) (at : LocIsLimited loc) where
  abbrev tail : List Piece
  tail = tail_pieces k loc

  abbrev behind : List Piece
  behind = uses_pieces qs tail

  uses_spell : (qs : List Phrase) → spelled (uses_pieces qs tail) ≡ uses_text_of qs ++ (number_text k ++ location_text loc)
  uses_spell [] = tail_spells k loc
  uses_spell (q ∷ qs) = spells_all 1 q qs tail ∙ ap (λ (t : List ℕ). 32 ∷ (comma_separated (q.text ∷ texts qs) ++ t)) (tail_spells k loc)

  uses_end : (qs : List Phrase) → Ends (spelled (uses_pieces qs tail))
  uses_end [] = tail_ends k loc
  uses_end (q ∷ qs) = subst Ends (sym (spells_all 1 q qs tail)) refl

  uses_read : (qs : List Phrase) → AllRead (uses_pieces qs tail)
  uses_read [] = tail_reads k loc small at
  uses_read (q ∷ qs) = reads_all 1 q qs tail (tail_ends k loc) (tail_reads k loc small at)

  uses_narrow : (qs : List Phrase) → AllNarrow (uses_pieces qs tail)
  uses_narrow [] = tail_narrow k loc small at
  uses_narrow (q ∷ qs) = narrow_all 1 q qs tail (tail_narrow k loc small at)

  uses_uncut : (mark : List ℕ) → IsUncut mark → (qs : List Phrase) → AllPass mark (uses_pieces qs tail)
  uses_uncut mark m [] = tail_uncut mark m k loc small at
  uses_uncut mark m (q ∷ qs) = uncut_all mark m.is 1 q qs tail (tail_uncut mark m k loc small at)

  -- operands and attributes are read
  pub record UsesParsed (line : List ℕ) (os : List Phrase) (ls : List Lexeme) : Type 0 where
    pub rest : List Lexeme
    pub operands : operands_of false line ls ≡ Some (forms os, rest)
    pub attributes : attributes_of_item ls rest ≡ Some (attributes_are k loc)

  uses_parse : (line : List ℕ) (qs : List Phrase) (ls : List Lexeme) → Lexed line (uses_pieces qs tail) ls → UsesParsed line qs ls
  uses_parse line [] ls lexed =
      let t = tail_parses line k loc ls small at lexed in
      record {
        rest = ls;
        operands = cond-false (begins_operand ls) (operands_at false line (length ls) ls) (Some ([], ls)) t.operand;
        attributes = cond-false (begins_operand ls) (attributes_behind ls) _ t.operand ∙ (cond-false (begins_attribute ls) (attributes_of ls)
            (attributes_behind ls) t.attribute
            ∙ t.behind);
      }
  uses_parse line (q ∷ qs) ls lexed =
      let few = enough 1 q qs tail in
      let size = lexed_length line (pieces_of 1 q qs ++ tail) ls lexed in
      let p = parses_all line 1 q qs tail ls (length ls) (λ rest l. (tail_parses line k loc rest small at l).end) (omega (arith, few, size)) lexed in
      let t = tail_parses line k loc p.rest small at p.lexed in
      record {
        rest = p.rest;
        operands = cond-true (begins_operand ls) (operands_at false line (length ls) ls) (Some ([], ls)) p.operand ∙ p.is;
        attributes = cond-true (begins_operand ls) (attributes_behind p.rest) _ p.operand ∙ t.behind;
      }

  -- ---- the whole line

  module _ (text : List ℕ) (op : Opcode text) where
    upper : IsUpper (word_of text)
    upper = upper_word (word_of text) op.word

    -- an opcode behind spaces, and what follows
    abbrev coded : ℕ → List Piece
    coded n = piece n class.Word text ∷ behind

    abbrev OpcodeAt : Type 0
    OpcodeAt = Token × List Lexeme

    abbrev OperandsAt : Type 0
    OperandsAt = List OperandForm × List Lexeme

    -- whether `noreturn` stands before the opcode
    abbrev said : Token → List Lexeme → Bool
    said t more = says_no_return (lexemes.Word (word_of text) t ∷ more)

    unsaid : (t : Token) (more : List Lexeme) → said t more ≡ false
    unfolding says_no_return
    unsaid t more = ap (λ (b : Bool). cond b (cond (is_no_return (word_of text)) true (says_no_return more)) false) upper.lower

    defined_is : (line : List ℕ) (ts : List Lexeme) (ds : List RegisterForm) (t : Token) (more : List Lexeme) → UsesParsed line qs more →
        text_of line t ≡ text →
        defined_item false line ts ds (lexemes.Word (word_of text) t ∷ more) ≡ Some (item_with ts ds text (forms qs) false (attributes_are k loc))
    unfolding defined_item behind_words
    defined_is line ts ds t more uses text_is =
        ap (λ (b : Bool). opcode_at (cond b (behind_words more) (lexemes.Word (word_of text) t ∷ more)) >>= λ (opcode : OpcodeAt). operands_of false line
        opcode.1
        >>= λ (operands : OperandsAt). attributes_of_item opcode.1 operands.1 >>= λ (attributes : Attributes). Some (item_with ts ds
        (text_of line opcode.0) operands.0 (said t more)
        attributes)) upper.lower
        ∙ (ap (λ (b : Bool). cond b (Some (t, more)) None >>= λ (opcode : OpcodeAt). operands_of false line opcode.1
        >>= λ (operands : OperandsAt). attributes_of_item opcode.1 operands.1 >>= λ (attributes : Attributes). Some (item_with ts ds
        (text_of line opcode.0) operands.0 (said t more)
        attributes)) op.word
        ∙ (ap (λ (o : Option OperandsAt). o >>= λ (operands : OperandsAt). attributes_of_item more operands.1 >>= λ (attributes : Attributes). Some
        (item_with ts ds (text_of line t) operands.0 (said t more) attributes)) uses.operands
        ∙ (ap (λ (o : Option Attributes). o >>= λ (attributes : Attributes). Some (item_with ts ds (text_of line t) (forms qs) (said t more) attributes))
        uses.attributes
        ∙ (ap (λ (x : List ℕ). Some (item_with ts ds x (forms qs) (said t more) (attributes_are k loc))) text_is
        ∙ ap (λ (b : Bool). Some (item_with ts ds text (forms qs) b (attributes_are k loc))) (unsaid t more)))))

    abbrev item_pieces : List ℕ → List Piece
    item_pieces [] = coded 4
    item_pieces (r ∷ rs) = set_pieces 4 r rs ++ coded 1

    abbrev sets : List ℕ → List RegisterForm
    sets rs = map (register_form flags.Plain) rs

    -- what is read of a whole line's lexemes
    pub record ItemParsed (line : List ℕ) (rs : List ℕ) (ls : List Lexeme) : Type 0 where
      pub item : item_of false line ls ≡ Some (item_with ls (sets rs) text (forms qs) false (attributes_are k loc))
      pub sentence : sentence_of false line ls ≡ as_item (item_of false line ls)

    abbrev Definitions : Type 0
    Definitions = List RegisterForm × List Lexeme

    item_parses : (line : List ℕ) (rs : List ℕ) (ls : List Lexeme) → AreRegisters rs → Lexed line (item_pieces rs) ls → ItemParsed line rs ls
    unfolding item_of
    item_parses line [] ls are (t, more, text_is, e, lexed) =
        subst (ItemParsed line []) (sym e) (record {
          item = ap (λ (o : Option Definitions). o >>= λ (d : Definitions). defined_item false line (lexemes.Word (word_of text) t ∷ more) d.0 d.1)
              (cond-false (begins_register (lexemes.Word (word_of text) t ∷ more)) (definitions_at (length (lexemes.Word (word_of text) t ∷ more)) (lexemes.Word
              (word_of text) t ∷ more)) (Some ([], lexemes.Word (word_of text) t ∷ more)) (upper.register t more))
              ∙ defined_is line (lexemes.Word (word_of text) t ∷ more) [] t more (uses_parse line qs more lexed) text_is;
          sentence = upper.sentence line t more;
        })
    item_parses line (r ∷ rs) ls are lexed =
        let few = enough_set 4 r rs (coded 1) in
        let size = lexed_length line (set_pieces 4 r rs ++ coded 1) ls lexed in
        let set = parses_set line 4 r rs (coded 1) ls (length ls) are (omega (arith, few, size)) lexed in
        record {
          item = ap (λ (o : Option Definitions). o >>= λ (d : Definitions). defined_item false line ls d.0 d.1)
              (cond-true (begins_register ls) (definitions_at (length ls) ls) (Some ([], ls)) set.begins ∙ set.is)
              ∙ (ap (λ (x : List Lexeme). defined_item false line ls (sets (r ∷ rs)) x) set.lexed.3
              ∙ defined_is line ls (sets (r ∷ rs)) set.lexed.0 set.lexed.1 (uses_parse line qs set.lexed.1 set.lexed.4) set.lexed.2);
          sentence = register_sentence line ls (set_first line r rs (coded 1) ls are.0 lexed);
        }

    -- ---- nothing exceeds

    narrow_lexed : (line : List ℕ) (ps : List Piece) (ls : List Lexeme) → AllNarrow ps → Lexed line ps ls → list_any is_wide ls ≡ false
    narrow_lexed line [] ls all is = ap (list_any is_wide) is
    narrow_lexed line (p ∷ ps) ls all (t, rest, text_is, e, more) =
        ap (list_any is_wide) e ∙ (λ i. all.0 t i || narrow_lexed line ps rest all.1 more i)

    sets_within : (rs : List ℕ) → AreRegisters rs → list_any register_exceeds (sets rs) ≡ false
    sets_within [] are = refl
    sets_within (r ∷ rs) are = λ i. register_within r are.0 i || sets_within rs are.1 i

    uses_within : (os : List Phrase) → list_any operand_exceeds (forms os) ≡ false
    uses_within [] = refl
    uses_within (q ∷ os) = λ i. q.within i || uses_within os i

    item_narrow : (rs : List ℕ) → AreRegisters rs → AllNarrow (item_pieces rs)
    item_narrow [] are = ((λ t. refl), uses_narrow qs)
    item_narrow (r ∷ rs) are = narrow_set 4 r rs (coded 1) are ((λ t. refl), uses_narrow qs)

    item_read : (rs : List ℕ) → AreRegisters rs → AllRead (item_pieces rs)
    item_read [] are = (op.reads (spelled behind) (uses_end qs), uses_read qs)
    item_read (r ∷ rs) are = reads_set 4 r rs (coded 1) are (op.reads (spelled behind) (uses_end qs), uses_read qs)

    item_uncut : (mark : List ℕ) → IsUncut mark → (rs : List ℕ) → AreRegisters rs → AllPass mark (item_pieces rs)
    item_uncut mark m [] are = (safe_passes mark m.is text (spelled behind) op.safe, uses_uncut mark m qs)
    item_uncut mark m (r ∷ rs) are = uncut_set mark m.is 4 r rs (coded 1) are (safe_passes mark m.is text (spelled behind) op.safe, uses_uncut mark m qs)

    -- ---- the text

    abbrev whole_text : List ℕ → List ℕ
    whole_text rs = set_text_of rs ++ (text ++ (uses_text_of qs ++ (number_text k ++ location_text loc)))

    item_spells : (rs : List ℕ) → spelled (item_pieces rs) ≡ codes "    " ++ whole_text rs
    item_spells [] = ap (λ (t : List ℕ). codes "    " ++ (text ++ t)) (uses_spell qs)
    item_spells (r ∷ rs) =
        spells_set 4 r rs (coded 1)
        ∙ (ap (λ (t : List ℕ). codes "    " ++ (comma_separated (map register_text (r ∷ rs)) ++ (32 ∷ 61 ∷ 32 ∷ (text ++ t)))) (uses_spell qs)
        ∙ ap (λ (t : List ℕ). codes "    " ++ t) (sym (append_assoc (comma_separated (map register_text (r ∷ rs))) (codes " = ") (text ++ (uses_text_of qs
        ++ (number_text k ++ location_text loc))))))

    -- ---- no listing

    no_listing : (x : ℕ) (xs : List ℕ) → is_blank x ≡ false → eqb 115 x ≡ false → eqb 108 x ≡ false → is_listing (32 ∷ 32 ∷ 32 ∷ 32 ∷ x ∷ xs) ≡ false
    unfolding is_listing
    no_listing x xs visible s l =
        ap (λ (b : Bool). starts_with nat_eq (drop (1 + (1 + (1 + (1 + cond b (1 + prefix_len is_blank xs) 0)))) (32 ∷ 32 ∷ 32 ∷ 32 ∷ x ∷ xs))
        (codes "successors:")
        || starts_with nat_eq (drop (1 + (1 + (1 + (1 + cond b (1 + prefix_len is_blank xs) 0)))) (32 ∷ 32 ∷ 32 ∷ 32 ∷ x ∷ xs)) (codes "liveins:")) visible
        ∙ (λ i. (s i && starts_with nat_eq xs (codes "uccessors:")) || (l i && starts_with nat_eq xs (codes "iveins:")))

    opcode_first : (x : ℕ) → is_ascii_uppercase x ≡ true → (is_blank x ≡ false) × (eqb 115 x ≡ false) × (eqb 108 x ≡ false)
    opcode_first x is = (grind (arith, nat_tests, is), grind (arith, nat_tests, is), grind (arith, nat_tests, is))

    register_first : (r : ℕ) (xs : List ℕ) → is_listing (32 ∷ 32 ∷ 32 ∷ 32 ∷ (register_text r ++ xs)) ≡ false
    register_first r xs = by (ltb r 32) where
      by : (b : Bool) → is_listing (32 ∷ 32 ∷ 32 ∷ 32 ∷ (cond b (codes "$x" ++ decimal r) (codes "%" ++ decimal (r - 32)) ++ xs)) ≡ false
      by true = no_listing 36 (120 ∷ (decimal r ++ xs)) refl refl refl
      by false = no_listing 37 (decimal (r - 32) ++ xs) refl refl refl

    first_text : (rs : List ℕ) → AreRegisters rs → is_listing (spelled (item_pieces rs)) ≡ false
    first_text [] are =
        let first = opcode_first op.first op.upper in
        ap (λ (t : List ℕ). is_listing (32 ∷ 32 ∷ 32 ∷ 32 ∷ (t ++ spelled behind))) op.parts
        ∙ no_listing op.first (op.bytes ++ spelled behind) first.0 first.1 first.2
    first_text (r ∷ []) are = register_first r _
    first_text (r ∷ s ∷ rs) are = register_first r _

    -- ---- what the line says

    abbrev form_is : List ℕ → ItemForm
    form_is rs = record { definitions = sets rs; opcode = text; operands = forms qs; no_return = false; volatile = false; number = k; loc = loc; exceeds = false }

    semicolons : IsUncut (59 ∷ [])
    semicolons = record { is = semicolon_mark; colon = λ rest. one rest } where
      one : (rest : List ℕ) → Passes (59 ∷ []) (58 ∷ []) (32 ∷ rest)
      one rest = semicolon_colon rest

    colons : IsUncut (58 ∷ 58 ∷ [])
    colons = record { is = colons_mark; colon = colon_passes }

    pub line_says : (rs : List ℕ) → AreRegisters rs → body_line_of false (codes "    " ++ whole_text rs) ≡ Ok (lines.Item (form_is rs))
    unfolding body_line_of
    line_says rs are =
        let ps = item_pieces rs in
        let line = spelled ps in
        let lexed = pieces_lexed ps (item_read rs are) in
        let comments : before (59 ∷ []) None line ≡ line = pieces_pass (59 ∷ []) semicolon_mark ps (item_uncut (59 ∷ []) semicolons rs are) in
        let operands : before (58 ∷ 58 ∷ []) None line ≡ line = pieces_pass (58 ∷ 58 ∷ []) colons_mark ps (item_uncut (58 ∷ 58 ∷ []) colons rs are) in
        let code : code_of line ≡ line = ap (before (58 ∷ 58 ∷ []) None) comments ∙ operands in
        let parsed = item_parses line rs (lexemes_of line lexed.tokens) are lexed.lexed in
        let within : (list_any is_wide (lexemes_of line lexed.tokens) || (list_any register_exceeds (sets rs) || (list_any operand_exceeds (forms qs)
        || attributes_exceed (attributes_are k loc)))) ≡ false =
        (λ i. narrow_lexed line ps (lexemes_of line lexed.tokens) (item_narrow rs are) lexed.lexed i || (sets_within rs are i ||
        (uses_within qs i || tail_within k loc small at
        i))) in
        ap (body_line_of false) (sym (item_spells rs))
        ∙ (cond-false (is_listing line) (Ok lines.Passed) (line_of_tokens false (code_of line) (tokens_of false (code_of line))) (first_text rs are)
        ∙ (ap (λ (t : List ℕ). line_of_tokens false t (tokens_of false t)) code
        ∙ (ap (line_of_tokens false line) lexed.are
        ∙ (parsed.sentence
        ∙ (ap as_item parsed.item
        ∙ ap (λ (b : Bool). Ok (lines.Item (record {
          definitions = sets rs;
          opcode = text;
          operands = forms qs;
          no_return = false;
          volatile = false;
          number = k;
          loc = loc;
          exceeds = b;
        })))
        within)))))
