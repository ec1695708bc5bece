-- The symbols that a line of bytes names are of bytes.
use Rattle.std.proofs.Common.{◌≡◌, ℕ, zero, suc, ◌<◌, Bool, true, false, cond, List, [], ◌∷◌, length, Option, Some, None, Result, Ok, Err}
use Rattle.std.proofs.Common.{refl, subst, inl, inr}
use Rattle.std.specs.Prelude.{codes}
use Rattle.std.proofs.lemmas.List.Elements.{All-nil, All-cons, All-head, All-tail, All-drop}
use Rattle.read_lexer.specs.declared.fault.LexError.{LexError}
use Rattle.read_lexer.specs.declared.fault.LexError.TheVariants as lex
use Rattle.read_lexer.specs.declared.parts.Token.{Token}
use Rattle.read_lexer.specs.Comment.{is_cut, quote_behind, before as before_mark, before_comment}
use Rattle.read_lexer.specs.Line.{tokens_of}
use Rattle.read_token.specs.declared.lexeme.Flag.{Flag}
use Rattle.read_token.specs.declared.lexeme.Flag.TheVariants.{Plain}
use Rattle.read_token.specs.declared.lexeme.Lexeme.{Lexeme}
use Rattle.read_token.specs.declared.lexeme.Lexeme.TheVariants as lexemes
use Rattle.read_token.specs.declared.lexeme.Word.{Word}
use Rattle.read_token.specs.declared.lexeme.Word.TheVariants as words
use Rattle.read_token.specs.Sentence.{lexemes_of}
use Rattle.read_line.specs.declared.form.BodyLine.{BodyLine}
use Rattle.read_line.specs.declared.form.BodyLine.TheVariants.{Passed, Item}
use Rattle.read_line.specs.declared.form.ItemForm.{ItemForm}
use Rattle.read_line.specs.declared.form.FormError.{FormError}
use Rattle.read_line.specs.declared.form.OperandForm.{OperandForm}
use Rattle.read_line.specs.declared.form.OperandForm.TheVariants as operands
use Rattle.read_line.specs.declared.form.RegisterForm.{RegisterForm}
use Rattle.read_line.specs.Body.{is_listing, code_of, sentence_of, line_of_tokens, body_line_of}
use Rattle.read_line.specs.Bracket.{behind_bracket}
use Rattle.read_line.specs.Item.{before, definitions_of, behind_operand, behind_words, opcode_at, operands_at, begins_operand, operands_of, attributes_of_item}
use Rattle.read_line.specs.Item.{says_no_return, item_with, defined_item, item_of}
use Rattle.read_line.specs.Address.{half_of}
use Rattle.read_line.specs.Operand.{symbol_by, symbol_at, flagged_symbol_at, reference_at, mask_at, expression_at, register_operand_at}
use Rattle.read_line.specs.Operand.{word_operand_at, operand_at}
use Rattle.read_line.specs.Register.{register_at}
use Rattle.read_program.proofs.Forms.{AllOf, bind_some, labelled_no_item, case_some, if_some, if_ok, as_item_some}
use Rattle.read_metadata.specs.Token.{text_of}
use Rattle.readback_functions.specs.Bytes.{AreBytes}
use Rattle.readback_functions.proofs.Names.{token_bytes, symbol_bytes}

-- ---- operands

-- the name that an operand has is of bytes
abbrev pub FormBytes : OperandForm → Type 0
FormBytes (operands.Symbol name) = AreBytes name
FormBytes o = Unit {0}

abbrev Read : Type 0
Read = OperandForm × List Lexeme

module _ (line : List ℕ) (bytes : AreBytes line) where
  is_read : (o : OperandForm) (ts : List Lexeme) (read : Read) → Some (o, ts) ≡ Some read → FormBytes o → FormBytes read.0
  is_read o ts read e is = let same : (o, ts) ≡ read = cc in subst (λ (r : Read). FormBytes r.0) same is

  symbol_is : (ts : List Lexeme) (read : Read) → symbol_at line ts ≡ Some read → FormBytes read.0
  symbol_is (lexemes.Symbol t ∷ ts) read e = is_read _ ts read e (symbol_bytes _ (All-drop (λ (b : ℕ). b < 256) 1 (text_of line t) (token_bytes line t bytes)))
  symbol_is ts read e = absurd cc

  flagged_is : (ts : List Lexeme) (read : Read) → flagged_symbol_at false line ts ≡ Some read → FormBytes read.0
  flagged_is (lexemes.Open ∷ ts) read e = let behind = bind_some (behind_bracket 0 ts) (symbol_by false line (half_of ts)) read e in symbol_is behind.0 read
      behind.2
  flagged_is ts read e = absurd cc

  reference_is : (ts : List Lexeme) (read : Read) → reference_at ts ≡ Some read → FormBytes read.0
  reference_is (lexemes.Open ∷ lexemes.Integer k ∷ lexemes.Comma ∷ lexemes.Integer o ∷ lexemes.Close ∷ ts) read e = is_read _ ts read e tt
  reference_is ts read e = absurd cc

  mask_is : (ts : List Lexeme) (read : Read) → mask_at ts ≡ Some read → FormBytes read.0
  mask_is (lexemes.Open ∷ ts) read e = let behind = bind_some (behind_bracket 0 ts) _ read e in is_read operands.Mask behind.0 read behind.2 tt
  mask_is ts read e = is_read operands.Mask ts read e tt

  register_is : (ts : List Lexeme) (read : Read) → register_operand_at ts ≡ Some read → FormBytes read.0
  register_is ts read e = let r = bind_some (register_at Plain ts) _ read e in is_read (operands.Register r.0.0) r.0.1 read r.2 tt

  expression_is : (ts : List Lexeme) (read : Read) → expression_at ts ≡ Some read → FormBytes read.0
  expression_is ts read e = let behind = bind_some (behind_bracket 0 ts) _ read e in is_read _ behind.0 read behind.2 tt

  word_is : (w : Word) (ts : List Lexeme) (read : Read) → word_operand_at false line w ts ≡ Some read → FormBytes read.0
  unfolding word_operand_at
  word_is (words.Flag f) ts read e = absurd cc
  word_is words.InstrNumber ts read e = absurd cc
  word_is words.Location ts read e = absurd cc
  word_is words.TargetFlags ts read e = flagged_is ts read e
  word_is words.InstrRef ts read e = reference_is ts read e
  word_is w ts read e = mask_is ts read e

  operand_is : (ts : List Lexeme) (read : Read) → operand_at false line ts ≡ Some read → FormBytes read.0
  unfolding operand_at
  operand_is (lexemes.Word (words.Flag f) t ∷ ts) read e = register_is (lexemes.Word (words.Flag f) t ∷ ts) read e
  operand_is (lexemes.Word w t ∷ ts) read e = word_is w ts read e
  operand_is (lexemes.Register name ∷ ts) read e = register_is (lexemes.Register name ∷ ts) read e
  operand_is (lexemes.Slot n ∷ ts) read e = is_read _ ts read e tt
  operand_is (lexemes.Block n ∷ ts) read e = is_read _ ts read e tt
  operand_is (lexemes.Node n ∷ ts) read e = is_read _ ts read e tt
  operand_is (lexemes.Expression ∷ lexemes.Open ∷ ts) read e = expression_is ts read e
  operand_is (lexemes.Integer n ∷ ts) read e = is_read _ ts read e tt
  operand_is (lexemes.Symbol t ∷ ts) read e = symbol_is (lexemes.Symbol t ∷ ts) read e
  operand_is ts read e = absurd cc

  before_is : (o : OperandForm) (more : Option (List OperandForm × List Lexeme)) (read : List OperandForm × List Lexeme) → before o more ≡ Some read →
      FormBytes o → ((r : List OperandForm × List Lexeme) → more ≡ Some r → AllOf FormBytes r.0) → AllOf FormBytes read.0
  before_is o None read e is rest = absurd cc
  before_is o (Some r) read e is rest =
      let same : (o ∷ r.0, r.1) ≡ read = cc in
      subst (λ (x : List OperandForm × List Lexeme). AllOf FormBytes x.0) same (is, rest r refl)

  operands_at_are : (n : ℕ) (ts : List Lexeme) (read : List OperandForm × List Lexeme) → operands_at false line n ts ≡ Some read → AllOf FormBytes read.0
  unfolding operands_at
  operands_at_are zero ts read e = absurd cc
  operands_at_are (suc n) ts read e =
      let o = bind_some (operand_at false line ts) _ read e in
      let first = operand_is ts o.0 o.1 in
      elim (case_some (behind_operand o.0.1) (λ rest. before o.0.0 (operands_at false line n rest)) (Some (o.0.0 ∷ [], o.0.1)) read o.2) [
        | inl more ↦ before_is o.0.0 (operands_at false line n more.0) read more.2 first (λ r is. operands_at_are n more.0 r is)
        | inr last ↦ (let same : (o.0.0 ∷ [], o.0.1) ≡ read = cc in
            subst (λ (x : List OperandForm × List Lexeme). AllOf FormBytes x.0) same (first, tt))
      ]

  operands_are : (ts : List Lexeme) (read : List OperandForm × List Lexeme) → operands_of false line ts ≡ Some read → AllOf FormBytes read.0
  operands_are ts read e = elim (if_some (begins_operand ts) (operands_at false line (length ts) ts) (Some ([], ts)) read e) [
    | inl is ↦ operands_at_are (length ts) ts read is.1
    | inr is ↦ (let none : List OperandForm = [] in let same : (none, ts) ≡ read = (let it = is.1 in cc) in
        subst (λ (x : List OperandForm × List Lexeme). AllOf FormBytes x.0) same tt)
  ]

  defined_is : (ts : List Lexeme) (ds : List RegisterForm) (rest : List Lexeme) (form : ItemForm) → defined_item false line ts ds rest ≡ Some form →
      AllOf FormBytes form.operands
  unfolding defined_item
  defined_is ts ds rest form e =
      let opcode = bind_some (opcode_at (behind_words rest)) _ form e in
      let os = bind_some (operands_of false line opcode.0.1) _ form opcode.2 in
      let attributes = bind_some (attributes_of_item opcode.0.1 os.0.1) _ form os.2 in
      let same : item_with ts ds (text_of line opcode.0.0) os.0.0 (says_no_return rest) attributes.0 ≡ form = (let it = attributes.2 in cc) in
      subst (λ (x : ItemForm). AllOf FormBytes x.operands) same (operands_are opcode.0.1 os.0 os.1)

  item_is : (ts : List Lexeme) (form : ItemForm) → item_of false line ts ≡ Some form → AllOf FormBytes form.operands
  unfolding item_of
  item_is ts form e = let ds = bind_some (definitions_of ts) (λ d. defined_item false line ts d.0 d.1) form e in defined_is ts ds.0.0 ds.0.1 form ds.2

  sentence_is : (ts : List Lexeme) (form : ItemForm) → sentence_of false line ts ≡ Ok (Item form) → AllOf FormBytes form.operands
  unfolding sentence_of
  sentence_is [] form e = absurd cc
  sentence_is (lexemes.Word (words.Block n) t ∷ lexemes.Colon ∷ ts) form e = absurd (labelled_no_item n (Some (lexemes.Colon ∷ ts)) form e)
  sentence_is (lexemes.Word (words.Block n) t ∷ lexemes.Open ∷ ts) form e = absurd (labelled_no_item n (behind_bracket 0 ts) form e)
  sentence_is (t ∷ ts) form e = item_is (t ∷ ts) form (as_item_some (item_of false line (t ∷ ts)) form e)

  tokens_are : (read : Result (List Token) LexError) (form : ItemForm) → line_of_tokens false line read ≡ Ok (Item form) → AllOf FormBytes form.operands
  tokens_are (Ok ts) form e = sentence_is (lexemes_of line ts) form e
  tokens_are (Err (lex.BadByte at)) form e = absurd cc
  tokens_are (Err (lex.UnclosedString at)) form e = absurd cc
  tokens_are (Err lex.Memory) form e = absurd cc

-- ---- lines

abbrev IsByte : ℕ → Type 0
IsByte b = b < 256

cut_bytes : (mark : List ℕ) (quote : Option ℕ) (line : List ℕ) → AreBytes line → AreBytes (before_mark mark quote line)
unfolding before_mark
cut_bytes mark quote [] bytes = All-nil IsByte
cut_bytes mark quote (b ∷ bs) bytes =
    by (is_cut mark quote (b ∷ bs)) (cut_bytes mark (quote_behind quote b) bs (All-tail IsByte b bs bytes))
  where
    by : (t : Bool) → AreBytes (before_mark mark (quote_behind quote b) bs) → AreBytes (cond t [] (b ∷ before_mark mark (quote_behind quote b) bs))
    by true rest = All-nil IsByte
    by false rest = All-cons IsByte b (before_mark mark (quote_behind quote b) bs) (All-head IsByte b bs bytes) rest

-- the operands of the form of a line of bytes
pub line_bytes : (text : List ℕ) (form : ItemForm) → AreBytes text → body_line_of false text ≡ Ok (Item form) → AllOf FormBytes form.operands
unfolding body_line_of
line_bytes text form bytes e =
    tokens_are (code_of text) (cut_bytes (codes "::") None (before_comment text) (cut_bytes (codes ";") None text bytes)) (tokens_of false (code_of text)) form
    (if_ok (is_listing text) (Ok Passed) (line_of_tokens false (code_of text) (tokens_of false (code_of text))) (Ok (Item form)) e passed_no_item) where
      passed_no_item : ◌≡◌ {A = Result BodyLine FormError} (Ok Passed) (Ok (Item form)) → ⊥
      passed_no_item e = cc
