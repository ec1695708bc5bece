-- The operands of a printed line, each in its pieces: what is read of them.
use Rattle.std.proofs.Common.{◌≡◌, ℕ, suc, ℤ, pos, negsuc, ◌-◌, ◌^◌, ◌<◌, ◌≤◌, Bool, true, false, cond, ltb, List, [], ◌∷◌, ◌++◌, length, replicate, Option, Some, None}
use Rattle.std.proofs.Common.{refl, sym, subst, ap, ◌∙◌, arith, All, append_assoc}
use Rattle.std.specs.Prelude.{codes, drop}
use Rattle.std.specs.List.{list_all}
use Rattle.std.specs.Fmt.{decimal, signed_decimal}
use Rattle.std.proofs.lemmas.Bool.{lt-leb, false≢true}
use Rattle.rv64_instr.specs.declared.operand.Operand.{Operand}
use Rattle.rv64_instr.specs.declared.operand.Operand.TheVariants.{Def, Use, ImplicitDef, ImplicitUse, Imm, Slot, Object, Part, Outgoing, Block, Symbol, Mask}
use Rattle.rv64_instr.specs.declared.operand.Operand.TheVariants.{GlobalRegisters}
use Rattle.rv64_instr.specs.Form.{IsSigned}
use Rattle.read_metadata.specs.Definition.{name_of}
use Rattle.read_metadata.specs.Token.{text_of}
use Rattle.read_lexer.specs.declared.parts.Class.{Class}
use Rattle.read_lexer.specs.declared.parts.Class.TheVariants as class
use Rattle.read_lexer.specs.declared.parts.Token.{Token}
use Rattle.read_lexer.specs.Front.{token_at}
use Rattle.read_token.specs.declared.lexeme.Flag.{Flag}
use Rattle.read_token.specs.declared.lexeme.Flag.TheVariants as flags
use Rattle.read_token.specs.declared.lexeme.Lexeme.{Lexeme}
use Rattle.read_token.specs.declared.lexeme.Lexeme.TheVariants as lexemes
use Rattle.read_token.specs.declared.lexeme.Number.{Number}
use Rattle.read_token.specs.declared.lexeme.RegisterName.{RegisterName}
use Rattle.read_token.specs.declared.lexeme.RegisterName.TheVariants.{Physical, Absent, Virtual}
use Rattle.read_token.specs.declared.lexeme.Word.{Word}
use Rattle.read_token.specs.declared.lexeme.Word.TheVariants as words
use Rattle.read_token.specs.Number.{BEYOND}
use Rattle.read_token.specs.Register.{register_of, behind_stack, slot_of, block_operand_of, percent_behind}
use Rattle.read_token.specs.Sentence.{lexeme_by}
use Rattle.read_token.specs.Word.{case_of, is_plain, flag_of, keyword_of, word_of}
use Rattle.read_line.specs.declared.form.OperandForm.{OperandForm}
use Rattle.read_line.specs.declared.form.OperandForm.TheVariants as form
use Rattle.read_line.specs.declared.form.RegisterForm.{RegisterForm}
use Rattle.read_line.specs.Attribute.{begins_attribute}
use Rattle.read_line.specs.Exceeds.{is_beyond, operand_exceeds, is_wide}
use Rattle.read_line.specs.Item.{begins_operand}
use Rattle.read_line.specs.Operand.{fitting, mask_at, word_operand_at, operand_at}
use Rattle.read_line.specs.Read.{◌>>=◌}
use Rattle.read_line.specs.Register.{behind_class, behind_tied, named_at, register_at}
use Rattle.read_program.proofs.Operands.{IsLimitedIn, IsEntryNumber, of_entry, of_fixed, entry_number}
use Rattle.mir_printer.specs.Spelling.{register_text, symbol_text, object_text, operand_text}
use Rattle.readback_items.specs.Forms.{register_name, register_form, no_register, operand_form}
use Rattle.readback_items.specs.Laws.{NameIsBytes}
use Rattle.readback_items.proofs.Cuts.{is_safe, IsMark, Passes, AllPass, safe_passes, symbol_passes, decimal_safe}
use Rattle.readback_items.proofs.Lexing.{Piece, spelled, Reads, AllRead, Lexed}
use Rattle.readback_items.proofs.Numbers.{limited_decimal, integer_read, named_decimal}
use Rattle.readback_items.proofs.Registers.{register_class, register_token, register_lexeme, register_within}
use Rattle.readback_items.proofs.Symbols.{symbol_of}
use Rattle.readback_items.proofs.Tokens.{Ends, word_read, register_read, percent_read, single_read, integer_token, node_token, decimal_word}
use Rattle.base_ids.specs.Limits.{MAX_NUMBER, FIXED}

abbrev pub piece : ℕ → Class → List ℕ → Piece
piece n c text = record { blanks = n; class = c; text = text }

abbrev pub comma : Piece
comma = piece 0 (class.Single 44) (44 ∷ [])

pub comma_read : (rest : List ℕ) → Reads (class.Single 44) (44 ∷ []) rest
unfolding token_at
comma_read rest = single_read 44 rest (λ at after. refl) refl

-- what may stand behind an operand: no class of a virtual register and no bracket, which would be read with it
pub record IsPlain (ls : List Lexeme) : Type 0 where
  pub classless : (n : ℕ) → behind_class (Virtual n) ls ≡ Some ls
  pub tied : behind_tied ls ≡ Some ls
  pub mask : mask_at ls ≡ Some (form.Mask, ls)

-- an operand is read of lexemes, and these pieces are left
pub record Parsed (line : List ℕ) (ps : List Piece) (ls : List Lexeme) (f : OperandForm) : Type 0 where
  pub rest : List Lexeme
  pub is : operand_at false line ls ≡ Some (f, rest)
  pub lexed : Lexed line ps rest
  pub operand : begins_operand ls ≡ true
  pub attribute : begins_attribute ls ≡ false

-- no integer of pieces is wide
abbrev pub AllNarrow : List Piece → Type 0
AllNarrow [] = Unit {0}
AllNarrow (p ∷ ps) = ((t : Token) → is_wide (lexeme_by p.class t p.text) ≡ false) × AllNarrow ps

-- an operand as it is printed: its text, its pieces behind spaces, and its form
pub record Phrase : Type 0 where
  pub text : List ℕ
  pub form : OperandForm
  pub pieces : ℕ → List Piece
  pub spells : (n : ℕ) (ps : List Piece) → spelled (pieces n ++ ps) ≡ replicate n 32 ++ (text ++ spelled ps)
  pub reads : (n : ℕ) (ps : List Piece) → Ends (spelled ps) → AllRead ps → AllRead (pieces n ++ ps)
  pub parses : (line : List ℕ) (n : ℕ) (ps : List Piece) (ls : List Lexeme) → ((rest : List Lexeme) → Lexed line ps rest → IsPlain rest) →
      Lexed line (pieces n ++ ps) ls → Parsed line ps ls form
  pub some : (n : ℕ) → 1 ≤ length (pieces n)
  pub narrow : (n : ℕ) (ps : List Piece) → AllNarrow ps → AllNarrow (pieces n ++ ps)
  pub uncut : (mark : List ℕ) → IsMark mark → (n : ℕ) (ps : List Piece) → AllPass mark ps → AllPass mark (pieces n ++ ps)
  pub within : operand_exceeds form ≡ false

-- a number within the limit
pub within_number : (n : ℕ) → n ≤ MAX_NUMBER → is_beyond n ≡ false
within_number n small = lt-leb BEYOND n (omega (arith, small))

sized : (n : ℕ) → n ≤ MAX_NUMBER → n < 2 ^ 64
sized n small = omega (arith, small)

-- ---- registers

named_plain : (flag : Flag) (name : RegisterName) (ls : List Lexeme) → behind_class name ls ≡ Some ls → behind_tied ls ≡ Some ls →
    named_at flag name ls ≡ Some (record { flag = flag; name = name }, ls)
unfolding named_at
named_plain flag name ls classed tied =
    ap (λ (o : Option (List Lexeme)). o >>= λ c. behind_tied c >>= λ rest. Some (record { flag = flag; name = name }, rest)) classed
    ∙ ap (λ (o : Option (List Lexeme)). o >>= λ rest. Some (record { flag = flag; name = name }, rest)) tied

pub register_named : (flag : Flag) (r : ℕ) (ls : List Lexeme) → IsPlain ls → named_at flag (register_name r) ls ≡ Some (register_form flag r, ls)
register_named flag r ls plain = by (ltb r 32) where
  by : (b : Bool) → named_at flag (cond b (Physical r) (Virtual (r - 32))) ls ≡
      Some (record { flag = flag; name = cond b (Physical r) (Virtual (r - 32)) }, ls)
  by true = named_plain flag (Physical r) ls refl plain.tied
  by false = named_plain flag (Virtual (r - 32)) ls (plain.classless (r - 32)) plain.tied

absent_at : (ls : List Lexeme) → IsPlain ls → named_at flags.Plain Absent ls ≡ Some (record { flag = flags.Plain; name = Absent }, ls)
absent_at ls plain = named_plain flags.Plain Absent ls refl plain.tied

as_operand : Option (RegisterForm × List Lexeme) → Option (OperandForm × List Lexeme)
as_operand o = o >>= λ r. Some (form.Register r.0, r.1)

-- a register, and a register behind the word of its flag
plain_register : (line : List ℕ) (name : RegisterName) (ls : List Lexeme) (f : RegisterForm) → named_at flags.Plain name ls ≡ Some (f, ls) →
    operand_at false line (lexemes.Register name ∷ ls) ≡ Some (form.Register f, ls)
unfolding operand_at register_at as_operand
plain_register line name ls f is = ap as_operand is

flagged_register : (line : List ℕ) (flag : Flag) (t : Token) (name : RegisterName) (ls : List Lexeme) (f : RegisterForm) → named_at flag name ls ≡ Some
    (f, ls) →
    operand_at false line (lexemes.Word (words.Flag flag) t ∷ lexemes.Register name ∷ ls) ≡ Some (form.Register f, ls)
unfolding operand_at register_at as_operand
flagged_register line flag t name ls f is = ap as_operand is

-- the piece of a register behind so many spaces
abbrev pub register_piece : ℕ → ℕ → Piece
register_piece n r = piece n (register_class r) (register_text r)

pub register_safe : (r : ℕ) → r < 4128 → list_all is_safe (register_text r) ≡ true
register_safe r small = by (ltb r 32) where
  by : (b : Bool) → list_all is_safe (cond b (codes "$x" ++ decimal r) (codes "%" ++ decimal (r - 32))) ≡ true
  by true = decimal_safe r (omega (arith, small))
  by false = decimal_safe (r - 32) (omega (arith, small))

pub register_narrow : (r : ℕ) → r < 4128 → (t : Token) → is_wide (lexeme_by (register_class r) t (register_text r)) ≡ false
register_narrow r small t = ap is_wide (register_lexeme r t small)

pub register_phrase : (r : ℕ) → r < 4128 → Phrase
register_phrase r small = record {
  text = register_text r;
  form = form.Register (register_form flags.Plain r);
  pieces = λ n. register_piece n r ∷ [];
  spells = λ n ps. refl;
  reads = λ n ps ends all. (register_token r (spelled ps) small ends, all);
  parses = λ line n ps ls plain is. parsed line ps ls plain is;
  some = λ n. omega arith;
  narrow = λ n ps all. (register_narrow r small, all);
  uncut = λ mark is n ps all. (safe_passes mark is (register_text r) (spelled ps) (register_safe r small), all);
  within = register_within r small;
} where
  parsed : (line : List ℕ) (ps : List Piece) (ls : List Lexeme) → ((rest : List Lexeme) → Lexed line ps rest → IsPlain rest) →
      (t : Token) × (rest : List Lexeme) × (text_of line t ≡ register_text r)
      × (ls ≡ lexeme_by (register_class r) t (register_text r) ∷ rest) × Lexed line ps rest →
      Parsed line ps ls (form.Register (register_form flags.Plain r))
  parsed line ps ls plain (t, rest, text, is, more) =
      subst (λ (xs : List Lexeme). Parsed line ps xs (form.Register (register_form flags.Plain r)))
      (sym (is ∙ ap (λ (l : Lexeme). l ∷ rest) (register_lexeme r t small)))
      (record {
        rest = rest;
        is = plain_register line (register_name r) rest (register_form flags.Plain r) (register_named flags.Plain r rest (plain rest more));
        lexed = more;
        operand = refl;
        attribute = refl;
      })

no_register_is : register_of (codes "$noreg") ≡ Absent
unfolding register_of
no_register_is = refl

-- `$noreg`
pub absent_phrase : Phrase
absent_phrase = record {
  text = codes "$noreg";
  form = no_register;
  pieces = λ n. piece n class.Register (codes "$noreg") ∷ [];
  spells = λ n ps. refl;
  reads = λ n ps ends all. (register_read 110 (codes "oreg") (spelled ps) refl ends, all);
  parses = λ line n ps ls plain is. parsed line ps ls plain is;
  some = λ n. omega arith;
  narrow = λ n ps all. ((λ t. refl), all);
  uncut = λ mark is n ps all. (safe_passes mark is (codes "$noreg") (spelled ps) refl, all);
  within = refl;
} where
  parsed : (line : List ℕ) (ps : List Piece) (ls : List Lexeme) → ((rest : List Lexeme) → Lexed line ps rest → IsPlain rest) →
      (t : Token) × (rest : List Lexeme) × (text_of line t ≡ codes "$noreg") × (ls ≡ lexemes.Register (register_of (codes "$noreg")) ∷ rest)
      × Lexed line ps rest → Parsed line ps ls no_register
  parsed line ps ls plain (t, rest, text, is, more) =
      subst (λ (xs : List Lexeme). Parsed line ps xs no_register)
      (sym (is ∙ ap (λ (name : RegisterName). lexemes.Register name ∷ rest) no_register_is))
      (record {
        rest = rest;
        is = plain_register line Absent rest (record { flag = flags.Plain; name = Absent }) (absent_at rest (plain rest more));
        lexed = more;
        operand = refl;
        attribute = refl;
      })

-- a word of a flag and a register
module _ (word : List ℕ) (first : ℕ) (bytes : List ℕ) (flag : Flag) (parts : word ≡ first ∷ bytes) (means : word_of word ≡ words.Flag flag)
    (lexes : (rest : List ℕ) → Ends rest → Reads class.Word word rest) (safe : list_all is_safe word ≡ true) (r : ℕ) (small : r < 4128) where
  flagged_parsed : (line : List ℕ) (ps : List Piece) (ls : List Lexeme) → ((rest : List Lexeme) → Lexed line ps rest → IsPlain rest) →
      (t : Token) × (behind : List Lexeme) × (text_of line t ≡ word) × (ls ≡ lexemes.Word (word_of word) t ∷ behind)
      × ((u : Token) × (rest : List Lexeme) × (text_of line u ≡ register_text r)
      × (behind ≡ lexeme_by (register_class r) u (register_text r) ∷ rest) × Lexed line ps rest) → Parsed line ps ls (form.Register (register_form flag r))
  flagged_parsed line ps ls plain (t, behind, text, is, (u, rest, text_too, is_too, more)) =
      subst (λ (xs : List Lexeme). Parsed line ps xs (form.Register (register_form flag r)))
      (sym (is ∙ (ap (λ (w : Word). lexemes.Word w t ∷ behind) means
      ∙ ap (λ (xs : List Lexeme). lexemes.Word (words.Flag flag) t ∷ xs) (is_too ∙ ap (λ (l : Lexeme). l ∷ rest) (register_lexeme r u small)))))
      (record {
        rest = rest;
        is = flagged_register line flag t (register_name r) rest (register_form flag r) (register_named flag r rest (plain rest more));
        lexed = more;
        operand = refl;
        attribute = refl;
      })

  pub flagged_phrase : Phrase
  flagged_phrase = record {
    text = word ++ (32 ∷ register_text r);
    form = form.Register (register_form flag r);
    pieces = λ n. piece n class.Word word ∷ register_piece 1 r ∷ [];
    spells = λ n ps. ap (λ (t : List ℕ). replicate n 32 ++ t) (sym (append_assoc word (32 ∷ register_text r) (spelled ps)));
    reads = λ n ps ends all. (lexes _ refl, (register_token r (spelled ps) small ends, all));
    parses = λ line n ps ls plain is. flagged_parsed line ps ls plain is;
    some = λ n. omega arith;
    narrow = λ n ps all. ((λ t. refl), (register_narrow r small, all));
    uncut = λ mark is n ps all. (
      safe_passes mark is word (32 ∷ (register_text r ++ spelled ps)) safe,
      (safe_passes mark is (register_text r) (spelled ps) (register_safe r small), all),
    );
    within = register_within r small;
  }

implicit_is : word_of (codes "implicit") ≡ words.Flag flags.Implicit
unfolding word_of flag_of is_plain keyword_of
implicit_is = refl

implicit_def_is : word_of (codes "implicit-def") ≡ words.Flag flags.ImplicitDef
unfolding word_of flag_of is_plain keyword_of
implicit_def_is = refl

pub implicit_phrase : (r : ℕ) → r < 4128 → Phrase
implicit_phrase r small = flagged_phrase (codes "implicit") 105 (codes "mplicit") flags.Implicit refl implicit_is
    (λ rest ends. word_read 105 (codes "mplicit") rest refl refl refl ends) refl r small

pub implicit_def_phrase : (r : ℕ) → r < 4128 → Phrase
implicit_def_phrase r small = flagged_phrase (codes "implicit-def") 105 (codes "mplicit-def") flags.ImplicitDef refl implicit_def_is
    (λ rest ends. word_read 105 (codes "mplicit-def") rest refl refl refl ends) refl r small

-- ---- others

-- an operand of one token
module _ (text : List ℕ) (c : Class) (f : OperandForm) (lexes : (rest : List ℕ) → Ends rest → Reads c text rest)
    (means : (line : List ℕ) (t : Token) (rest : List Lexeme) → text_of line t ≡ text → IsPlain rest →
    (operand_at false line (lexeme_by c t text ∷ rest) ≡ Some (f, rest)) × (begins_operand (lexeme_by c t text ∷ rest) ≡ true)
    × (begins_attribute (lexeme_by c t text ∷ rest) ≡ false)) (narrow : (t : Token) → is_wide (lexeme_by c t text) ≡ false)
    (passes : (mark : List ℕ) → IsMark mark → (rest : List ℕ) → Passes mark text rest) (within : operand_exceeds f ≡ false) where
  one_parsed : (line : List ℕ) (ps : List Piece) (ls : List Lexeme) → ((rest : List Lexeme) → Lexed line ps rest → IsPlain rest) →
      (t : Token) × (rest : List Lexeme) × (text_of line t ≡ text) × (ls ≡ lexeme_by c t text ∷ rest) × Lexed line ps rest → Parsed line ps ls f
  one_parsed line ps ls plain (t, rest, text_is, is, more) =
      let says = means line t rest text_is (plain rest more) in
      subst (λ (xs : List Lexeme). Parsed line ps xs f) (sym is)
      (record { rest = rest; is = says.0; lexed = more; operand = says.1; attribute = says.2 })

  one_phrase : Phrase
  one_phrase = record {
    text = text;
    form = f;
    pieces = λ n. piece n c text ∷ [];
    spells = λ n ps. refl;
    reads = λ n ps ends all. (lexes (spelled ps) ends, all);
    parses = λ line n ps ls plain is. one_parsed line ps ls plain is;
    some = λ n. omega arith;
    narrow = λ n ps all. (narrow, all);
    uncut = λ mark is n ps all. (passes mark is (spelled ps), all);
    within = within;
  }

signed_safe : (i : ℤ) → IsSigned i → list_all is_safe (signed_decimal i) ≡ true
signed_safe (pos n) small = decimal_safe n (omega (arith, small))
signed_safe (negsuc n) small = decimal_safe (suc n) (omega (arith, small))

pub integer_phrase : (i : ℤ) → IsSigned i → Phrase
unfolding operand_at
integer_phrase i small = one_phrase (signed_decimal i) class.Integer (form.Integer (Some i)) (λ rest ends. integer_token i rest small ends)
    (λ line t rest text plain. (ap (λ (x : Number). Some (form.Integer (fitting x), rest)) (integer_read i small), refl, refl))
    (λ t. ap (λ (x : Number). is_wide (lexemes.Integer x)) (integer_read i small)) (λ mark is rest. safe_passes mark is (signed_decimal i) rest
    (signed_safe i small))
    refl

-- `%stack.N`
stack_lexeme : (n : ℕ) → n ≤ MAX_NUMBER → percent_behind (codes "stack." ++ decimal n) ≡ lexemes.Slot n
unfolding percent_behind
stack_lexeme n small = ap (λ (o : Option ℕ). case_of o lexemes.Slot lexemes.Other) (named_decimal n small)

no_stack : (xs : List ℕ) → behind_stack (98 ∷ xs) ≡ None
no_stack [] = refl
no_stack (a ∷ []) = refl
no_stack (a ∷ b ∷ []) = refl
no_stack (a ∷ b ∷ c ∷ []) = refl
no_stack (a ∷ b ∷ c ∷ d ∷ []) = refl
no_stack (a ∷ b ∷ c ∷ d ∷ e ∷ xs) = refl

-- `%bb.N`
block_lexeme : (n : ℕ) → n ≤ MAX_NUMBER → percent_behind (codes "bb." ++ decimal n) ≡ lexemes.Block n
unfolding percent_behind
block_lexeme n small =
    ap (λ (o : Option (List ℕ)). case_of o slot_of (block_operand_of (decimal n))) (no_stack (98 ∷ 46 ∷ decimal n))
    ∙ ap (λ (o : Option ℕ). case_of o lexemes.Block lexemes.Other) (named_decimal n small)

pub stack_phrase : (n : ℕ) → n ≤ MAX_NUMBER → Phrase
unfolding operand_at
stack_phrase n small = one_phrase (codes "%stack." ++ decimal n) class.Percent (form.Slot n)
    (λ rest ends. percent_read 115 (codes "tack." ++ decimal n) rest (decimal_word n (omega (arith, small))) ends)
    (λ line t rest text plain. (
      ap (λ (l : Lexeme). operand_at false line (l ∷ rest)) (stack_lexeme n small),
      ap (λ (l : Lexeme). begins_operand (l ∷ rest)) (stack_lexeme n small),
      ap (λ (l : Lexeme). begins_attribute (l ∷ rest)) (stack_lexeme n small),
    ))
    (λ t. ap is_wide (stack_lexeme n small)) (λ mark is rest. safe_passes mark is (codes "%stack." ++ decimal n) rest (decimal_safe n (sized n small)))
    (within_number n small)

pub block_phrase : (n : ℕ) → n ≤ MAX_NUMBER → Phrase
unfolding operand_at
block_phrase n small = one_phrase (codes "%bb." ++ decimal n) class.Percent (form.Block n)
    (λ rest ends. percent_read 98 (codes "b." ++ decimal n) rest (decimal_word n (omega (arith, small))) ends)
    (λ line t rest text plain. (
      ap (λ (l : Lexeme). operand_at false line (l ∷ rest)) (block_lexeme n small),
      ap (λ (l : Lexeme). begins_operand (l ∷ rest)) (block_lexeme n small),
      ap (λ (l : Lexeme). begins_attribute (l ∷ rest)) (block_lexeme n small),
    ))
    (λ t. ap is_wide (block_lexeme n small)) (λ mark is rest. safe_passes mark is (codes "%bb." ++ decimal n) rest (decimal_safe n (sized n small)))
    (within_number n small)

-- `!N`
pub node_phrase : (n : ℕ) → n ≤ MAX_NUMBER → Phrase
unfolding operand_at
node_phrase n small = one_phrase (33 ∷ decimal n) class.Node (form.Node n) (λ rest ends. node_token n rest (omega (arith, small)) ends)
    (λ line t rest text plain. (ap (λ (m : ℕ). Some (form.Node m, rest)) (limited_decimal n small), refl, refl))
    (λ t. refl) (λ mark is rest. safe_passes mark is (33 ∷ decimal n) rest (decimal_safe n (sized n small))) (within_number n small)

pub symbol_phrase : (name : List ℕ) → All (λ b. b < 256) name → Phrase
unfolding operand_at
symbol_phrase name bytes = one_phrase (symbol_text name) class.Symbol (form.Symbol name) (λ rest ends. (symbol_of name rest bytes ends).token)
    (λ line t rest text plain. (
      ap (λ (x : List ℕ). Some (form.Symbol (name_of (drop 1 x)), rest)) text ∙ ap (λ (x : List ℕ). Some (form.Symbol x, rest))
          (symbol_of name [] bytes tt).name_is,
      refl,
      refl,
    ))
    (λ t. refl) (λ mark is rest. symbol_passes mark is name rest bytes) refl

mask_is : word_of (codes "mask") ≡ words.Lower
unfolding word_of flag_of is_plain keyword_of
mask_is = refl

pub mask_phrase : Phrase
unfolding operand_at word_operand_at
mask_phrase = one_phrase (codes "mask") class.Word form.Mask (λ rest ends. word_read 109 (codes "ask") rest refl refl refl ends)
    (λ line t rest text plain. (
      ap (λ (w : Word). operand_at false line (lexemes.Word w t ∷ rest)) mask_is ∙ plain.mask,
      ap (λ (w : Word). begins_operand (lexemes.Word w t ∷ rest)) mask_is,
      ap (λ (w : Word). begins_attribute (lexemes.Word w t ∷ rest)) mask_is,
    ))
    (λ t. refl) (λ mark is rest. safe_passes mark is (codes "mask") rest refl) refl

-- ---- the operands of code

-- a phrase with a text and a form
pub record PhraseOf (text : List ℕ) (f : OperandForm) : Type 0 where
  pub phrase : Phrase
  pub text_is : phrase.text ≡ text
  pub form_is : phrase.form ≡ f

pub register_said : (r : ℕ) → r < 4128 → PhraseOf (register_text r) (form.Register (register_form flags.Plain r))
unfolding register_phrase
register_said r small = record { phrase = register_phrase r small; text_is = refl; form_is = refl }

pub absent_said : PhraseOf (codes "$noreg") no_register
unfolding absent_phrase
absent_said = record { phrase = absent_phrase; text_is = refl; form_is = refl }

pub integer_said : (i : ℤ) → IsSigned i → PhraseOf (signed_decimal i) (form.Integer (Some i))
unfolding integer_phrase one_phrase
integer_said i small = record { phrase = integer_phrase i small; text_is = refl; form_is = refl }

pub stack_said : (n : ℕ) → n ≤ MAX_NUMBER → PhraseOf (codes "%stack." ++ decimal n) (form.Slot n)
unfolding stack_phrase one_phrase
stack_said n small = record { phrase = stack_phrase n small; text_is = refl; form_is = refl }

pub node_said : (n : ℕ) → n ≤ MAX_NUMBER → PhraseOf (33 ∷ decimal n) (form.Node n)
unfolding node_phrase one_phrase
node_said n small = record { phrase = node_phrase n small; text_is = refl; form_is = refl }

-- a stack object that isn't fixed
pub plain_entry : (n : ℕ) → IsLimitedIn false (Object n) → n ≤ MAX_NUMBER
plain_entry n is = by (entry_number n is.1) where
  by : IsEntryNumber n → n ≤ MAX_NUMBER
  by (of_entry small) = small
  by (of_fixed great small) = absurd (false≢true (is.0 great))

object_said : (n : ℕ) → IsLimitedIn false (Object n) → PhraseOf (object_text n) (form.Slot n)
object_said n is =
    let small = plain_entry n is in
    let text : object_text n ≡ codes "%stack." ++ decimal n =
    ap (λ (b : Bool). cond b (codes "%fixed-stack." ++ decimal (n - FIXED)) (codes "%stack." ++ decimal n)) (lt-leb FIXED n (omega (arith, small))) in
    subst (λ (t : List ℕ). PhraseOf t (form.Slot n)) (sym text) (stack_said n small)

pub operand_said : (o : Operand) → IsLimitedIn false o → NameIsBytes o → PhraseOf (operand_text o) (operand_form o)
unfolding implicit_phrase implicit_def_phrase flagged_phrase block_phrase symbol_phrase mask_phrase one_phrase
operand_said (Def r) small bytes = register_said r small
operand_said (Use r) small bytes = register_said r small
operand_said (ImplicitDef r) small bytes = record { phrase = implicit_def_phrase r (omega (arith, small)); text_is = refl; form_is = refl }
operand_said (ImplicitUse r) small bytes = record { phrase = implicit_phrase r (omega (arith, small)); text_is = refl; form_is = refl }
operand_said (Imm i) small bytes = integer_said i small
operand_said (Slot n) small bytes = stack_said n small
operand_said (Object n) small bytes = object_said n small
operand_said (Part half y) small bytes = absurd (false≢true small.0)
operand_said (Outgoing n) small bytes = absurd small
operand_said GlobalRegisters small bytes = absurd small
operand_said (Block n) small bytes = record { phrase = block_phrase n small; text_is = refl; form_is = refl }
operand_said (Symbol name) small bytes = record { phrase = symbol_phrase name bytes; text_is = refl; form_is = refl }
operand_said Mask small bytes = record { phrase = mask_phrase; text_is = refl; form_is = refl }
