-- The operands of debug lines: expressions and references.
use Rattle.std.proofs.Common.{◌≡◌, false, ℕ, pos, ◌+◌, ◌*◌, ◌/◌, ◌%◌, ◌^◌, ◌<◌, ◌≤◌, Bool, true, cond, ◌&&◌, ◌||◌, leb, List, [], ◌∷◌, ◌++◌, replicate}
use Rattle.std.proofs.Common.{Option, Some, None, refl, sym, subst, ap, ◌∙◌, arith, append_assoc}
use Rattle.std.specs.Prelude.{codes}
use Rattle.std.specs.Fmt.{decimal}
use Rattle.std.proofs.lemmas.Fmt.{decimal_digit}
use Rattle.std.proofs.lemmas.Bool.{le-leb, and_from, eq-eqb}
use Rattle.read_metadata.specs.Token.{text_of}
use Rattle.mir_func.specs.declared.debug_substitution.OperandPair.{OperandPair}
use Rattle.mir_func.specs.Parts.{Bytes, IsPart}
use Rattle.base_ids.specs.Limits.{MAX_NUMBER}
use Rattle.read_lexer.specs.declared.parts.Class.TheVariants as class
use Rattle.read_lexer.specs.declared.parts.Token.{Token}
use Rattle.read_lexer.specs.Front.{token_at}
use Rattle.read_token.specs.declared.lexeme.Lexeme.{Lexeme}
use Rattle.read_token.specs.declared.lexeme.Lexeme.TheVariants as lexemes
use Rattle.read_token.specs.declared.lexeme.Number.{Number}
use Rattle.read_token.specs.declared.lexeme.Number.TheVariants.{Fits}
use Rattle.read_token.specs.declared.lexeme.Word.{Word}
use Rattle.read_token.specs.declared.lexeme.Word.TheVariants as words
use Rattle.read_token.specs.Number.{BEYOND, number_of}
use Rattle.read_token.specs.Sentence.{kind_of}
use Rattle.read_token.specs.Word.{is_plain, flag_of, keyword_of, word_of}
use Rattle.read_line.specs.declared.form.Expression.{Expression}
use Rattle.read_line.specs.declared.form.Expression.TheVariants as expression
use Rattle.read_line.specs.declared.form.OperandForm.TheVariants as form
use Rattle.read_line.specs.Bracket.{behind_bracket}
use Rattle.read_line.specs.Exceeds.{is_wide}
use Rattle.read_line.specs.Operand.{capped, whole, whole_bytes, are_part, part_of, plain_part, argument_part, expression_of, word_operand_at, operand_at}
use Rattle.read_line.specs.Read.{◌>>=◌}
use Rattle.mir_printer.specs.Spelling.{fragment_text, expression_text, pair_expression_text}
use Rattle.readback_items.specs.Forms.{plain_expression, argument_expression}
use Rattle.readback_items.proofs.Cuts.{IsMark, AllPass, safe_passes, decimal_safe}
use Rattle.readback_items.proofs.Lexing.{Piece, spelled, Reads, AllRead, Lexed}
use Rattle.readback_items.proofs.Numbers.{integer_read}
use Rattle.readback_items.proofs.Phrases.{piece, comma, comma_read, Parsed, Phrase, PhraseOf, AllNarrow, within_number}
use Rattle.readback_items.proofs.Tokens.{Ends, word_read, kind_read, single_read, decimal_token}

abbrev pub open_bracket : Piece
open_bracket = piece 0 (class.Single 40) (40 ∷ [])

abbrev pub close_bracket : Piece
close_bracket = piece 0 (class.Single 41) (41 ∷ [])

pub open_read : (rest : List ℕ) → Reads (class.Single 40) (40 ∷ []) rest
unfolding token_at
open_read rest = single_read 40 rest (λ at after. refl) refl

pub close_read : (rest : List ℕ) → Reads (class.Single 41) (41 ∷ []) rest
unfolding token_at
close_read rest = single_read 41 rest (λ at after. refl) refl

pub decimal_read : (n : ℕ) → n < 2 ^ 63 → number_of (decimal n) ≡ Fits (pos n)
decimal_read n small = integer_read (pos n) small

pub capped_is : (n : ℕ) → n ≤ MAX_NUMBER → capped n ≡ n
capped_is n small = ap (λ (b : Bool). cond b n BEYOND) (le-leb n BEYOND (omega (arith, small)))

-- ---- parts

bits_read : (n : ℕ) → n ≤ 8192 → whole_bytes (Fits (pos (8 * n))) ≡ Some n
bits_read n small =
    let none : 8 * n % 8 ≡ 0 = omega arith in
    let bytes : 8 * n / 8 ≡ n = omega arith in
    ap (λ (b : Bool). cond b (whole (8 * n)) None) (le-leb (8 * n) 65536 (omega (arith, small)))
    ∙ (ap (λ (b : Bool). cond b (Some (8 * n / 8)) None) (eq-eqb (8 * n % 8) 0 none) ∙ ap (λ (m : ℕ). Some m) bytes)

pub part_read : (b : Bytes) → IsPart b → part_of (Fits (pos (8 * b.offset))) (Fits (pos (8 * b.length))) ≡ Some b
part_read b is =
    let one = is.0 in
    let most = is.1 in
    let end = is.2 in
    let fits : are_part b.offset b.length ≡ true = and_from (leb 1 b.length && leb b.length 8) (leb (b.offset + b.length) 8192)
    (and_from (leb 1 b.length) (leb b.length 8) (le-leb 1 b.length one) (le-leb b.length 8 most)) (le-leb (b.offset + b.length) 8192 end) in
    ap (λ (o : Option ℕ). o >>= λ (first : ℕ). whole_bytes (Fits (pos (8 * b.length))) >>= λ (len : ℕ). cond (are_part first len) (Some (record
    { offset = first; length = len })) None) (bits_read b.offset (omega (arith, end)))
    ∙ (ap (λ (o : Option ℕ). o >>= λ (len : ℕ). cond (are_part b.offset len) (Some (record { offset = b.offset; length = len })) None)
    (bits_read b.length (omega (arith, end)))
    ∙ ap (λ (t : Bool). cond t (Some (record { offset = b.offset; length = b.length })) None) fits)

-- ---- words

pub expression_is : kind_of (codes "!DIExpression") ≡ lexemes.Expression
unfolding kind_of
expression_is = refl

fragment_is : word_of (codes "DW_OP_LLVM_fragment") ≡ words.Fragment
unfolding word_of flag_of is_plain keyword_of
fragment_is = refl

argument_is : word_of (codes "DW_OP_LLVM_arg") ≡ words.Argument
unfolding word_of flag_of is_plain keyword_of
argument_is = refl

reference_is : word_of (codes "dbg-instr-ref") ≡ words.InstrRef
unfolding word_of flag_of is_plain keyword_of
reference_is = refl

zero_is : number_of (48 ∷ []) ≡ Fits (pos 0)
zero_is = sym (ap number_of (decimal_digit 0 (omega arith))) ∙ decimal_read 0 (omega arith)

-- ---- what brackets hold

-- pieces in brackets, and what is read of them
record Inside (pieces : List Piece) (text : List ℕ) (e : Expression) : Type 0 where
  spells : (ps : List Piece) → spelled (pieces ++ ps) ≡ text ++ spelled ps
  reads : (ps : List Piece) → Ends (spelled ps) → AllRead ps → AllRead (pieces ++ ps)
  narrow : (ps : List Piece) → AllNarrow ps → AllNarrow (pieces ++ ps)
  uncut : (mark : List ℕ) → IsMark mark → (ps : List Piece) → AllPass mark ps → AllPass mark (pieces ++ ps)
  parses : (line : List ℕ) (ps : List Piece) (ls : List Lexeme) → Lexed line (pieces ++ (close_bracket ∷ ps)) ls →
      (rest : List Lexeme) × (behind_bracket 0 ls ≡ Some rest) × (expression_of ls ≡ e) × Lexed line ps rest

nothing_inside : Inside [] [] expression.Empty
unfolding behind_bracket expression_of
nothing_inside = record {
  spells = λ ps. refl;
  reads = λ ps ends all. all;
  narrow = λ ps all. all;
  uncut = λ mark is ps all. all;
  parses = λ line ps ls lexed.
      (lexed.1, ap (behind_bracket 0) lexed.3, ap expression_of lexed.3, lexed.4);
}

abbrev number : ℕ → ℕ → Piece
number n k = piece n class.Integer (decimal k)

abbrev fragment_pieces : ℕ → Bytes → List Piece
fragment_pieces n b = piece n class.Word (codes "DW_OP_LLVM_fragment") ∷ comma ∷ number 1 (8 * b.offset) ∷ comma ∷ number 1 (8 * b.length) ∷ []

abbrev fragment_lexemes : Token → Bytes → List Lexeme → List Lexeme
fragment_lexemes t b rest = lexemes.Word words.Fragment t ∷ lexemes.Comma ∷ lexemes.Integer (Fits (pos (8 * b.offset))) ∷ lexemes.Comma
    ∷ lexemes.Integer (Fits (pos (8 * b.length))) ∷ rest

module _ (b : Bytes) (is : IsPart b) where
  few : (8 * b.offset < 2 ^ 63) × (8 * b.length < 2 ^ 63)
  few = let end = is.2 in (omega (arith, end), omega (arith, end))

  fragment_lexed : (n : ℕ) (line : List ℕ) (ps : List Piece) (ls : List Lexeme) → Lexed line (fragment_pieces n b ++ ps) ls →
      (t : Token) × (rest : List Lexeme) × (ls ≡ fragment_lexemes t b rest) × Lexed line ps rest
  fragment_lexed n line ps ls (t, r, x, e, (t2, r2, x2, e2, (t3, r3, x3, e3, (t4, r4, x4, e4, (t5, r5, x5, e5, more))))) = (
    t,
    r5,
    e ∙ (ap (λ (w : Word). lexemes.Word w t ∷ r) fragment_is ∙ ap (λ (xs : List Lexeme). lexemes.Word words.Fragment t ∷ xs)
        (e2 ∙ ap (λ (xs : List Lexeme). lexemes.Comma ∷ xs)
        (e3 ∙ (ap (λ (k : Number). lexemes.Integer k ∷ r3) (decimal_read (8 * b.offset) few.0) ∙ ap (λ (xs : List Lexeme). lexemes.Integer (Fits
        (pos (8 * b.offset))) ∷ xs)
        (e4 ∙ ap (λ (xs : List Lexeme). lexemes.Comma ∷ xs)
        (e5 ∙ ap (λ (k : Number). lexemes.Integer k ∷ r5) (decimal_read (8 * b.length) few.1))))))),
    more,
  )

  fragment_reads : (n : ℕ) (ps : List Piece) → Ends (spelled ps) → AllRead ps → AllRead (fragment_pieces n b ++ ps)
  fragment_reads n ps ends all = (
    word_read 68 (codes "W_OP_LLVM_fragment") _ refl refl refl refl,
    (comma_read _, (decimal_token (8 * b.offset) _ few.0 refl, (comma_read _, (decimal_token (8 * b.length) (spelled ps) few.1 ends, all)))),
  )

  fragment_narrow : (n : ℕ) (ps : List Piece) → AllNarrow ps → AllNarrow (fragment_pieces n b ++ ps)
  fragment_narrow n ps all = (
    (λ t. refl),
    (
      (λ t. refl),
      (
        (λ t. ap (λ (k : Number). is_wide (lexemes.Integer k)) (decimal_read (8 * b.offset) few.0)),
        ((λ t. refl), ((λ t. ap (λ (k : Number). is_wide (lexemes.Integer k)) (decimal_read (8 * b.length) few.1)), all)),
      ),
    ),
  )

  fragment_uncut : (mark : List ℕ) → IsMark mark → (n : ℕ) (ps : List Piece) → AllPass mark ps → AllPass mark (fragment_pieces n b ++ ps)
  fragment_uncut mark m n ps all =
      let first = few.0 in
      let second = few.1 in (
        safe_passes mark m (codes "DW_OP_LLVM_fragment") _ refl,
        (
          safe_passes mark m (44 ∷ []) _ refl,
          (
            safe_passes mark m (decimal (8 * b.offset)) _ (decimal_safe (8 * b.offset) (omega (arith, first))),
            (
              safe_passes mark m (44 ∷ []) _ refl,
              (
                safe_passes mark m (decimal (8 * b.length)) (spelled ps) (decimal_safe (8 * b.length) (omega
                    (arith, second))),
                all,
              ),
            ),
          ),
        ),
      )

  fragment_inside : Inside (fragment_pieces 0 b) (fragment_text b) (expression.Part b)
  unfolding behind_bracket expression_of
  fragment_inside = record {
    spells = λ ps. simp append_assoc;
    reads = fragment_reads 0;
    narrow = fragment_narrow 0;
    uncut = λ mark m ps all. fragment_uncut mark m 0 ps all;
    parses = λ line ps ls lexed.
        let f = fragment_lexed 0 line (close_bracket ∷ ps) ls lexed in
        let whole_is : ls ≡ fragment_lexemes f.0 b (lexemes.Close ∷ f.3.1) = f.2 ∙ ap (fragment_lexemes f.0 b) f.3.3 in (
          f.3.1,
          ap (behind_bracket 0) whole_is,
          ap expression_of whole_is ∙ ap plain_part (part_read b is),
          f.3.4,
        );
  }

-- behind the argument
abbrev argument_pieces : List Piece
argument_pieces = piece 0 class.Word (codes "DW_OP_LLVM_arg") ∷ comma ∷ piece 1 class.Integer (48 ∷ []) ∷ []

zero_token : (rest : List ℕ) → Ends rest → Reads class.Integer (48 ∷ []) rest
zero_token rest ends = subst (λ (t : List ℕ). Reads class.Integer t rest) (decimal_digit 0 (omega arith)) (decimal_token 0 rest (omega arith) ends)

argument_reads : (ps : List Piece) → Ends (spelled ps) → AllRead ps → AllRead (argument_pieces ++ ps)
argument_reads ps ends all = (word_read 68 (codes "W_OP_LLVM_arg") _ refl refl refl refl, (comma_read _, (zero_token (spelled ps) ends, all)))

argument_narrow : (ps : List Piece) → AllNarrow ps → AllNarrow (argument_pieces ++ ps)
argument_narrow ps all = ((λ t. refl), ((λ t. refl), ((λ t. ap (λ (k : Number). is_wide (lexemes.Integer k)) zero_is), all)))

argument_uncut : (mark : List ℕ) → IsMark mark → (ps : List Piece) → AllPass mark ps → AllPass mark (argument_pieces ++ ps)
argument_uncut mark m ps all =
    (safe_passes mark m (codes "DW_OP_LLVM_arg") _ refl, (safe_passes mark m (44 ∷ []) _ refl, (safe_passes mark m (48 ∷ []) (spelled ps) refl, all)))

argument_lexed : (line : List ℕ) (ps : List Piece) (ls : List Lexeme) → Lexed line (argument_pieces ++ ps) ls →
    (t : Token) × (rest : List Lexeme) × (ls ≡ lexemes.Word words.Argument t ∷ lexemes.Comma ∷ lexemes.Integer (Fits (pos 0)) ∷ rest) × Lexed line ps rest
argument_lexed line ps ls (t, r, x, e, (t2, r2, x2, e2, (t3, r3, x3, e3, more))) = (
  t,
  r3,
  e ∙ (ap (λ (w : Word). lexemes.Word w t ∷ r) argument_is ∙ ap (λ (xs : List Lexeme). lexemes.Word words.Argument t ∷ xs)
      (e2 ∙ ap (λ (xs : List Lexeme). lexemes.Comma ∷ xs) (e3 ∙ ap (λ (k : Number). lexemes.Integer k ∷ r3) zero_is))),
  more,
)

argument_inside : Inside argument_pieces (codes "DW_OP_LLVM_arg, 0") expression.Argument
unfolding behind_bracket expression_of
argument_inside = record {
  spells = λ ps. refl;
  reads = argument_reads;
  narrow = argument_narrow;
  uncut = argument_uncut;
  parses = λ line ps ls lexed.
      let f = argument_lexed line (close_bracket ∷ ps) ls lexed in
      let whole_is : ls ≡ lexemes.Word words.Argument f.0 ∷ lexemes.Comma ∷ lexemes.Integer (Fits (pos 0)) ∷ lexemes.Close ∷ f.3.1 =
      f.2 ∙ ap (λ (xs : List Lexeme). lexemes.Word words.Argument f.0 ∷ lexemes.Comma ∷ lexemes.Integer (Fits (pos 0)) ∷ xs) f.3.3 in
      (f.3.1, ap (behind_bracket 0) whole_is, ap expression_of whole_is, f.3.4);
}

module _ (b : Bytes) (is : IsPart b) where
  part_of_argument_inside : Inside (argument_pieces ++ (comma ∷ fragment_pieces 1 b)) (codes "DW_OP_LLVM_arg, 0, " ++ fragment_text b)
      (expression.PartOfArgument b)
  unfolding behind_bracket expression_of
  part_of_argument_inside = record {
    spells = λ ps. simp append_assoc;
    reads = λ ps ends all. argument_reads (comma ∷ (fragment_pieces 1 b ++ ps)) refl (comma_read _, fragment_reads b is 1 ps ends all);
    narrow = λ ps all. argument_narrow (comma ∷ (fragment_pieces 1 b ++ ps)) ((λ t. refl), fragment_narrow b is 1 ps all);
    uncut = λ mark m ps all. argument_uncut mark m (comma ∷ (fragment_pieces 1 b ++ ps)) (
      safe_passes mark m
          (44 ∷ []) _ refl,
      fragment_uncut b is mark m 1 ps all,
    );
    parses = λ line ps ls lexed.
        let f = argument_lexed line (comma ∷ (fragment_pieces 1 b ++ (close_bracket ∷ ps))) ls lexed in
        let g = fragment_lexed b is 1 line (close_bracket ∷ ps) f.3.1 f.3.4 in
        let whole_is : ls ≡ lexemes.Word words.Argument f.0 ∷ lexemes.Comma ∷ lexemes.Integer (Fits (pos 0)) ∷ lexemes.Comma
        ∷ fragment_lexemes g.0 b (lexemes.Close ∷ g.3.1) =
        f.2 ∙ ap (λ (xs : List Lexeme). lexemes.Word words.Argument f.0 ∷ lexemes.Comma ∷ lexemes.Integer (Fits (pos 0)) ∷ xs)
        (f.3.3 ∙ ap (λ (xs : List Lexeme). lexemes.Comma ∷ xs) (g.2 ∙ ap (fragment_lexemes g.0 b) g.3.3)) in
        (g.3.1, ap (behind_bracket 0) whole_is, ap expression_of whole_is ∙ ap argument_part (part_read b is), g.3.4);
  }

-- ---- expressions

expression_at_is : (line : List ℕ) (ls rest : List Lexeme) (e : Expression) → behind_bracket 0 ls ≡ Some rest → expression_of ls ≡ e →
    operand_at false line (lexemes.Expression ∷ lexemes.Open ∷ ls) ≡ Some (form.Expression e, rest)
unfolding operand_at
expression_at_is line ls rest e behind is =
    ap (λ (o : Option (List Lexeme)). o >>= λ (r : List Lexeme). Some (form.Expression (expression_of ls), r)) behind
    ∙ ap (λ (x : Expression). Some (form.Expression x, rest)) is

module _ (pieces : List Piece) (text : List ℕ) (e : Expression) (inner : Inside pieces text e) where
  abbrev whole_pieces : ℕ → List Piece
  whole_pieces n = piece n class.Kind (codes "!DIExpression") ∷ open_bracket ∷ (pieces ++ (close_bracket ∷ []))

  regrouped : (P : List Piece → Type 0) (ps : List Piece) → P (pieces ++ (close_bracket ∷ ps)) → P ((pieces ++ (close_bracket ∷ [])) ++ ps)
  regrouped P ps is = subst P (sym (append_assoc pieces (close_bracket ∷ []) ps)) is

  expression_parsed : (line : List ℕ) (ps : List Piece) (ls : List Lexeme) →
      (t : Token) × (r : List Lexeme) × (text_of line t ≡ codes "!DIExpression") × (ls ≡ kind_of (codes "!DIExpression") ∷ r)
      × ((u : Token) × (s : List Lexeme) × (text_of line u ≡ 40 ∷ []) × (r ≡ lexemes.Open ∷ s) × Lexed line ((pieces ++ (close_bracket ∷ [])) ++ ps) s) →
      Parsed line ps ls (form.Expression e)
  expression_parsed line ps ls (t, r, x, k, (u, s, y, o, more)) =
      let read = inner.parses line ps s (subst (λ (qs : List Piece). Lexed line qs s) (append_assoc pieces (close_bracket ∷ []) ps) more) in
      subst (λ (xs : List Lexeme). Parsed line ps xs (form.Expression e))
      (sym (k ∙ (ap (λ (l : Lexeme). l ∷ r) expression_is ∙ ap (λ (xs : List Lexeme). lexemes.Expression ∷ xs) o)))
      (record { rest = read.0; is = expression_at_is line s read.0 e read.1 read.2; lexed = read.3; operand = refl; attribute = refl })

  expression_phrase : Phrase
  expression_phrase = record {
    text = codes "!DIExpression(" ++ text ++ codes ")";
    form = form.Expression e;
    pieces = whole_pieces;
    spells = λ n ps. ap (λ (t : List ℕ). replicate n 32 ++ (codes "!DIExpression(" ++ t))
        (ap spelled (append_assoc pieces (close_bracket ∷ []) ps) ∙ (inner.spells (close_bracket ∷ ps) ∙ sym (append_assoc text (41 ∷ []) (spelled ps))));
    reads = λ n ps ends all. (
      kind_read 68 (codes "IExpression") _ refl refl refl refl,
      (open_read _, regrouped AllRead ps (inner.reads (close_bracket ∷ ps) refl (close_read (spelled ps), all))),
    );
    parses = λ line n ps ls plain is. expression_parsed line ps ls is;
    some = λ n. omega arith;
    narrow = λ n ps all. (
      (λ t. ap is_wide expression_is),
      ((λ t. refl), regrouped AllNarrow ps (inner.narrow (close_bracket ∷ ps) ((λ t. refl), all))),
    );
    uncut = λ mark m n ps all. (
      safe_passes mark m (codes "!DIExpression") _ refl,
      (
        safe_passes mark m (40 ∷ []) _ refl,
        regrouped (AllPass mark) ps (inner.uncut mark m (close_bracket ∷ ps) (
          safe_passes mark m (41 ∷ [])
              (spelled ps) refl,
          all,
        )),
      ),
    );
    within = refl;
  }

abbrev pub MayBePart : Option Bytes → Type 0
MayBePart None = Unit {0}
MayBePart (Some b) = IsPart b

pub plain_phrase : (fragment : Option Bytes) → MayBePart fragment → PhraseOf (expression_text fragment) (form.Expression (plain_expression fragment))
unfolding expression_phrase
plain_phrase None is = record { phrase = expression_phrase [] [] expression.Empty nothing_inside; text_is = refl; form_is = refl }
plain_phrase (Some b) is = record {
  phrase = expression_phrase (fragment_pieces 0 b) (fragment_text b) (expression.Part b) (fragment_inside b is);
  text_is = refl;
  form_is = refl;
}

pub argument_phrase : (fragment : Option Bytes) → MayBePart fragment → PhraseOf (pair_expression_text fragment) (form.Expression (argument_expression fragment))
unfolding expression_phrase
argument_phrase None is = record {
  phrase = expression_phrase argument_pieces (codes "DW_OP_LLVM_arg, 0") expression.Argument argument_inside;
  text_is = refl;
  form_is = refl;
}
argument_phrase (Some b) is = record {
  phrase = expression_phrase (argument_pieces ++ (comma ∷ fragment_pieces 1 b)) (codes "DW_OP_LLVM_arg, 0, " ++ fragment_text b) (expression.PartOfArgument b)
      (part_of_argument_inside b is);
  text_is = refl;
  form_is = refl;
}

-- ---- references

module _ (q : OperandPair) (number_small : q.number ≤ MAX_NUMBER) (operand_small : q.operand ≤ MAX_NUMBER) where
  abbrev reference_pieces : ℕ → List Piece
  reference_pieces n = piece n class.Word (codes "dbg-instr-ref") ∷ open_bracket ∷ number 0 q.number ∷ comma ∷ number 1 q.operand ∷ close_bracket ∷ []

  reference_at_is : (line : List ℕ) (t : Token) (rest : List Lexeme) →
      operand_at false line (lexemes.Word words.InstrRef t ∷ lexemes.Open ∷ lexemes.Integer (Fits (pos q.number)) ∷ lexemes.Comma ∷ lexemes.Integer (Fits
      (pos q.operand)) ∷ lexemes.Close ∷ rest) ≡ Some (form.Reference q, rest)
  unfolding operand_at word_operand_at
  reference_at_is line t rest =
      λ i. Some (form.Reference (record { number = capped_is q.number number_small i; operand = capped_is q.operand operand_small i }), rest)

  reference_parsed : (line : List ℕ) (n : ℕ) (ps : List Piece) (ls : List Lexeme) → Lexed line (reference_pieces n ++ ps) ls →
      Parsed line ps ls (form.Reference q)
  reference_parsed line n ps ls (t, r, x, e, (t2, r2, x2, e2, (t3, r3, x3, e3, (t4, r4, x4, e4, (t5, r5, x5, e5, (t6, r6, x6, e6, more)))))) =
      subst (λ (xs : List Lexeme). Parsed line ps xs (form.Reference q))
      (sym (e ∙ (ap (λ (w : Word). lexemes.Word w t ∷ r) reference_is ∙ ap (λ (xs : List Lexeme). lexemes.Word words.InstrRef t ∷ xs)
      (e2 ∙ ap (λ (xs : List Lexeme). lexemes.Open ∷ xs)
      (e3 ∙ (ap (λ (k : Number). lexemes.Integer k ∷ r3) (decimal_read q.number (omega (arith, number_small))) ∙ ap (λ (xs : List Lexeme). lexemes.Integer (Fits
      (pos q.number)) ∷ xs)
      (e4 ∙ ap (λ (xs : List Lexeme). lexemes.Comma ∷ xs)
      (e5 ∙ (ap (λ (k : Number). lexemes.Integer k ∷ r5) (decimal_read q.operand (omega (arith, operand_small))) ∙ ap (λ (xs : List Lexeme). lexemes.Integer
      (Fits
      (pos q.operand)) ∷ xs) e6)))))))))
      (record { rest = r6; is = reference_at_is line t r6; lexed = more; operand = refl; attribute = refl })

  pub reference_phrase : PhraseOf (codes "dbg-instr-ref(" ++ decimal q.number ++ codes ", " ++ decimal q.operand ++ codes ")") (form.Reference q)
  reference_phrase = record {
    phrase = record {
      text = codes "dbg-instr-ref(" ++ decimal q.number ++ codes ", " ++ decimal q.operand ++ codes ")";
      form = form.Reference q;
      pieces = reference_pieces;
      spells = λ n ps. ap (λ (t : List ℕ). replicate n 32 ++ t) (spells_text (spelled ps));
      reads = λ n ps ends all. (
        word_read 100 (codes "bg-instr-ref") _ refl refl refl refl,
        (
          open_read _,
          (
            decimal_token q.number _ (omega (arith, number_small)) refl,
            (comma_read _, (decimal_token q.operand _ (omega (arith, operand_small)) refl, (close_read (spelled ps), all))),
          ),
        ),
      );
      parses = λ line n ps ls plain is. reference_parsed line n ps ls is;
      some = λ n. omega arith;
      narrow = λ n ps all. (
        (λ t. refl),
        (
          (λ t. refl),
          (
            (λ t. ap (λ (k : Number). is_wide (lexemes.Integer k)) (decimal_read q.number (omega (arith, number_small)))),
            (
              (λ t. refl),
              (
                (λ t. ap (λ (k : Number). is_wide (lexemes.Integer k)) (decimal_read q.operand (omega (arith, operand_small)))),
                ((λ t. refl), all),
              ),
            ),
          ),
        ),
      );
      uncut = λ mark m n ps all. (
        safe_passes mark m (codes "dbg-instr-ref") _ refl,
        (
          safe_passes mark m (40 ∷ []) _ refl,
          (
            safe_passes mark m (decimal q.number) _ (decimal_safe q.number (omega (arith, number_small))),
            (
              safe_passes mark m (44 ∷ []) _ refl,
              (
                safe_passes mark m (decimal q.operand) _ (decimal_safe q.operand (omega (arith, operand_small))),
                (safe_passes mark m (41 ∷ []) (spelled ps) refl, all),
              ),
            ),
          ),
        ),
      );
      within = (λ i. within_number q.number number_small i || within_number q.operand operand_small i);
    };
    text_is = refl;
    form_is = refl;
  } where
    spells_text : (rest : List ℕ) → codes "dbg-instr-ref(" ++ (decimal q.number ++ (codes ", " ++ (decimal q.operand ++ (codes ")" ++ rest)))) ≡
        (codes "dbg-instr-ref(" ++ decimal q.number ++ codes ", " ++ decimal q.operand ++ codes ")") ++ rest
    spells_text rest = simp append_assoc
