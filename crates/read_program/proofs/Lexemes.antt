-- The numbers of lexemes: a physical register is one of x0 to x31, and an integer that fits has 64 bits.
use Rattle.std.proofs.Common.{◌≡◌, ℕ, pos, negsuc, zero, suc, ◌+◌, ◌-◌, ◌*◌, ◌^◌, ◌<◌, Bool, true, false, cond, ◌&&◌, eqb, ltb, leb, List, [], ◌∷◌}
use Rattle.std.proofs.Common.{Option, Some, None}
use Rattle.std.proofs.Common.{refl, sym, subst, arith}
use Rattle.std.specs.Prelude.{codes}
use Rattle.std.specs.Char.{is_ascii_digit}
use Rattle.std.specs.Str.{bytes_eq}
use Rattle.std.proofs.lemmas.Bool.{and_parts, ltb-true, leb-true}
use Rattle.rv64_instr.specs.Form.{IsSigned}
use Rattle.read_lexer.specs.declared.parts.Class.{Class}
use Rattle.read_lexer.specs.declared.parts.Class.TheVariants as classes
use Rattle.read_lexer.specs.declared.parts.Token.{Token}
use Rattle.read_metadata.specs.Token.{text_of}
use Rattle.read_token.specs.declared.lexeme.Lexeme.{Lexeme}
use Rattle.read_token.specs.declared.lexeme.Lexeme.TheVariants as lexemes
use Rattle.read_token.specs.declared.lexeme.Number.{Number}
use Rattle.read_token.specs.declared.lexeme.Number.TheVariants.{Fits, Large, Wide}
use Rattle.read_token.specs.declared.lexeme.RegisterName.{RegisterName}
use Rattle.read_token.specs.declared.lexeme.RegisterName.TheVariants.{Physical, Absent, Other, Virtual}
use Rattle.read_token.specs.Number.{narrow_value, is_number, unsigned, negated, sized, unsigned_of, number_of}
use Rattle.read_token.specs.Word.{case_of, named_number}
use Rattle.read_token.specs.Register.{two_digits, physical_of, register_of, virtual_of, slot_of, block_operand_of, fixed_of, constant_of, behind_stack}
use Rattle.read_token.specs.Register.{behind_bb, behind_fixed, behind_const, numbered_of, percent_behind, percent_of}
use Rattle.read_token.specs.Sentence.{kind_of, single_of, lexeme_by, lexeme_of, lexemes_of}

abbrev pub NameFits : RegisterName → Type 0
NameFits (Physical r) = r < 32
NameFits Absent = Unit {0}
NameFits Other = Unit {0}
NameFits (Virtual n) = Unit {0}

abbrev pub NumberFits : Number → Type 0
NumberFits (Fits i) = IsSigned i
NumberFits Large = Unit {0}
NumberFits Wide = Unit {0}

abbrev pub LexemeFits : Lexeme → Type 0
LexemeFits (lexemes.Register name) = NameFits name
LexemeFits (lexemes.Integer n) = NumberFits n
LexemeFits t = Unit {0}

abbrev pub AllFit : List Lexeme → Type 0
AllFit [] = Unit {0}
AllFit (t ∷ ts) = LexemeFits t × AllFit ts

-- one of two, and one of some
one_fits : (b : Bool) (x y : Lexeme) → LexemeFits x → LexemeFits y → LexemeFits (cond b x y)
one_fits true x y p q = p
one_fits false x y p q = q

case_fits : (o : Option (List ℕ)) (f : List ℕ → Lexeme) (x : Lexeme) → ((a : List ℕ) → LexemeFits (f a)) → LexemeFits x → LexemeFits (case_of o f x)
case_fits None f x each other = other
case_fits (Some a) f x each other = each a

number_case_fits : (o : Option ℕ) (f : ℕ → Lexeme) (x : Lexeme) → ((a : ℕ) → LexemeFits (f a)) → LexemeFits x → LexemeFits (case_of o f x)
number_case_fits None f x each other = other
number_case_fits (Some a) f x each other = each a

-- ---- registers

digits_fit : (b : Bool) (c d n : ℕ) → b ≡ ltb (10 * (c - 48) + (d - 48)) 32 → cond b (Some (10 * (c - 48) + (d - 48))) None ≡ Some n → n < 32
digits_fit true c d n is e = let same : 10 * (c - 48) + (d - 48) ≡ n = cc in subst (λ (x : ℕ). x < 32) same (ltb-true (10 * (c - 48) + (d - 48)) 32 (sym is))
digits_fit false c d n is e = absurd cc

two_fit : (c d n : ℕ) (a b : Bool) → b ≡ ltb (10 * (c - 48) + (d - 48)) 32 → cond (a && b) (Some (10 * (c - 48) + (d - 48))) None ≡ Some n → n < 32
two_fit c d n true b is e = digits_fit b c d n is e
two_fit c d n false b is e = absurd cc

one_fit : (d n : ℕ) (a b : Bool) → is_ascii_digit d ≡ b → cond (a && b) (Some (d - 48)) None ≡ Some n → n < 32
one_fit d n true true is e =
    let same : d - 48 ≡ n = cc in
    let parts = and_parts (leb 48 d) (leb d 57) is in
    omega (arith, leb-true d 57 parts.1, same)
one_fit d n true false is e = absurd cc
one_fit d n false b is e = absurd cc

named_two : (c d n : ℕ) (b : Bool) → cond b (two_digits c d) None ≡ Some n → n < 32
named_two c d n true e = two_fit c d n _ _ refl e
named_two c d n false e = absurd cc

physical_fits : (text : List ℕ) (n : ℕ) → physical_of text ≡ Some n → n < 32
physical_fits [] n e = absurd cc
physical_fits (a ∷ []) n e = absurd cc
physical_fits (a ∷ b ∷ []) n e = absurd cc
physical_fits (a ∷ b ∷ d ∷ []) n e = one_fit d n (eqb a 36 && eqb b 120) (is_ascii_digit d) refl e
physical_fits (a ∷ b ∷ c ∷ d ∷ []) n e = named_two c d n (eqb a 36 && eqb b 120) e
physical_fits (a ∷ b ∷ c ∷ d ∷ f ∷ rest) n e = absurd cc

register_fits_by : (o : Option ℕ) (b : Bool) → ((n : ℕ) → o ≡ Some n → n < 32) → NameFits (case_of o Physical (cond b Absent Other))
register_fits_by (Some n) b each = each n refl
register_fits_by None true each = tt
register_fits_by None false each = tt

register_fits : (text : List ℕ) → NameFits (register_of text)
unfolding register_of
register_fits text = register_fits_by (physical_of text) (bytes_eq text (codes "$noreg")) (physical_fits text)

percent_behind_fits : (text : List ℕ) → LexemeFits (percent_behind text)
unfolding percent_behind
percent_behind_fits text = case_fits (behind_stack text) slot_of (case_of (behind_bb text) block_operand_of (numbered_of text))
    (λ t. number_case_fits (named_number t) lexemes.Slot lexemes.Other (λ n. tt) tt)
    (case_fits (behind_bb text) block_operand_of (numbered_of text) (λ t. number_case_fits (named_number t) lexemes.Block lexemes.Other (λ n. tt) tt)
    (case_fits (behind_fixed text) fixed_of (case_of (behind_const text) constant_of (virtual_of text)) (λ t. one_fits (is_number t) _ lexemes.Other tt tt)
    (case_fits (behind_const text) constant_of (virtual_of text) (λ t. one_fits (is_number t) _ lexemes.Other tt tt)
    (one_fits (is_number text) _ lexemes.Other tt tt))))

percent_fits : (text : List ℕ) → LexemeFits (percent_of text)
percent_fits [] = tt
percent_fits (b ∷ bs) = percent_behind_fits bs

-- ---- integers

chosen_fits : (b : Bool) (x y : Number) → (b ≡ true → NumberFits x) → (b ≡ false → NumberFits y) → NumberFits (cond b x y)
chosen_fits true x y p q = p refl
chosen_fits false x y p q = q refl

unsigned_fits : (n : ℕ) → NumberFits (unsigned n)
unsigned_fits n = chosen_fits (ltb n (2 ^ 63)) (Fits (pos n)) Large (λ e. ltb-true n (2 ^ 63) e) (λ e. tt)

negated_fits : (n : ℕ) → NumberFits (negated n)
negated_fits zero = omega arith
negated_fits (suc n) = chosen_fits (ltb n (2 ^ 63)) (Fits (negsuc n)) Large (λ e. ltb-true n (2 ^ 63) e) (λ e. tt)

sized_fits : (read : ℕ → Number) (o : Option ℕ) → ((n : ℕ) → NumberFits (read n)) → NumberFits (sized read o)
sized_fits read None each = tt
sized_fits read (Some n) each = each n

digits_behind_fit : (a : ℕ) (bs : List ℕ) → NumberFits (unsigned_of a bs)
digits_behind_fit a [] = sized_fits unsigned (narrow_value 10 (a ∷ [])) unsigned_fits
digits_behind_fit a (b ∷ bs) = chosen_fits (eqb a 48 && eqb b 120) (sized unsigned (narrow_value 16 bs)) (sized unsigned (narrow_value 10 (a ∷ b ∷ bs)))
    (λ e. sized_fits unsigned (narrow_value 16 bs) unsigned_fits) (λ e. sized_fits unsigned (narrow_value 10 (a ∷ b ∷ bs)) unsigned_fits)

number_fits : (text : List ℕ) → NumberFits (number_of text)
number_fits [] = sized_fits unsigned (narrow_value 10 []) unsigned_fits
number_fits (a ∷ bs) = chosen_fits (eqb a 45) (sized negated (narrow_value 10 bs)) (unsigned_of a bs)
    (λ e. sized_fits negated (narrow_value 10 bs) negated_fits) (λ e. digits_behind_fit a bs)

-- ---- tokens

kind_fits : (text : List ℕ) → LexemeFits (kind_of text)
unfolding kind_of
kind_fits text = one_fits (bytes_eq text (codes "!DIExpression")) lexemes.Expression _ tt
    (one_fits (bytes_eq text (codes "!DILocation")) lexemes.InlineLocation lexemes.Other tt tt)

single_fits : (byte : ℕ) → LexemeFits (single_of byte)
single_fits byte = one_fits (eqb byte 44) lexemes.Comma _ tt (one_fits (eqb byte 61) lexemes.Equals _ tt
    (one_fits (eqb byte 40) lexemes.Open _ tt (one_fits (eqb byte 41) lexemes.Close _ tt (one_fits (eqb byte 58) lexemes.Colon _ tt
    (one_fits (eqb byte 43) lexemes.Plus _ tt (one_fits (eqb byte 45) lexemes.Minus lexemes.Other tt tt))))))

lexeme_by_fits : (class : Class) (t : Token) (text : List ℕ) → LexemeFits (lexeme_by class t text)
lexeme_by_fits classes.Word t text = tt
lexeme_by_fits classes.Register t text = register_fits text
lexeme_by_fits classes.Percent t text = percent_fits text
lexeme_by_fits classes.Node t text = tt
lexeme_by_fits classes.Kind t text = kind_fits text
lexeme_by_fits classes.Symbol t text = tt
lexeme_by_fits classes.Integer t text = number_fits text
lexeme_by_fits classes.Float t text = tt
lexeme_by_fits classes.Text t text = tt
lexeme_by_fits (classes.Single byte) t text = single_fits byte

lexeme_fits : (line : List ℕ) (t : Token) → LexemeFits (lexeme_of line t)
unfolding lexeme_of
lexeme_fits line t = lexeme_by_fits t.class t (text_of line t)

-- the lexemes of a line
pub lexemes_fit : (line : List ℕ) (ts : List Token) → AllFit (lexemes_of line ts)
lexemes_fit line [] = tt
lexemes_fit line (t ∷ ts) = (lexeme_fits line t, lexemes_fit line ts)
