-- The numbers of a line's form are those of its lexemes.
use Rattle.std.proofs.Common.{◌≡◌, ◌⊎◌, ℕ, ℤ, zero, suc, ◌+◌, Bool, true, false, cond, ◌&&◌, ltb, leb, List, [], ◌∷◌, length, Option, Some, None}
use Rattle.std.proofs.Common.{Result, Ok, Err, refl, subst, inl, inr}
use Rattle.std.proofs.lemmas.Bool.{and_parts, leb-true}
use Rattle.rv64_instr.specs.declared.symbol.Symbol.{Symbol as Linked}
use Rattle.rv64_instr.specs.declared.symbol.Symbol.TheVariants.{Global, Constant as PoolConstant}
use Rattle.rv64_instr.specs.declared.symbol.Half.{Half}
use Rattle.rv64_instr.specs.Form.{IsSigned}
use Rattle.mir_func.specs.Parts.{Bytes, IsPart}
use Rattle.read_lexer.specs.declared.fault.LexError.{LexError}
use Rattle.read_lexer.specs.declared.fault.LexError.TheVariants as lex
use Rattle.read_lexer.specs.declared.parts.Token.{Token}
use Rattle.read_lexer.specs.Line.{tokens_of}
use Rattle.read_token.specs.declared.lexeme.Flag.{Flag}
use Rattle.read_token.specs.declared.lexeme.Flag.TheVariants.{Plain}
use Rattle.read_token.specs.declared.lexeme.Lexeme.{Lexeme}
use Rattle.read_token.specs.declared.lexeme.Lexeme.TheVariants as lexemes
use Rattle.read_token.specs.declared.lexeme.Number.{Number}
use Rattle.read_token.specs.declared.lexeme.Number.TheVariants.{Fits}
use Rattle.read_token.specs.declared.lexeme.RegisterName.{RegisterName}
use Rattle.read_token.specs.declared.lexeme.RegisterName.TheVariants.{Virtual}
use Rattle.read_token.specs.declared.lexeme.Word.{Word}
use Rattle.read_token.specs.declared.lexeme.Word.TheVariants as words
use Rattle.read_token.specs.Sentence.{lexemes_of, symbol_name}
use Rattle.read_token.specs.Word.{case_of}
use Rattle.read_line.specs.declared.form.BodyLine.{BodyLine}
use Rattle.read_line.specs.declared.form.BodyLine.TheVariants.{Passed, Closed, Label, Item}
use Rattle.read_line.specs.declared.form.Expression.{Expression}
use Rattle.read_line.specs.declared.form.Expression.TheVariants as expressions
use Rattle.read_line.specs.declared.form.ItemForm.{ItemForm}
use Rattle.read_line.specs.declared.form.FormError.{FormError}
use Rattle.read_line.specs.declared.form.FormError.TheVariants.{BadLine}
use Rattle.read_line.specs.declared.form.OperandForm.{OperandForm}
use Rattle.read_line.specs.declared.form.OperandForm.TheVariants as operands
use Rattle.read_line.specs.declared.form.RegisterForm.{RegisterForm}
use Rattle.read_line.specs.Address.{addend_at, addend_or_zero, address_form, address_behind, address_at, half_of}
use Rattle.read_line.specs.Body.{closes_block, listing_of, is_listing, code_of, label_of, is_colon, labelled, as_item, sentence_of, line_of_tokens}
use Rattle.read_line.specs.Body.{is_volatile, volatile_read, body_line_of}
use Rattle.read_line.specs.Bracket.{inner_behind, behind_bracket}
use Rattle.read_line.specs.Exceeds.{item_exceeds}
use Rattle.read_line.specs.Item.{before, with_equals, definitions_at, definitions_of, is_lower, behind_words, opcode_at, behind_operand, operands_at}
use Rattle.read_line.specs.Item.{begins_operand, says_no_return}
use Rattle.read_line.specs.Item.{operands_of, attributes_of_item, item_with, defined_item, item_of}
use Rattle.read_line.specs.Operand.{fitting, whole_bytes, are_part, part_of, plain_part, argument_part, argument_expression, expression_of}
use Rattle.read_line.specs.Operand.{expression_at, symbol_at, symbol_by, literal_at, typed_at, fixed_at}
use Rattle.read_line.specs.Operand.{is_zero, flagged_symbol_at, reference_at, mask_at, register_operand_at, word_operand_at, operand_at}
use Rattle.read_line.specs.Read.{◌>>=◌, behind_comma, behind_equals}
use Rattle.read_line.specs.Register.{joined, behind_class, behind_tied, named_at, register_at, begins_register}
use Rattle.read_line.specs.Attribute.{begins_attribute}
use Rattle.read_metadata.specs.Token.{text_of}
use Rattle.read_program.proofs.Lexemes.{NameFits, NumberFits, AllFit, lexemes_fit}
use Rattle.read_program.proofs.Addends.{AddendFits, addend_fits}

-- ---- forms

abbrev pub ExpressionFits : Expression → Type 0
ExpressionFits (expressions.Part f) = IsPart f
ExpressionFits (expressions.PartOfArgument f) = IsPart f
ExpressionFits e = Unit {0}

abbrev pub IntegerFits : Option ℤ → Type 0
IntegerFits None = Unit {0}
IntegerFits (Some i) = IsSigned i

-- halves of addresses are of the linked language
abbrev pub FormFits : (linked : Bool) → OperandForm → Type 0
FormFits linked (operands.Register r) = NameFits r.name
FormFits linked (operands.Integer i) = IntegerFits i
FormFits linked (operands.Expression e) = ExpressionFits e
FormFits linked (operands.Part half a) = (linked ≡ true) × AddendFits a.addend
FormFits linked (operands.Fixed n) = linked ≡ true
FormFits linked o = Unit {0}

-- R holds of each
abbrev pub AllOf : {X : Type 0} → (X → Type 0) → List X → Type 0
AllOf R [] = Unit {0}
AllOf R (x ∷ xs) = R x × AllOf R xs

abbrev pub RegisterFits : RegisterForm → Type 0
RegisterFits r = NameFits r.name

-- ---- reading from left to right

pub bind_some : {A B : Type 0} (o : Option A) (f : A → Option B) (y : B) → (o >>= f) ≡ Some y → (x : A) × (o ≡ Some x) × (f x ≡ Some y)
bind_some None f y e = absurd cc
bind_some (Some x) f y e = (x, refl, e)

pub case_some : {A B : Type 0} (o : Option A) (f : A → Option B) (other : Option B) (y : B) → case_of o f other ≡ Some y →
    ((x : A) × (o ≡ Some x) × (f x ≡ Some y)) ⊎ (other ≡ Some y)
case_some None f other y e = inr e
case_some (Some x) f other y e = inl (x, refl, e)

pub if_some : {A : Type 0} (b : Bool) (x y : Option A) (z : A) → cond b x y ≡ Some z → ((b ≡ true) × (x ≡ Some z)) ⊎ ((b ≡ false) × (y ≡ Some z))
if_some true x y z e = inl (refl, e)
if_some false x y z e = inr (refl, e)

comma_fits : (ts rest : List Lexeme) → behind_comma ts ≡ Some rest → AllFit ts → AllFit rest
comma_fits [] rest e fit = absurd cc
comma_fits (lexemes.Comma ∷ ts) rest e fit = let same : ts ≡ rest = cc in subst AllFit same fit.1
comma_fits (t ∷ ts) rest e fit = absurd cc

equals_fits : (ts rest : List Lexeme) → behind_equals ts ≡ Some rest → AllFit ts → AllFit rest
equals_fits [] rest e fit = absurd cc
equals_fits (lexemes.Equals ∷ ts) rest e fit = let same : ts ≡ rest = cc in subst AllFit same fit.1
equals_fits (t ∷ ts) rest e fit = absurd cc

bracket_fits : (inner : ℕ) (ts rest : List Lexeme) → behind_bracket inner ts ≡ Some rest → AllFit ts → AllFit rest
unfolding behind_bracket
bracket_fits inner [] rest e fit = absurd cc
bracket_fits inner (t ∷ ts) rest e fit = elim (case_some (inner_behind inner t) (λ more. behind_bracket more ts) (Some ts) rest e) [
  | inl more ↦ bracket_fits more.0 ts rest more.2 fit.1
  | inr all ↦ (let same : ts ≡ rest = cc in subst AllFit same fit.1)
]

-- ---- registers

class_fits : (name : RegisterName) (ts rest : List Lexeme) → behind_class name ts ≡ Some rest → AllFit ts → AllFit rest
class_fits (Virtual n) (lexemes.Colon ∷ lexemes.Word w t ∷ ts) rest e fit = let same : ts ≡ rest = cc in subst AllFit same fit.1.1
class_fits (Virtual n) (lexemes.Colon ∷ ts) rest e fit = absurd cc
class_fits name ts rest e fit = let same : ts ≡ rest = cc in subst AllFit same fit

tied_fits : (ts rest : List Lexeme) → behind_tied ts ≡ Some rest → AllFit ts → AllFit rest
tied_fits (lexemes.Open ∷ lexemes.Word words.TiedDef t ∷ lexemes.Integer n ∷ lexemes.Close ∷ ts) rest e fit =
    let same : ts ≡ rest = cc in subst AllFit same fit.1.1.1.1
tied_fits (lexemes.Open ∷ ts) rest e fit = absurd cc
tied_fits ts rest e fit = let same : ts ≡ rest = cc in subst AllFit same fit

pub record ReadsRegister (read : RegisterForm × List Lexeme) : Type 0 where
  pub register : RegisterFits read.0
  pub rest : AllFit read.1

named_fits : (flag : Flag) (name : RegisterName) (ts : List Lexeme) (read : RegisterForm × List Lexeme) → named_at flag name ts ≡ Some read →
    NameFits name → AllFit ts → ReadsRegister read
unfolding named_at
named_fits flag name ts read e fits fit =
    let class = bind_some (behind_class name ts) _ read e in
    let tied = bind_some (behind_tied class.0) _ read class.2 in
    let same : (record { flag = flag; name = name }, tied.0) ≡ read = (let last = tied.2 in cc) in
    subst ReadsRegister same (record { register = fits; rest = tied_fits class.0 tied.0 tied.1 (class_fits name ts class.0 class.1 fit) })

register_at_fits : (flag : Flag) (ts : List Lexeme) (read : RegisterForm × List Lexeme) → register_at flag ts ≡ Some read → AllFit ts → ReadsRegister read
unfolding register_at
register_at_fits flag (lexemes.Word (words.Flag f) t ∷ ts) read e fit =
    let both = bind_some (joined flag f) (λ g. register_at g ts) read e in register_at_fits both.0 ts read both.2 fit.1
register_at_fits flag (lexemes.Register name ∷ ts) read e fit = named_fits flag name ts read e fit.0 fit.1
register_at_fits flag ts read e fit = absurd cc

pub record ReadsRegisters (read : List RegisterForm × List Lexeme) : Type 0 where
  pub registers : AllOf RegisterFits read.0
  pub rest : AllFit read.1

before_registers : (d : RegisterForm) (o : Option (List RegisterForm × List Lexeme)) (read : List RegisterForm × List Lexeme) → before d o ≡ Some read →
    RegisterFits d → ((r : List RegisterForm × List Lexeme) → o ≡ Some r → ReadsRegisters r) → ReadsRegisters read
before_registers d None read e fits more = absurd cc
before_registers d (Some r) read e fits more =
    let same : (d ∷ r.0, r.1) ≡ read = cc in
    let fit = more r refl in
    subst ReadsRegisters same (record { registers = (fits, fit.registers); rest = fit.rest })

definitions_at_fit : (n : ℕ) (ts : List Lexeme) (read : List RegisterForm × List Lexeme) → definitions_at n ts ≡ Some read → AllFit ts → ReadsRegisters read
unfolding definitions_at
definitions_at_fit zero ts read e fit = absurd cc
definitions_at_fit (suc n) ts read e fit =
    let d = bind_some (register_at Plain ts) _ read e in
    let first = register_at_fits Plain ts d.0 d.1 fit in
    elim (case_some (behind_comma d.0.1) (λ rest. before d.0.0 (definitions_at n rest)) (with_equals (d.0.0 ∷ []) d.0.1) read d.2) [
      | inl more ↦ before_registers d.0.0 (definitions_at n more.0) read more.2 first.register
          (λ r is. definitions_at_fit n more.0 r is (comma_fits d.0.1 more.0 more.1 first.rest))
      | inr last ↦ (let behind = bind_some (behind_equals d.0.1) _ read last in
          let same : (d.0.0 ∷ [], behind.0) ≡ read = (let at_end = behind.2 in cc) in
          subst ReadsRegisters same (record { registers = (first.register, tt); rest = equals_fits d.0.1 behind.0 behind.1 first.rest }))
    ]

-- ---- expressions

-- bytes that a part of a variable may have
part_fits : (offset size : Number) (b : Bytes) → part_of offset size ≡ Some b → IsPart b
part_fits offset size b e =
    let first = bind_some (whole_bytes offset) _ b e in
    let len = bind_some (whole_bytes size) _ b first.2 in
    elim (if_some (are_part first.0 len.0) (Some (record { offset = first.0; length = len.0 })) None b len.2) [
      | inl is ↦ (let same : record { offset = first.0; length = len.0 } ≡ b = (let it = is.1 in cc) in
          let parts = and_parts (leb 1 len.0 && leb len.0 8) (leb (first.0 + len.0) 8192) is.0 in
          let sizes = and_parts (leb 1 len.0) (leb len.0 8) parts.0 in
          subst IsPart same (leb-true 1 len.0 sizes.0, leb-true len.0 8 sizes.1, leb-true (first.0 + len.0) 8192 parts.1))
      | inr is ↦ absurd (let it = is.1 in cc)
    ]

plain_part_fits : (o s : Number) (b : Option Bytes) → part_of o s ≡ b → ExpressionFits (plain_part b)
plain_part_fits o s None is = tt
plain_part_fits o s (Some b) is = part_fits o s b is

argument_part_fits : (o s : Number) (b : Option Bytes) → part_of o s ≡ b → ExpressionFits (argument_part b)
argument_part_fits o s None is = tt
argument_part_fits o s (Some b) is = part_fits o s b is

argument_fits : (ts : List Lexeme) → ExpressionFits (argument_expression ts)
argument_fits (lexemes.Close ∷ ts) = tt
argument_fits (lexemes.Comma ∷ lexemes.Word words.Fragment t ∷ lexemes.Comma ∷ lexemes.Integer o ∷ lexemes.Comma ∷ lexemes.Integer s ∷ lexemes.Close ∷ ts) =
    argument_part_fits o s (part_of o s) refl
argument_fits ts = tt

one_expression : (b : Bool) (x y : Expression) → ExpressionFits x → ExpressionFits y → ExpressionFits (cond b x y)
one_expression true x y p q = p
one_expression false x y p q = q

expression_fits : (ts : List Lexeme) → ExpressionFits (expression_of ts)
unfolding expression_of
expression_fits (lexemes.Close ∷ ts) = tt
expression_fits (lexemes.Word words.Argument t ∷ lexemes.Comma ∷ lexemes.Integer n ∷ ts) =
    one_expression (is_zero n) (argument_expression ts) expressions.Other (argument_fits ts) tt
expression_fits (lexemes.Word words.Fragment t ∷ lexemes.Comma ∷ lexemes.Integer o ∷ lexemes.Comma ∷ lexemes.Integer s ∷ lexemes.Close ∷ ts) =
    plain_part_fits o s (part_of o s) refl
expression_fits ts = tt

-- ---- operands

pub record ReadsOperand (linked : Bool) (read : OperandForm × List Lexeme) : Type 0 where
  pub operand : FormFits linked read.0
  pub rest : AllFit read.1

reads : (linked : Bool) (o : OperandForm) (ts : List Lexeme) (read : OperandForm × List Lexeme) → Some (o, ts) ≡ Some read → FormFits linked o → AllFit ts →
    ReadsOperand linked read
reads linked o ts read e fits fit = let same : (o, ts) ≡ read = cc in subst (ReadsOperand linked) same (record { operand = fits; rest = fit })

symbol_fits : (linked : Bool) (line : List ℕ) (ts : List Lexeme) (read : OperandForm × List Lexeme) → symbol_at line ts ≡ Some read → AllFit ts →
    ReadsOperand linked read
symbol_fits linked line (lexemes.Symbol t ∷ ts) read e fit = reads linked _ ts read e tt fit.1
symbol_fits linked line ts read e fit = absurd cc

-- operands that are symbols
address_form_fits : (linked : Bool) → linked ≡ true → (half : Option Half) (symbol : Linked) (addend : Option (Option ℤ)) → AddendFits (addend_or_zero addend) →
    FormFits linked (address_form half symbol addend)
address_form_fits linked is None (Global name) None fits = tt
address_form_fits linked is None (Global name) (Some a) fits = tt
address_form_fits linked is None (PoolConstant n) addend fits = tt
address_form_fits linked is (Some half) symbol addend fits = (is, fits)

address_behind_fits : (linked : Bool) → linked ≡ true → (half : Option Half) (symbol : Linked) (ts : List Lexeme) (read : OperandForm × List Lexeme) →
    address_behind half symbol ts ≡ Some read → AllFit ts → ReadsOperand linked read
address_behind_fits linked is half symbol ts read e fit =
    let addend = bind_some (addend_at ts) _ read e in
    let first = addend_fits ts addend.0 addend.1 fit in
    reads linked (address_form half symbol addend.0.0) addend.0.1 read addend.2 (address_form_fits linked is half symbol addend.0.0 first.addend) first.rest

address_fits : (linked : Bool) → linked ≡ true → (line : List ℕ) (half : Option Half) (ts : List Lexeme) (read : OperandForm × List Lexeme) →
    address_at line half ts ≡ Some read → AllFit ts → ReadsOperand linked read
address_fits linked is line half (lexemes.Symbol t ∷ ts) read e fit = address_behind_fits linked is half (Global (symbol_name line t)) ts read e fit.1
address_fits linked is line half (lexemes.Constant n ∷ ts) read e fit = address_behind_fits linked is half (PoolConstant n) ts read e fit.1
address_fits linked is line half ts read e fit = absurd cc

symbol_by_fits : (linked : Bool) (line : List ℕ) (half : Option Half) (ts : List Lexeme) (read : OperandForm × List Lexeme) →
    symbol_by linked line half ts ≡ Some read → AllFit ts → ReadsOperand linked read
symbol_by_fits true line half ts read e fit = address_fits true refl line half ts read e fit
symbol_by_fits false line half ts read e fit = symbol_fits false line ts read e fit

flagged_fits : (linked : Bool) (line : List ℕ) (ts : List Lexeme) (read : OperandForm × List Lexeme) → flagged_symbol_at linked line ts ≡ Some read →
    AllFit ts → ReadsOperand linked read
flagged_fits linked line (lexemes.Open ∷ ts) read e fit =
    let behind = bind_some (behind_bracket 0 ts) (symbol_by linked line (half_of ts)) read e in
    symbol_by_fits linked line (half_of ts) behind.0 read behind.2 (bracket_fits 0 ts behind.0 behind.1 fit.1)
flagged_fits linked line ts read e fit = absurd cc

reference_fits : (linked : Bool) (ts : List Lexeme) (read : OperandForm × List Lexeme) → reference_at ts ≡ Some read → AllFit ts → ReadsOperand linked read
reference_fits linked (lexemes.Open ∷ lexemes.Integer k ∷ lexemes.Comma ∷ lexemes.Integer o ∷ lexemes.Close ∷ ts) read e fit =
    reads linked _ ts read e tt fit.1.1.1.1.1
reference_fits linked ts read e fit = absurd cc

mask_fits : (linked : Bool) (ts : List Lexeme) (read : OperandForm × List Lexeme) → mask_at ts ≡ Some read → AllFit ts → ReadsOperand linked read
mask_fits linked (lexemes.Open ∷ ts) read e fit =
    let behind = bind_some (behind_bracket 0 ts) _ read e in
    reads linked operands.Mask behind.0 read behind.2 tt (bracket_fits 0 ts behind.0 behind.1 fit.1)
mask_fits linked ts read e fit = reads linked operands.Mask ts read e tt fit

literal_fits : (linked : Bool) (ts : List Lexeme) (read : OperandForm × List Lexeme) → literal_at ts ≡ Some read → AllFit ts → ReadsOperand linked read
literal_fits linked (lexemes.Integer n ∷ ts) read e fit = reads linked operands.Literal ts read e tt fit.1
literal_fits linked (lexemes.Float ∷ ts) read e fit = reads linked operands.Literal ts read e tt fit.1
literal_fits linked (lexemes.Word w t ∷ ts) read e fit = reads linked operands.Literal ts read e tt fit.1
literal_fits linked ts read e fit = mask_fits linked ts read e fit

typed_fits : (linked : Bool) (ts : List Lexeme) (read : OperandForm × List Lexeme) → typed_at linked ts ≡ Some read → AllFit ts → ReadsOperand linked read
typed_fits true ts read e fit = literal_fits true ts read e fit
typed_fits false ts read e fit = mask_fits false ts read e fit

fixed_fits : (linked : Bool) (n : ℕ) (ts : List Lexeme) (read : OperandForm × List Lexeme) → fixed_at linked n ts ≡ Some read → AllFit ts →
    ReadsOperand linked read
fixed_fits true n ts read e fit = reads true (operands.Fixed n) ts read e refl fit
fixed_fits false n ts read e fit = absurd cc

expression_at_fits : (linked : Bool) (ts : List Lexeme) (read : OperandForm × List Lexeme) → expression_at ts ≡ Some read → AllFit ts → ReadsOperand linked read
expression_at_fits linked ts read e fit =
    let behind = bind_some (behind_bracket 0 ts) _ read e in
    reads linked (operands.Expression (expression_of ts)) behind.0 read behind.2 (expression_fits ts) (bracket_fits 0 ts behind.0 behind.1 fit)

register_operand_fits : (linked : Bool) (ts : List Lexeme) (read : OperandForm × List Lexeme) → register_operand_at ts ≡ Some read → AllFit ts →
    ReadsOperand linked read
register_operand_fits linked ts read e fit =
    let r = bind_some (register_at Plain ts) _ read e in
    let is = register_at_fits Plain ts r.0 r.1 fit in
    reads linked (operands.Register r.0.0) r.0.1 read r.2 is.register is.rest

word_fits : (linked : Bool) (line : List ℕ) (w : Word) (ts : List Lexeme) (read : OperandForm × List Lexeme) →
    word_operand_at linked line w ts ≡ Some read → AllFit ts →
    ReadsOperand linked read
unfolding word_operand_at
word_fits linked line (words.Flag f) ts read e fit = absurd cc
word_fits linked line words.InstrNumber ts read e fit = absurd cc
word_fits linked line words.Location ts read e fit = absurd cc
word_fits linked line words.TargetFlags ts read e fit = flagged_fits linked line ts read e fit
word_fits linked line words.InstrRef ts read e fit = reference_fits linked ts read e fit
word_fits linked line words.TypeName ts read e fit = typed_fits linked ts read e fit
word_fits linked line w ts read e fit = mask_fits linked ts read e fit

integer_fits : (n : Number) → NumberFits n → IntegerFits (fitting n)
integer_fits (Fits i) fits = fits
integer_fits n fits = tt

operand_fits : (linked : Bool) (line : List ℕ) (ts : List Lexeme) (read : OperandForm × List Lexeme) → operand_at linked line ts ≡ Some read → AllFit ts →
    ReadsOperand linked read
unfolding operand_at
operand_fits linked line (lexemes.Word (words.Flag f) t ∷ ts) read e fit = register_operand_fits linked (lexemes.Word (words.Flag f) t ∷ ts) read e fit
operand_fits linked line (lexemes.Word w t ∷ ts) read e fit = word_fits linked line w ts read e fit.1
operand_fits linked line (lexemes.Register name ∷ ts) read e fit = register_operand_fits linked (lexemes.Register name ∷ ts) read e fit
operand_fits linked line (lexemes.Slot n ∷ ts) read e fit = reads linked _ ts read e tt fit.1
operand_fits linked line (lexemes.Block n ∷ ts) read e fit = reads linked _ ts read e tt fit.1
operand_fits linked line (lexemes.Fixed n ∷ ts) read e fit = fixed_fits linked n ts read e fit.1
operand_fits linked line (lexemes.Constant n ∷ ts) read e fit = symbol_by_fits linked line None (lexemes.Constant n ∷ ts) read e fit
operand_fits linked line (lexemes.Node n ∷ ts) read e fit = reads linked _ ts read e tt fit.1
operand_fits linked line (lexemes.Expression ∷ lexemes.Open ∷ ts) read e fit = expression_at_fits linked ts read e fit.1.1
operand_fits linked line (lexemes.Integer n ∷ ts) read e fit = reads linked _ ts read e (integer_fits n fit.0) fit.1
operand_fits linked line (lexemes.Symbol t ∷ ts) read e fit = symbol_by_fits linked line None (lexemes.Symbol t ∷ ts) read e fit
operand_fits linked line ts read e fit = absurd cc

behind_operand_fits : (ts rest : List Lexeme) → behind_operand ts ≡ Some rest → AllFit ts → AllFit rest
behind_operand_fits (lexemes.Comma ∷ ts) rest e fit = elim (if_some (begins_attribute ts) None (Some ts) rest e) [
  | inl no' ↦ absurd (let it = no'.1 in cc)
  | inr is ↦ (let same : ts ≡ rest = (let it = is.1 in cc) in subst AllFit same fit.1)
]
behind_operand_fits ts rest e fit = absurd cc

before_operands : (linked : Bool) (o : OperandForm) (more : Option (List OperandForm × List Lexeme)) (read : List OperandForm × List Lexeme) →
    before o more ≡ Some read →
    FormFits linked o → ((r : List OperandForm × List Lexeme) → more ≡ Some r → AllOf (FormFits linked) r.0) → AllOf (FormFits linked) read.0
before_operands linked o None read e fits rest = absurd cc
before_operands linked o (Some r) read e fits rest =
    let same : (o ∷ r.0, r.1) ≡ read = cc in
    subst (λ (x : List OperandForm × List Lexeme). AllOf (FormFits linked) x.0) same (fits, rest r refl)

operands_at_fit : (linked : Bool) (line : List ℕ) (n : ℕ) (ts : List Lexeme) (read : List OperandForm × List Lexeme) →
    operands_at linked line n ts ≡ Some read → AllFit ts →
    AllOf (FormFits linked) read.0
unfolding operands_at
operands_at_fit linked line zero ts read e fit = absurd cc
operands_at_fit linked line (suc n) ts read e fit =
    let o = bind_some (operand_at linked line ts) _ read e in
    let first = operand_fits linked line ts o.0 o.1 fit in
    elim (case_some (behind_operand o.0.1) (λ rest. before o.0.0 (operands_at linked line n rest)) (Some (o.0.0 ∷ [], o.0.1)) read o.2) [
      | inl more ↦ before_operands linked o.0.0 (operands_at linked line n more.0) read more.2 first.operand
          (λ r is. operands_at_fit linked line n more.0 r is (behind_operand_fits o.0.1 more.0 more.1 first.rest))
      | inr last ↦ (let same : (o.0.0 ∷ [], o.0.1) ≡ read = cc in
          subst (λ (x : List OperandForm × List Lexeme). AllOf (FormFits linked) x.0) same (first.operand, tt))
    ]

-- ---- items

-- the numbers of an item's line, which exceeds its limits where one of them does
pub record ItemFits (linked : Bool) (form : ItemForm) : Type 0 where
  pub definitions : AllOf RegisterFits form.definitions
  pub operands : AllOf (FormFits linked) form.operands
  pub lexemes : List Lexeme
  pub exceeds : form.exceeds ≡ item_exceeds lexemes form.definitions form.operands (record { number = form.number; loc = form.loc })
  pub volatile : form.volatile ≡ true → linked ≡ true

never : (linked : Bool) → false ≡ true → linked ≡ true
never linked e = cc

one_rest : (b : Bool) (x y : List Lexeme) → AllFit x → AllFit y → AllFit (cond b x y)
one_rest true x y p q = p
one_rest false x y p q = q

words_fit : (ts : List Lexeme) → AllFit ts → AllFit (behind_words ts)
unfolding behind_words
words_fit (lexemes.Word w t ∷ ts) fit = one_rest (is_lower w) (behind_words ts) (lexemes.Word w t ∷ ts) (words_fit ts fit.1) fit
words_fit ts fit = fit

opcode_fits : (ts : List Lexeme) (read : Token × List Lexeme) → opcode_at ts ≡ Some read → AllFit ts → AllFit read.1
opcode_fits (lexemes.Word w t ∷ ts) read e fit = elim (if_some _ (Some (t, ts)) None read e) [
  | inl is ↦ (let same : (t, ts) ≡ read = (let it = is.1 in cc) in subst (λ (x : Token × List Lexeme). AllFit x.1) same fit.1)
  | inr is ↦ absurd (let it = is.1 in cc)
]
opcode_fits ts read e fit = absurd cc

definitions_fit : (ts : List Lexeme) (read : List RegisterForm × List Lexeme) → definitions_of ts ≡ Some read → AllFit ts → ReadsRegisters read
definitions_fit ts read e fit = elim (if_some (begins_register ts) (definitions_at (length ts) ts) (Some ([], ts)) read e) [
  | inl is ↦ definitions_at_fit (length ts) ts read is.1 fit
  | inr is ↦ (let none : List RegisterForm = [] in let same : (none, ts) ≡ read = (let it = is.1 in cc) in subst ReadsRegisters same
      (record { registers = tt; rest = fit }))
]

operands_fit : (linked : Bool) (line : List ℕ) (ts : List Lexeme) (read : List OperandForm × List Lexeme) → operands_of linked line ts ≡ Some read →
    AllFit ts → AllOf (FormFits linked) read.0
operands_fit linked line ts read e fit = elim (if_some (begins_operand ts) (operands_at linked line (length ts) ts) (Some ([], ts)) read e) [
  | inl is ↦ operands_at_fit linked line (length ts) ts read is.1 fit
  | inr is ↦ (let none : List OperandForm = [] in let same : (none, ts) ≡ read = (let it = is.1 in cc) in
      subst (λ (x : List OperandForm × List Lexeme). AllOf (FormFits linked) x.0) same tt)
]

defined_fits : (linked : Bool) (line : List ℕ) (ts : List Lexeme) (ds : List RegisterForm) (rest : List Lexeme) (form : ItemForm) →
    defined_item linked line ts ds rest ≡ Some form →
    AllOf RegisterFits ds → AllFit rest → ItemFits linked form
unfolding defined_item
defined_fits linked line ts ds rest form e fits fit =
    let opcode = bind_some (opcode_at (behind_words rest)) _ form e in
    let os = bind_some (operands_of linked line opcode.0.1) _ form opcode.2 in
    let attributes = bind_some (attributes_of_item opcode.0.1 os.0.1) _ form os.2 in
    let same : item_with ts ds (text_of line opcode.0.0) os.0.0 (says_no_return rest) attributes.0 ≡ form = (let it = attributes.2 in cc) in
    subst (ItemFits linked) same (record {
      definitions = fits;
      operands = operands_fit linked line opcode.0.1 os.0 os.1 (opcode_fits (behind_words rest) opcode.0 opcode.1 (words_fit rest fit));
      lexemes = ts;
      exceeds = refl;
      volatile = never linked;
    })

item_fits : (linked : Bool) (line : List ℕ) (ts : List Lexeme) (form : ItemForm) → item_of linked line ts ≡ Some form → AllFit ts → ItemFits linked form
unfolding item_of
item_fits linked line ts form e fit =
    let ds = bind_some (definitions_of ts) (λ d. defined_item linked line ts d.0 d.1) form e in
    let is = definitions_fit ts ds.0 ds.1 fit in
    defined_fits linked line ts ds.0.0 ds.0.1 form ds.2 is.registers is.rest

-- ---- lines

pub as_item_some : (item : Option ItemForm) (form : ItemForm) → as_item item ≡ Ok (Item form) → item ≡ Some form
as_item_some None form e = absurd cc
as_item_some (Some item) form e = cc

pub if_ok : {A : Type 0} (b : Bool) (x y z : Result A FormError) → cond b x y ≡ z → (x ≡ z → ⊥) → y ≡ z
if_ok true x y z e not_x = absurd (not_x e)
if_ok false x y z e not_x = e

pub label_no_item : (n : ℕ) (form : ItemForm) → ◌≡◌ {A = Result BodyLine FormError} (Ok (label_of n)) (Ok (Item form)) → ⊥
label_no_item n form e = by (ltb n 1073741824) e where
  by : (b : Bool) → ◌≡◌ {A = Result BodyLine FormError} (Ok (cond b (Label (Some n)) (Label None))) (Ok (Item form)) → ⊥
  by true e = cc
  by false e = cc

pub labelled_no_item : (n : ℕ) (rest : Option (List Lexeme)) (form : ItemForm) → labelled n rest ≡ Ok (Item form) → ⊥
labelled_no_item n None form e = cc
labelled_no_item n (Some rest) form e =
    let no_colon : ◌≡◌ {A = Result BodyLine FormError} (Err BadLine) (Ok (Item form)) = if_ok (is_colon rest) (Ok (label_of n)) (Err BadLine) (Ok
    (Item form)) e (label_no_item n form) in cc

sentence_fits : (linked : Bool) (line : List ℕ) (ts : List Lexeme) (form : ItemForm) → sentence_of linked line ts ≡ Ok (Item form) → AllFit ts →
    ItemFits linked form
unfolding sentence_of
sentence_fits linked line [] form e fit = absurd cc
sentence_fits linked line (lexemes.Word (words.Block n) t ∷ lexemes.Colon ∷ ts) form e fit = absurd (labelled_no_item n (Some (lexemes.Colon ∷ ts)) form e)
sentence_fits linked line (lexemes.Word (words.Block n) t ∷ lexemes.Open ∷ ts) form e fit = absurd (labelled_no_item n (behind_bracket 0 ts) form e)
sentence_fits linked line (t ∷ ts) form e fit = item_fits linked line (t ∷ ts) form (as_item_some (item_of linked line (t ∷ ts)) form e) fit

tokens_fit : (linked : Bool) (line : List ℕ) (read : Result (List Token) LexError) (form : ItemForm) → line_of_tokens linked line read ≡ Ok (Item form) →
    ItemFits linked form
tokens_fit linked line (Ok ts) form e = sentence_fits linked line (lexemes_of line ts) form e (lexemes_fit line ts)
tokens_fit linked line (Err (lex.BadByte at)) form e = absurd cc
tokens_fit linked line (Err (lex.UnclosedString at)) form e = absurd cc
tokens_fit linked line (Err lex.Memory) form e = absurd cc

-- a line that lists something is no item
pub listing_no_item : (b : Bool) (form : ItemForm) → ◌≡◌ {A = Result BodyLine FormError} (Ok (cond b Closed Passed)) (Ok (Item form)) → ⊥
listing_no_item true form e = cc
listing_no_item false form e = cc

-- the form of a volatile access
volatile_fits : (linked : Bool) → linked ≡ true → (read : Result BodyLine FormError) → ((f : ItemForm) → read ≡ Ok (Item f) → ItemFits linked f) →
    (form : ItemForm) → volatile_read read ≡ Ok (Item form) → ItemFits linked form
volatile_fits linked is (Ok (Item f)) fits form e =
    let same : record f { volatile = true } ≡ form = cc in
    let h = fits f refl in
    subst (ItemFits linked) same (record {
      definitions = h.definitions;
      operands = h.operands;
      lexemes = h.lexemes;
      exceeds = h.exceeds;
      volatile = λ v. is;
    })
volatile_fits linked is (Ok Passed) fits form e = absurd cc
volatile_fits linked is (Ok Closed) fits form e = absurd cc
volatile_fits linked is (Ok (Label n)) fits form e = absurd cc
volatile_fits linked is (Err refusal) fits form e = absurd cc

-- the form of an item's line
pub line_fits : (linked : Bool) (text : List ℕ) (form : ItemForm) → body_line_of linked text ≡ Ok (Item form) → ItemFits linked form
unfolding body_line_of
line_fits linked text form e = by (linked && is_volatile text) refl
    (if_ok (is_listing text) (Ok (listing_of linked text)) (cond (linked && is_volatile text) (volatile_read read) read) (Ok (Item form)) e
    (listing_no_item (linked && closes_block text) form)) where
      read : Result BodyLine FormError
      read = line_of_tokens linked (code_of text) (tokens_of linked (code_of text))

      by : (b : Bool) → (linked && is_volatile text) ≡ b → cond b (volatile_read read) read ≡ Ok (Item form) → ItemFits linked form
      by true is fits = volatile_fits linked (and_parts linked (is_volatile text) is).0 read (tokens_fit linked (code_of text) (tokens_of linked (code_of text)))
          form fits
      by false is fits = tokens_fit linked (code_of text) (tokens_of linked (code_of text)) form fits
