-- Registers as they are printed, and what they are read as.
use Rattle.std.proofs.lemmas.Fmt.{decimal_by_steps}
use Rattle.std.proofs.Common.{◌≡◌, ℕ, zero, suc, ◌+◌, ◌-◌, ◌/◌, ◌%◌, ◌^◌, ◌<◌, ◌≤◌, Bool, true, false, cond, not, ◌&&◌, eqb, ltb, List, [], ◌∷◌, ◌++◌}
use Rattle.std.proofs.Common.{length, Option, Some, None, refl, sym, subst, ap, ◌∙◌, arith, append-nil}
use Rattle.std.specs.Prelude.{codes, nat_eq, nat_lt, unwrap_or, is_none}
use Rattle.std.specs.List.{list_all, prefix_len}
use Rattle.std.specs.Char.{is_ascii_digit}
use Rattle.std.specs.Fmt.{decimal}
use Rattle.std.proofs.Math.Dec.{eqb-suc-zero}
use Rattle.std.proofs.lemmas.Bool.{and_parts, and_from, eqb-true, eqb-false, ltb-true, ltb-false, lt-ltb, le-ltb, lt-leb, ne_eqb, eq-eqb}
use Rattle.base_ids.specs.Limits.{MAX_NUMBER}
use Rattle.read_lexer.specs.declared.parts.Class.{Class}
use Rattle.read_lexer.specs.declared.parts.Class.TheVariants.{Register, Percent}
use Rattle.read_lexer.specs.declared.parts.Token.{Token}
use Rattle.read_token.specs.declared.lexeme.Flag.{Flag}
use Rattle.read_token.specs.declared.lexeme.Flag.TheVariants as flags
use Rattle.read_token.specs.declared.lexeme.Lexeme.TheVariants as lexemes
use Rattle.read_token.specs.declared.lexeme.RegisterName.{RegisterName}
use Rattle.read_token.specs.declared.lexeme.RegisterName.TheVariants.{Physical, Absent, Other, Virtual}
use Rattle.read_token.specs.Number.{BEYOND, limited, is_number}
use Rattle.read_token.specs.Register.{register_of, virtual_of, slot_of, block_operand_of, fixed_of, constant_of, numbered_of, behind_stack, behind_bb}
use Rattle.read_token.specs.Register.{behind_fixed, behind_const, percent_behind}
use Rattle.read_token.specs.Sentence.{lexeme_by}
use Rattle.read_token.specs.Word.{case_of}
use Rattle.read_line.specs.Exceeds.{name_exceeds}
use Rattle.read_item.specs.Code.{STAND_IN, VIRTUALS, virtual_register, virtual_operand, number_of, is_named, is_refused_number, is_refused_virtual}
use Rattle.read_program.proofs.Operands.{RegisterIsLimited}
use Rattle.mir_printer.specs.Spelling.{register_text}
use Rattle.readback_items.specs.Forms.{register_name, register_form}
use Rattle.readback_items.proofs.Lexing.{Reads}
use Rattle.readback_items.proofs.Numbers.{prefix_all, decimal_of, no_digit, limited_decimal}
use Rattle.readback_items.proofs.Tokens.{Ends, register_read, decimal_word, virtual_token}

-- a test of all numbers below one
abbrev pub all_below : (ℕ → Bool) → ℕ → Bool
all_below p zero = true
all_below p (suc k) = p k && all_below p k

pub below : (p : ℕ → Bool) (k n : ℕ) → all_below p k ≡ true → n < k → p n ≡ true
below p zero n all less = absurd (omega (arith, less))
below p (suc k) n all less =
    let parts = and_parts (p k) (all_below p k) all in
    by (eqb n k) refl parts.0 (λ other. below p k n parts.1 (omega (arith, less, other))) where
      by : (b : Bool) → eqb n k ≡ b → p k ≡ true → (((n ≡ k) → ⊥) → p n ≡ true) → p n ≡ true
      by true same here rest = subst (λ (m : ℕ). p m ≡ true) (sym (eqb-true n k same)) here
      by false other here rest = rest (eqb-false n k other)

names : RegisterName → ℕ → Bool
names (Physical n) r = nat_eq n r
names Absent r = false
names Other r = false
names (Virtual n) r = false

-- the digits of a number below 100
two_digits : ℕ → List ℕ
two_digits m = cond (nat_lt m 10) ((48 + m) ∷ []) ((48 + m / 10) ∷ (48 + m % 10) ∷ [])

decimal_two : (n : ℕ) → n < 100 → decimal n ≡ two_digits n
unfolding two_digits
decimal_two n small = decimal_by_steps (λ m text. m < 100 → text ≡ two_digits m)
    (λ m one less. sym (ap (λ (b : Bool). cond b ((48 + m) ∷ []) ((48 + m / 10) ∷ (48 + m % 10) ∷ [])) (lt-ltb m 10 one)))
    (λ m text ten before less.
    ap (λ (t : List ℕ). t ++ (48 + m % 10) ∷ [])
    (before (omega (arith, less)) ∙ ap (λ (b : Bool). cond b ((48 + m / 10) ∷ []) ((48 + m / 10 / 10) ∷ (48 + m / 10 % 10) ∷ [])) (lt-ltb (m / 10) 10 (omega
    (arith, less))))
    ∙ sym (ap (λ (b : Bool). cond b ((48 + m) ∷ []) ((48 + m / 10) ∷ (48 + m % 10) ∷ [])) (le-ltb m 10 ten)))
    n (omega (arith, small)) small

all_named : all_below (λ r. names (register_of (36 ∷ 120 ∷ two_digits r)) r) 32 ≡ true
unfolding register_of names two_digits
all_named = refl

named_is : (name : RegisterName) (r : ℕ) → names name r ≡ true → name ≡ Physical r
unfolding names
named_is (Physical n) r e = ap (λ (k : ℕ). Physical k) (eqb-true n r e)
named_is Absent r e = absurd cc
named_is Other r e = absurd cc
named_is (Virtual n) r e = absurd cc

physical_is : (r : ℕ) → r < 32 → register_of (36 ∷ 120 ∷ decimal r) ≡ Physical r
physical_is r small =
    ap (λ (t : List ℕ). register_of (36 ∷ 120 ∷ t)) (decimal_two r (omega (arith, small)))
    ∙ named_is (register_of (36 ∷ 120 ∷ two_digits r)) r (below (λ n. names (register_of (36 ∷ 120 ∷ two_digits n)) n) 32 r all_named small)

pub register_spelled : (r : ℕ) → r < 32 → register_text r ≡ 36 ∷ 120 ∷ decimal r
register_spelled r small = ap (λ (b : Bool). cond b (codes "$x" ++ decimal r) (codes "%" ++ decimal (r - 32))) (lt-ltb r 32 small)

-- ---- virtual registers: digits begin none of `stack.`, `bb.`, `fixed-stack.` and `const.`

no_stack : (b : ℕ) (bs : List ℕ) → eqb b 115 ≡ false → behind_stack (b ∷ bs) ≡ None
no_stack b [] e = refl
no_stack b (c ∷ []) e = refl
no_stack b (c ∷ d ∷ []) e = refl
no_stack b (c ∷ d ∷ f ∷ []) e = refl
no_stack b (c ∷ d ∷ f ∷ g ∷ []) e = refl
no_stack b (c ∷ d ∷ f ∷ g ∷ h ∷ bs) e =
    ap (λ (t : Bool). cond (t && eqb c 116 && eqb d 97 && eqb f 99 && eqb g 107 && eqb h 46) (Some bs) None) e

no_block : (b : ℕ) (bs : List ℕ) → eqb b 98 ≡ false → behind_bb (b ∷ bs) ≡ None
no_block b [] e = refl
no_block b (c ∷ []) e = refl
no_block b (c ∷ d ∷ bs) e = ap (λ (t : Bool). cond (t && eqb c 98 && eqb d 46) (Some bs) None) e

no_fixed : (b : ℕ) (bs : List ℕ) → eqb b 102 ≡ false → behind_fixed (b ∷ bs) ≡ None
no_fixed b [] e = refl
no_fixed b (c ∷ []) e = refl
no_fixed b (c ∷ d ∷ []) e = refl
no_fixed b (c ∷ d ∷ f ∷ []) e = refl
no_fixed b (c ∷ d ∷ f ∷ g ∷ []) e = refl
no_fixed b (c ∷ d ∷ f ∷ g ∷ h ∷ bs) e =
    ap (λ (t : Bool). cond (t && eqb c 105 && eqb d 120 && eqb f 101 && eqb g 100 && eqb h 45) (behind_stack bs) None) e

no_const : (b : ℕ) (bs : List ℕ) → eqb b 99 ≡ false → behind_const (b ∷ bs) ≡ None
no_const b [] e = refl
no_const b (c ∷ []) e = refl
no_const b (c ∷ d ∷ []) e = refl
no_const b (c ∷ d ∷ f ∷ []) e = refl
no_const b (c ∷ d ∷ f ∷ g ∷ []) e = refl
no_const b (c ∷ d ∷ f ∷ g ∷ h ∷ bs) e =
    ap (λ (t : Bool). cond (t && eqb c 111 && eqb d 110 && eqb f 115 && eqb g 116 && eqb h 46) (Some bs) None) e

decimal_is_number : (n : ℕ) → n < 2 ^ 64 → is_number (decimal n) ≡ true
decimal_is_number n small =
    let is = decimal_of n small in
    let all : list_all is_ascii_digit (decimal n) ≡ true =
    ap (list_all is_ascii_digit) is.parts ∙ and_from (is_ascii_digit is.first) (list_all is_ascii_digit is.rest) is.digit is.digits in
    let run : prefix_len is_ascii_digit (decimal n) ≡ length (decimal n) =
    ap (prefix_len is_ascii_digit) (sym (append-nil (decimal n))) ∙ prefix_all is_ascii_digit (decimal n) [] all tt in
    let some : eqb (length (decimal n)) 0 ≡ false = ap (λ (t : List ℕ). eqb (length t) 0) is.parts ∙ eqb-suc-zero (length is.rest) in
    ap (λ (b : Bool). not b && eqb (prefix_len is_ascii_digit (decimal n)) (length (decimal n))) some ∙ eq-eqb (prefix_len is_ascii_digit (decimal n)) (length (decimal n)) run

virtual_is : (n : ℕ) → n ≤ MAX_NUMBER → percent_behind (decimal n) ≡ lexemes.Register (Virtual n)
unfolding percent_behind
virtual_is n small =
    let is = decimal_of n (omega (arith, small)) in
    let stack : behind_stack (decimal n) ≡ None = ap behind_stack is.parts ∙ no_stack is.first is.rest (no_digit is.first 115 is.digit refl) in
    let block : behind_bb (decimal n) ≡ None = ap behind_bb is.parts ∙ no_block is.first is.rest (no_digit is.first 98 is.digit refl) in
    let fixed : behind_fixed (decimal n) ≡ None = ap behind_fixed is.parts ∙ no_fixed is.first is.rest (no_digit is.first 102 is.digit refl) in
    let const : behind_const (decimal n) ≡ None = ap behind_const is.parts ∙ no_const is.first is.rest (no_digit is.first 99 is.digit refl) in
    ap (λ (o : Option (List ℕ)). case_of o slot_of (case_of (behind_bb (decimal n)) block_operand_of (numbered_of (decimal n)))) stack
    ∙ (ap (λ (o : Option (List ℕ)). case_of o block_operand_of (numbered_of (decimal n))) block
    ∙ (ap (λ (o : Option (List ℕ)). case_of o fixed_of (case_of (behind_const (decimal n)) constant_of (virtual_of (decimal n)))) fixed
    ∙ (ap (λ (o : Option (List ℕ)). case_of o constant_of (virtual_of (decimal n))) const
    ∙ (ap (λ (b : Bool). cond b (lexemes.Register (Virtual (limited (decimal n)))) lexemes.Other) (decimal_is_number n (omega (arith, small)))
    ∙ ap (λ (m : ℕ). lexemes.Register (Virtual m)) (limited_decimal n small)))))

-- ---- all registers

-- the class of a printed register's token
abbrev pub register_class : ℕ → Class
register_class r = cond (nat_lt r 32) Register Percent

pub register_token : (r : ℕ) (rest : List ℕ) → r < 4128 → Ends rest → Reads (register_class r) (register_text r) rest
register_token r rest small is = by (ltb r 32) refl where
  by : (b : Bool) → ltb r 32 ≡ b → Reads (cond b Register Percent) (cond b (codes "$x" ++ decimal r) (codes "%" ++ decimal (r - 32))) rest
  by true low = register_read 120 (decimal r) rest (decimal_word r (omega (arith, small))) is
  by false high = virtual_token (r - 32) rest (omega (arith, small)) is

pub register_lexeme : (r : ℕ) (t : Token) → r < 4128 → lexeme_by (register_class r) t (register_text r) ≡ lexemes.Register (register_name r)
register_lexeme r t small = by (ltb r 32) refl where
  by : (b : Bool) → ltb r 32 ≡ b → lexeme_by (cond b Register Percent) t (cond b (codes "$x" ++ decimal r) (codes "%" ++ decimal (r - 32))) ≡
      lexemes.Register (cond b (Physical r) (Virtual (r - 32)))
  by true low = ap (λ (name : RegisterName). lexemes.Register name) (physical_is r (ltb-true r 32 low))
  by false high = virtual_is (r - 32) (omega (arith, small))

pub register_within : (r : ℕ) → r < 4128 → name_exceeds (register_name r) ≡ false
register_within r small = by (ltb r 32) where
  by : (b : Bool) → name_exceeds (cond b (Physical r) (Virtual (r - 32))) ≡ false
  by true = refl
  by false = lt-leb BEYOND (r - 32) (omega (arith, small))

-- ---- registers of code

-- a virtual register is one of code where it isn't implicit
pub plain_register : (r : ℕ) → r < 4128 → 32 ≤ r → virtual_register (r - 32) ≡ Some r
plain_register r small high =
    ap (λ (b : Bool). cond b (Some (32 + (r - 32))) None) (lt-ltb (r - 32) VIRTUALS (omega (arith, small, high)))
    ∙ ap (λ (n : ℕ). Some n) (let e : 32 + (r - 32) ≡ r = omega (arith, high) in e)

virtual_number : (flag : Flag) (r : ℕ) → RegisterIsLimited flag r → 32 ≤ r → virtual_operand flag (r - 32) ≡ r
virtual_number flags.Plain r small high = ap (λ (o : Option ℕ). unwrap_or o STAND_IN) (plain_register r small high)
virtual_number flags.Implicit r small high = absurd (omega (arith, small, high))
virtual_number flags.ImplicitDef r small high = absurd (omega (arith, small, high))

pub number_is : (flag : Flag) (r : ℕ) → RegisterIsLimited flag r → number_of flag (register_name r) ≡ Some r
number_is flag r small = by (ltb r 32) refl where
  by : (b : Bool) → ltb r 32 ≡ b → number_of flag (cond b (Physical r) (Virtual (r - 32))) ≡ Some r
  by true low = refl
  by false high = ap (λ (n : ℕ). Some n) (virtual_number flag r small (ltb-false r 32 high))

known_number : (flag : Flag) (r : ℕ) → RegisterIsLimited flag r → 32 ≤ r → is_refused_number flag (r - 32) ≡ false
known_number flags.Plain r small high = ap (λ (o : Option ℕ). is_none o) (plain_register r small high)
known_number flags.Implicit r small high = absurd (omega (arith, small, high))
known_number flags.ImplicitDef r small high = absurd (omega (arith, small, high))

pub register_known : (flag : Flag) (r : ℕ) → RegisterIsLimited flag r → is_refused_virtual (register_form flag r) ≡ false
register_known flag r small = by (ltb r 32) refl where
  by : (b : Bool) → ltb r 32 ≡ b → is_refused_virtual (record { flag = flag; name = cond b (Physical r) (Virtual (r - 32)) }) ≡ false
  by true low = refl
  by false high = known_number flag r small (ltb-false r 32 high)

pub register_other : (r : ℕ) → (r ≡ 2 → ⊥) → is_named flags.Plain (register_name r) 2 ≡ false
register_other r other = by (ltb r 32) where
  by : (b : Bool) → is_named flags.Plain (cond b (Physical r) (Virtual (r - 32))) 2 ≡ false
  by true = ne_eqb r 2 other
  by false = refl
