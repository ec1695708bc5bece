-- The operands that a text stands for.
use Rattle.std.proofs.Common.{◌≡◌, ℕ, ℤ, zero, suc, pos, negsuc, ◌-◌, ◌^◌, ◌<◌, ◌≤◌, Bool, true, false, ◌&&◌, not, nat_eq, nat_lt, nat_le, cond, List, []}
use Rattle.std.proofs.Common.{◌∷◌, ◌++◌}
use Rattle.std.proofs.Common.{refl, sym, ap, ◌∙◌}
use Rattle.std.proofs.Common.{append_assoc, arith}
use Rattle.std.specs.Prelude.{codes, map}
use Rattle.std.specs.Fmt.{decimal}
use Rattle.std.proofs.lemmas.Bool.{ltb-false, leb-true, ne_eqb}
use Rattle.base_ids.specs.Limits.{FIXED}
use Rattle.rv64_instr.specs.declared.operand.Operand.{Operand}
use Rattle.rv64_instr.specs.declared.operand.Operand.TheVariants.{Def, Use, ImplicitDef, ImplicitUse, Imm, Slot, Object, Part, Outgoing, Block, Symbol, Mask}
use Rattle.rv64_instr.specs.declared.operand.Operand.TheVariants.{GlobalRegisters}
use Rattle.mir_printer.specs.Spelling.{comma_separated, is_bare, is_definition, operand_text, register_text, uses_text}
use Rattle.mir_printer.specs.Spelling.{linked_symbol_text, addend_text, half_text, part_text}
use Rattle.rv64_instr.specs.declared.symbol.Symbol.{Symbol as Linked}
use Rattle.rv64_instr.specs.declared.symbol.Symbol.TheVariants.{Global, Constant as PoolConstant}
use Rattle.rv64_instr.specs.declared.symbol.LinkedAddress.{LinkedAddress}
use Rattle.rv64_instr.specs.declared.symbol.Half.{Half}
use Rattle.rv64_instr.specs.declared.symbol.Half.TheVariants.{Upper, Lower}
use Rattle.rv64_instr.specs.Form.{IsSigned}
use Rattle.mir_printer.specs.Printable.{IsNumber, HasNumbers, HasSymbolNumber, HasAddressNumbers, as_slot}
use Rattle.mir_printer.proofs.Cuts.{front_one, apart, Stops, is_digit, decimal_one, decimal_head, signed_one, signed_head}
use Rattle.mir_printer.proofs.Symbols.{symbol_one}

pub wide : (n : ℕ) → IsNumber n → n < 2 ^ 64
wide n small = omega arith

less : (n : ℕ) → IsNumber n → n - 32 < 2 ^ 64
less n small = omega arith

pub number_one : (m n : ℕ) (r s : List ℕ) → IsNumber m → IsNumber n → Stops is_digit r → Stops is_digit s → decimal m ++ r ≡ decimal n ++ s → (m ≡ n) × (r ≡ s)
number_one m n r s small other stop stops e = decimal_one m n r s (wide m small) (wide n other) stop stops e

-- ---- registers

abbrev register_by : Bool → ℕ → List ℕ
register_by p r = cond p (codes "$x" ++ decimal r) (codes "%" ++ decimal (r - 32))

register_cases : (p q : Bool) (m n : ℕ) (r s : List ℕ) → nat_lt m 32 ≡ p → nat_lt n 32 ≡ q → IsNumber m → IsNumber n → Stops is_digit r → Stops is_digit s →
    register_by p m ++ r ≡ register_by q n ++ s → (m ≡ n) × (r ≡ s)
register_cases true true m n r s is others small other stop stops e =
    let tails : decimal m ++ r ≡ decimal n ++ s = cc in number_one m n r s small other stop stops tails
register_cases true false m n r s is others small other stop stops e = absurd (apart 36 37 (120 ∷ (decimal m ++ r)) (decimal (n - 32) ++ s) refl e)
register_cases false true m n r s is others small other stop stops e = absurd (apart 37 36 (decimal (m - 32) ++ r) (120 ∷ (decimal n ++ s)) refl e)
register_cases false false m n r s is others small other stop stops e =
    let tails : decimal (m - 32) ++ r ≡ decimal (n - 32) ++ s = cc in
    let found = decimal_one (m - 32) (n - 32) r s (less m small) (less n other) stop stops tails in
    let same : m ≡ n = omega (arith, found.0, ltb-false m 32 is, ltb-false n 32 others) in
    (same, found.1)

pub register_one : (m n : ℕ) (r s : List ℕ) → IsNumber m → IsNumber n → Stops is_digit r → Stops is_digit s → register_text m ++ r ≡ register_text n ++ s →
    (m ≡ n) × (r ≡ s)
register_one m n r s small other stop stops e = register_cases (nat_lt m 32) (nat_lt n 32) m n r s refl refl small other stop stops e

-- ---- stack objects

abbrev object_by : Bool → ℕ → List ℕ
object_by p n = cond p (codes "%fixed-stack." ++ decimal (n - FIXED)) (codes "%stack." ++ decimal n)

near : (n : ℕ) → IsNumber n → n - FIXED < 2 ^ 64
near n small = omega arith

object_cases : (p q : Bool) (m n : ℕ) (r s : List ℕ) → nat_le FIXED m ≡ p → nat_le FIXED n ≡ q → IsNumber m → IsNumber n → Stops is_digit r →
    Stops is_digit s → object_by p m ++ r ≡ object_by q n ++ s → (m ≡ n) × (r ≡ s)
object_cases true true m n r s is others small other stop stops e =
    let tails : decimal (m - FIXED) ++ r ≡ decimal (n - FIXED) ++ s = cc in
    let found = decimal_one (m - FIXED) (n - FIXED) r s (near m small) (near n other) stop stops tails in
    let same : m ≡ n = omega (arith, found.0, leb-true FIXED m is, leb-true FIXED n others) in
    (same, found.1)
object_cases true false m n r s is others small other stop stops e =
    absurd (apart 102 115 (codes "ixed-stack." ++ (decimal (m - FIXED) ++ r)) (codes "tack." ++ (decimal n ++ s)) refl
    (front_one (codes "%") (codes "fixed-stack." ++ (decimal (m - FIXED) ++ r)) (codes "stack." ++ (decimal n ++ s)) e))
object_cases false true m n r s is others small other stop stops e =
    absurd (apart 115 102 (codes "tack." ++ (decimal m ++ r)) (codes "ixed-stack." ++ (decimal (n - FIXED) ++ s)) refl
    (front_one (codes "%") (codes "stack." ++ (decimal m ++ r)) (codes "fixed-stack." ++ (decimal (n - FIXED) ++ s)) e))
object_cases false false m n r s is others small other stop stops e =
    let tails : decimal m ++ r ≡ decimal n ++ s = cc in number_one m n r s small other stop stops tails

-- the text of a slot with that of an object
slot_cases : (q : Bool) (m n : ℕ) (r s : List ℕ) → IsNumber m → IsNumber n → Stops is_digit r → Stops is_digit s →
    codes "%stack." ++ decimal m ++ r ≡ object_by q n ++ s → (m ≡ n) × (r ≡ s)
slot_cases true m n r s small other stop stops e =
    absurd (apart 115 102 (codes "tack." ++ (decimal m ++ r)) (codes "ixed-stack." ++ (decimal (n - FIXED) ++ s)) refl
    (front_one (codes "%") (codes "stack." ++ (decimal m ++ r)) (codes "fixed-stack." ++ (decimal (n - FIXED) ++ s)) e))
slot_cases false m n r s small other stop stops e = let tails : decimal m ++ r ≡ decimal n ++ s = cc in number_one m n r s small other stop stops tails

-- ---- one operand

-- what the first bytes of an operand's text say of it
data Lead : Type 0 where
  at_register : Lead
  at_stack : Lead
  at_block : Lead
  at_symbol : Lead
  at_mask : Lead
  at_implicit : Lead
  at_part : Lead
  at_outgoing : Lead
  at_globals : Lead
  at_number : Lead

abbrev after_percent : List ℕ → Lead
after_percent [] = at_register
after_percent (b ∷ bs) = cond (nat_eq b 115) at_stack (cond (nat_eq b 102) at_stack (cond (nat_eq b 98) at_block at_register))

abbrev lead : List ℕ → Lead
lead [] = at_number
lead (b ∷ bs) = cond (nat_eq b 36) at_register (cond (nat_eq b 37) (after_percent bs)
    (cond (nat_eq b 64) at_symbol (cond (nat_eq b 109) at_mask (cond (nat_eq b 105) at_implicit (cond (nat_eq b 116) at_part
    (cond (nat_eq b 111) at_outgoing (cond (nat_eq b 103) at_globals at_number)))))))

abbrev lead_of : Operand → Lead
lead_of (Def r) = at_register
lead_of (Use r) = at_register
lead_of (ImplicitDef r) = at_implicit
lead_of (ImplicitUse r) = at_implicit
lead_of (Imm i) = at_number
lead_of (Slot n) = at_stack
lead_of (Object n) = at_stack
lead_of (Part half y) = at_part
lead_of (Outgoing n) = at_outgoing
lead_of GlobalRegisters = at_globals
lead_of (Block n) = at_block
lead_of (Symbol name) = at_symbol
lead_of Mask = at_mask

digit_after : (b : ℕ) (bs : List ℕ) → 48 ≤ b → b ≤ 57 → after_percent (b ∷ bs) ≡ at_register
digit_after b bs low high = rw (ne_eqb b 115 (λ e. omega arith), ne_eqb b 102 (λ e. omega arith), ne_eqb b 98 (λ e. omega arith)) refl

number_lead : (b : ℕ) (bs : List ℕ) → 45 ≤ b → b ≤ 57 → lead (b ∷ bs) ≡ at_number
number_lead b bs low high =
    rw (
      ne_eqb b 36 (λ e. omega arith),
      ne_eqb b 37 (λ e. omega arith),
      ne_eqb b 64 (λ e. omega arith),
      ne_eqb b 109 (λ e. omega arith),
      ne_eqb b 105 (λ e. omega arith),
      ne_eqb b 116
          (λ e. omega arith),
      ne_eqb b 111 (λ e. omega arith),
      ne_eqb b 103 (λ e. omega arith),
    ) refl

register_lead : (p : Bool) (n : ℕ) (r : List ℕ) → IsNumber n → lead (register_by p n ++ r) ≡ at_register
register_lead true n r small = refl
register_lead false n r small = let is = decimal_head (n - 32) r (less n small) in ap after_percent is.2 ∙ digit_after is.0 is.1 is.3 is.4

object_lead : (p : Bool) (n : ℕ) (r : List ℕ) → lead (object_by p n ++ r) ≡ at_stack
object_lead true n r = refl
object_lead false n r = refl

-- an operand other than a definition
abbrev pub IsUse : Operand → Type 0
IsUse o = (is_definition o ≡ false) × HasNumbers o

lead_is : (o : Operand) (r : List ℕ) → IsUse o → lead (operand_text o ++ r) ≡ lead_of o
lead_is (Def n) r is = let no : true ≡ false = is.0 in absurd cc
lead_is (Use n) r is = register_lead (nat_lt n 32) n r is.1
lead_is (Imm i) r is = let h = signed_head i r is.1 in ap lead h.2 ∙ number_lead h.0 h.1 h.3 h.4
lead_is (Object n) r is = object_lead (nat_le FIXED n) n r
lead_is (Part Upper y) r is = refl
lead_is (Part Lower y) r is = refl
lead_is _ r is = refl

-- a text that begins with a colon
abbrev pub begins_colon : List ℕ → Bool
begins_colon [] = false
begins_colon (b ∷ bs) = nat_eq b 58

-- a text that begins with a blank that isn't before a colon, as that before a memory operand is
abbrev pub blank_goes_on : List ℕ → Bool
blank_goes_on [] = false
blank_goes_on (b ∷ bs) = nat_eq b 32 && not (begins_colon bs)

-- what may follow an operand
pub record Follows (text : List ℕ) : Type 0 where
  pub digits : Stops is_digit text
  pub bare : Stops is_bare text
  pub space : blank_goes_on text ≡ false

same_lead : (o p : Operand) (r s : List ℕ) → IsUse o → IsUse p → operand_text o ++ r ≡ operand_text p ++ s → lead_of o ≡ lead_of p
same_lead o p r s is others e = sym (lead_is o r is) ∙ (ap lead e ∙ lead_is p s others)

implicits : (m n : ℕ) (r s : List ℕ) → operand_text (ImplicitDef m) ++ r ≡ operand_text (ImplicitUse n) ++ s → ⊥
implicits m n r s e =
    apart 45 32 (codes "def " ++ (register_text m ++ r)) (register_text n ++ s) refl
    (front_one (codes "implicit") (codes "-def " ++ (register_text m ++ r)) (codes " " ++ (register_text n ++ s)) e)

as_slots : {r s : List ℕ} (m n : ℕ) → (m ≡ n) × (r ≡ s) → (Slot m ≡ Slot n) × (r ≡ s)
as_slots m n found = (ap Slot found.0, found.1)

-- ---- halves of addresses

-- a text that begins with a blank and no colon is none that doesn't
no_blank : (s t : List ℕ) → blank_goes_on s ≡ false → begins_colon t ≡ false → s ≡ 32 ∷ t → ⊥
no_blank s t stop none e = let bad : false ≡ true = sym stop ∙ (ap blank_goes_on e ∙ ap not none) in cc

halves_apart : (r s : List ℕ) → half_text Upper ++ r ≡ half_text Lower ++ s → ⊥
halves_apart r s e =
    apart 104 108 (codes "i) " ++ r) (codes "o) " ++ s) refl (front_one (codes "target-flags(riscv-") (codes "hi) " ++ r) (codes "lo) " ++ s) e)

half_one : (h k : Half) (r s : List ℕ) → half_text h ++ r ≡ half_text k ++ s → (h ≡ k) × (r ≡ s)
half_one Upper Upper r s e = (refl, front_one (half_text Upper) r s e)
half_one Lower Lower r s e = (refl, front_one (half_text Lower) r s e)
half_one Upper Lower r s e = absurd (halves_apart r s e)
half_one Lower Upper r s e = absurd (halves_apart s r (sym e))

addend_stops : (p : ℕ → Bool) (i : ℤ) (r : List ℕ) → p 32 ≡ false → Stops p r → Stops p (addend_text i ++ r)
addend_stops p (pos zero) r blank stop = stop
addend_stops p (pos (suc n)) r blank stop = blank
addend_stops p (negsuc n) r blank stop = blank

positive : (n : ℕ) → IsSigned (pos n) → n < 2 ^ 64
positive n small = omega (arith, small)

negative : (n : ℕ) → IsSigned (negsuc n) → suc n < 2 ^ 64
negative n small = omega (arith, small)

addend_one : (i j : ℤ) (r s : List ℕ) → IsSigned i → IsSigned j → Follows r → Follows s → addend_text i ++ r ≡ addend_text j ++ s → (i ≡ j) × (r ≡ s)
addend_one (pos zero) (pos zero) r s small other follow follows e = (refl, e)
addend_one (pos zero) (pos (suc n)) r s small other follow follows e = absurd (no_blank r (codes "+ " ++ (decimal (suc n) ++ s)) follow.space refl e)
addend_one (pos zero) (negsuc n) r s small other follow follows e = absurd (no_blank r (codes "- " ++ (decimal (suc n) ++ s)) follow.space refl e)
addend_one (pos (suc m)) (pos zero) r s small other follow follows e =
    absurd (no_blank s (codes "+ " ++ (decimal (suc m) ++ r)) follows.space refl (sym e))
addend_one (negsuc m) (pos zero) r s small other follow follows e =
    absurd (no_blank s (codes "- " ++ (decimal (suc m) ++ r)) follows.space refl (sym e))
addend_one (pos (suc m)) (pos (suc n)) r s small other follow follows e =
    let tails = front_one (codes " + ") (decimal (suc m) ++ r) (decimal (suc n) ++ s) e in
    let found = decimal_one (suc m) (suc n) r s (positive (suc m) small) (positive (suc n) other) follow.digits follows.digits tails in
    (ap pos found.0, found.1)
addend_one (negsuc m) (negsuc n) r s small other follow follows e =
    let tails = front_one (codes " - ") (decimal (suc m) ++ r) (decimal (suc n) ++ s) e in
    let found = decimal_one (suc m) (suc n) r s (negative m small) (negative n other) follow.digits follows.digits tails in
    let same : m ≡ n = omega (arith, found.0) in
    (ap negsuc same, found.1)
addend_one (pos (suc m)) (negsuc n) r s small other follow follows e =
    absurd (apart 43 45 (codes " " ++ (decimal (suc m) ++ r)) (codes " " ++ (decimal (suc n) ++ s)) refl
    (front_one (codes " ") (codes "+ " ++ (decimal (suc m) ++ r)) (codes "- " ++ (decimal (suc n) ++ s)) e))
addend_one (negsuc m) (pos (suc n)) r s small other follow follows e =
    absurd (apart 45 43 (codes " " ++ (decimal (suc m) ++ r)) (codes " " ++ (decimal (suc n) ++ s)) refl
    (front_one (codes " ") (codes "- " ++ (decimal (suc m) ++ r)) (codes "+ " ++ (decimal (suc n) ++ s)) e))

linked_symbol_one : (a b : Linked) (r s : List ℕ) → HasSymbolNumber a → HasSymbolNumber b → Stops is_bare r → Stops is_bare s → Stops is_digit r →
    Stops is_digit s → linked_symbol_text a ++ r ≡ linked_symbol_text b ++ s → (a ≡ b) × (r ≡ s)
linked_symbol_one (Global a) (Global b) r s small other bare bares digit digits e =
    let found = symbol_one a b r s bare bares e in (ap Global found.0, found.1)
linked_symbol_one (PoolConstant m) (PoolConstant n) r s small other bare bares digit digits e =
    let tails = front_one (codes "%const.") (decimal m ++ r) (decimal n ++ s) e in
    let found = number_one m n r s small other digit digits tails in (ap PoolConstant found.0, found.1)
linked_symbol_one (Global a) (PoolConstant n) r s small other bare bares digit digits e =
    absurd (apart 64 37 _ (codes "const." ++ (decimal n ++ s)) refl e)
linked_symbol_one (PoolConstant m) (Global b) r s small other bare bares digit digits e =
    absurd (apart 37 64 (codes "const." ++ (decimal m ++ r)) _ refl e)

address_one : (y z : LinkedAddress) (r s : List ℕ) → HasAddressNumbers y → HasAddressNumbers z → Follows r → Follows s →
    linked_symbol_text y.symbol ++ (addend_text y.addend ++ r) ≡ linked_symbol_text z.symbol ++ (addend_text z.addend ++ s) → (y ≡ z) × (r ≡ s)
address_one y z r s small other follow follows e =
    let symbols = linked_symbol_one y.symbol z.symbol (addend_text y.addend ++ r) (addend_text z.addend ++ s) small.symbol other.symbol
    (addend_stops is_bare y.addend r refl follow.bare) (addend_stops is_bare z.addend s refl follows.bare)
    (addend_stops is_digit y.addend r refl follow.digits) (addend_stops is_digit z.addend s refl follows.digits) e in
    let addends = addend_one y.addend z.addend r s small.addend other.addend follow follows symbols.1 in
    (λ i. record { symbol = symbols.0 i; addend = addends.0 i }, addends.1)

part_one : (h k : Half) (y z : LinkedAddress) (r s : List ℕ) → HasAddressNumbers y → HasAddressNumbers z → Follows r → Follows s →
    part_text h y ++ r ≡ part_text k z ++ s → (Part h y ≡ Part k z) × (r ≡ s)
part_one h k y z r s small other follow follows e =
    let grouped : (g : Half) (x : LinkedAddress) (t : List ℕ) →
    part_text g x ++ t ≡ half_text g ++ (linked_symbol_text x.symbol ++ (addend_text x.addend ++ t)) = λ g x t. simp append_assoc in
    let halves = half_one h k _ _ (sym (grouped h y r) ∙ e ∙ grouped k z s) in
    let found = address_one y z r s small other follow follows halves.1 in
    (λ i. Part (halves.0 i) (found.0 i), found.1)

-- a text stands for one operand, but that a slot and an object print alike
pub operand_one : (o p : Operand) (r s : List ℕ) → IsUse o → IsUse p → Follows r → Follows s →
    operand_text o ++ r ≡ operand_text p ++ s → (as_slot o ≡ as_slot p) × (r ≡ s)
operand_one (Use m) (Use n) r s is others follow follows e =
    let found = register_one m n r s is.1 others.1 follow.digits follows.digits e in (ap Use found.0, found.1)
operand_one (ImplicitDef m) (ImplicitDef n) r s is others follow follows e =
    let tails : register_text m ++ r ≡ register_text n ++ s = cc in
    let found = register_one m n r s is.1 others.1 follow.digits follows.digits tails in (ap ImplicitDef found.0, found.1)
operand_one (ImplicitUse m) (ImplicitUse n) r s is others follow follows e =
    let tails : register_text m ++ r ≡ register_text n ++ s = cc in
    let found = register_one m n r s is.1 others.1 follow.digits follows.digits tails in (ap ImplicitUse found.0, found.1)
operand_one (Imm i) (Imm j) r s is others follow follows e =
    let found = signed_one i j r s is.1 others.1 follow.digits follows.digits e in (ap Imm found.0, found.1)
operand_one (Slot m) (Slot n) r s is others follow follows e =
    let tails : decimal m ++ r ≡ decimal n ++ s = cc in as_slots m n (number_one m n r s is.1 others.1 follow.digits follows.digits tails)
operand_one (Object m) (Object n) r s is others follow follows e =
    as_slots m n (object_cases (nat_le FIXED m) (nat_le FIXED n) m n r s refl refl is.1 others.1 follow.digits follows.digits e)
operand_one (Slot m) (Object n) r s is others follow follows e =
    as_slots m n (slot_cases (nat_le FIXED n) m n r s is.1 others.1 follow.digits follows.digits e)
operand_one (Object m) (Slot n) r s is others follow follows e =
    let found = slot_cases (nat_le FIXED m) n m s r others.1 is.1 follows.digits follow.digits (sym e) in as_slots m n (sym found.0, sym found.1)
operand_one (Block m) (Block n) r s is others follow follows e =
    let tails : decimal m ++ r ≡ decimal n ++ s = cc in
    let found = number_one m n r s is.1 others.1 follow.digits follows.digits tails in (ap Block found.0, found.1)
operand_one (Part h y) (Part k z) r s is others follow follows e = part_one h k y z r s is.1 others.1 follow follows e
operand_one (Outgoing m) (Outgoing n) r s is others follow follows e =
    let grouped : (k : ℕ) (t : List ℕ) → operand_text (Outgoing k) ++ t ≡ codes "outgoing(" ++ (decimal k ++ (codes ")" ++ t)) = λ k t. simp append_assoc in
    let tails = front_one (codes "outgoing(") _ _ (sym (grouped m r) ∙ e ∙ grouped n s) in
    let found = number_one m n (codes ")" ++ r) (codes ")" ++ s) is.1 others.1 refl refl tails in
    (ap Outgoing found.0, front_one (codes ")") r s found.1)
operand_one (Symbol a) (Symbol b) r s is others follow follows e =
    let found = symbol_one a b r s follow.bare follows.bare e in (ap Symbol found.0, found.1)
operand_one Mask Mask r s is others follow follows e = (refl, (let tails : r ≡ s = cc in tails))
operand_one GlobalRegisters GlobalRegisters r s is others follow follows e = (refl, (let tails : r ≡ s = cc in tails))
operand_one (ImplicitDef m) (ImplicitUse n) r s is others follow follows e = absurd (implicits m n r s e)
operand_one (ImplicitUse m) (ImplicitDef n) r s is others follow follows e = absurd (implicits n m s r (sym e))
operand_one o p r s is others follow follows e =
    let lead : lead_of o ≡ lead_of p = same_lead o p r s is others e in
    let no : is_definition o ≡ false = is.0 in
    let none : is_definition p ≡ false = others.0 in
    absurd cc

-- ---- operands with commas between them

abbrev pub AllUses : List Operand → Type 0
AllUses [] = Unit {0}
AllUses (o ∷ os) = IsUse o × AllUses os

-- operands that go on a list, before a text
abbrev pub rest_text : List Operand → List ℕ → List ℕ
rest_text [] tail = tail
rest_text (o ∷ os) tail = codes ", " ++ (operand_text o ++ rest_text os tail)

commas : (o : Operand) (os : List Operand) (tail : List ℕ) → comma_separated (map operand_text (o ∷ os)) ++ tail ≡ operand_text o ++ rest_text os tail
commas o [] tail = refl
commas o (p ∷ os) tail =
    let grouped : comma_separated (map operand_text (o ∷ p ∷ os)) ++ tail ≡ operand_text o ++
    (codes ", " ++ (comma_separated (map operand_text (p ∷ os)) ++ tail)) = simp append_assoc in
    grouped ∙ ap (λ (t : List ℕ). operand_text o ++ (codes ", " ++ t)) (commas p os tail)

-- another operand comes: behind the comma and the blank no `d` stands
abbrev pub goes_on : List ℕ → Bool
goes_on [] = false
goes_on (a ∷ []) = false
goes_on (a ∷ b ∷ []) = false
goes_on (a ∷ b ∷ c ∷ bs) = nat_eq a 44 && not (nat_eq c 100)

number_goes_on : (b : ℕ) (bs : List ℕ) → 45 ≤ b → b ≤ 57 → goes_on (44 ∷ 32 ∷ b ∷ bs) ≡ true
number_goes_on b bs low high = rw (ne_eqb b 100 (λ e. omega arith)) refl

register_goes_on : (p : Bool) (n : ℕ) (r : List ℕ) → goes_on (44 ∷ 32 ∷ (register_by p n ++ r)) ≡ true
register_goes_on true n r = refl
register_goes_on false n r = refl

object_goes_on : (p : Bool) (n : ℕ) (r : List ℕ) → goes_on (44 ∷ 32 ∷ (object_by p n ++ r)) ≡ true
object_goes_on true n r = refl
object_goes_on false n r = refl

operand_goes_on : (o : Operand) (r : List ℕ) → IsUse o → goes_on (44 ∷ 32 ∷ (operand_text o ++ r)) ≡ true
operand_goes_on (Def n) r is = register_goes_on (nat_lt n 32) n r
operand_goes_on (Use n) r is = register_goes_on (nat_lt n 32) n r
operand_goes_on (Imm i) r is = let h = signed_head i r is.1 in ap (λ (t : List ℕ). goes_on (44 ∷ 32 ∷ t)) h.2 ∙ number_goes_on h.0 h.1 h.3 h.4
operand_goes_on (Object n) r is = object_goes_on (nat_le FIXED n) n r
operand_goes_on (Part Upper y) r is = refl
operand_goes_on (Part Lower y) r is = refl
operand_goes_on _ r is = refl

-- an operand doesn't begin with a colon
number_no_colon : (b : ℕ) (bs : List ℕ) → 45 ≤ b → b ≤ 57 → begins_colon (b ∷ bs) ≡ false
number_no_colon b bs low high = ne_eqb b 58 (λ e. omega arith)

register_no_colon : (p : Bool) (n : ℕ) (r : List ℕ) → begins_colon (register_by p n ++ r) ≡ false
register_no_colon true n r = refl
register_no_colon false n r = refl

object_no_colon : (p : Bool) (n : ℕ) (r : List ℕ) → begins_colon (object_by p n ++ r) ≡ false
object_no_colon true n r = refl
object_no_colon false n r = refl

operand_no_colon : (o : Operand) (r : List ℕ) → IsUse o → begins_colon (operand_text o ++ r) ≡ false
operand_no_colon (Def n) r is = register_no_colon (nat_lt n 32) n r
operand_no_colon (Use n) r is = register_no_colon (nat_lt n 32) n r
operand_no_colon (Imm i) r is = let h = signed_head i r is.1 in ap begins_colon h.2 ∙ number_no_colon h.0 h.1 h.3 h.4
operand_no_colon (Object n) r is = object_no_colon (nat_le FIXED n) n r
operand_no_colon (Part Upper y) r is = refl
operand_no_colon (Part Lower y) r is = refl
operand_no_colon _ r is = refl

-- what may follow an instruction's operands
pub record IsTail (text : List ℕ) : Type 0 where
  pub follows : Follows text
  pub ends : goes_on text ≡ false
  pub blank : blank_goes_on text ≡ false

follows_rest : (os : List Operand) (tail : List ℕ) → Follows tail → Follows (rest_text os tail)
follows_rest [] tail is = is
follows_rest (o ∷ os) tail is = record { digits = refl; bare = refl; space = refl }

ended : (o : Operand) (os : List Operand) (r s : List ℕ) → IsUse o → goes_on s ≡ false → s ≡ rest_text (o ∷ os) r → ⊥
ended o os r s is ends e =
    let both : goes_on s ≡ true = ap goes_on e ∙ operand_goes_on o (rest_text os r) is in
    absurd cc

rest_one : (os ps : List Operand) (r s : List ℕ) → AllUses os → AllUses ps → IsTail r → IsTail s → rest_text os r ≡ rest_text ps s →
    (map as_slot os ≡ map as_slot ps) × (r ≡ s)
rest_one [] [] r s all others tail tails e = (refl, e)
rest_one [] (p ∷ ps) r s all others tail tails e = absurd (ended p ps s r others.0 tail.ends e)
rest_one (o ∷ os) [] r s all others tail tails e = absurd (ended o os r s all.0 tails.ends (sym e))
rest_one (o ∷ os) (p ∷ ps) r s all others tail tails e =
    let after : operand_text o ++ rest_text os r ≡ operand_text p ++ rest_text ps s = cc in
    let first = operand_one o p (rest_text os r) (rest_text ps s) all.0 others.0 (follows_rest os r tail.follows) (follows_rest ps s tails.follows) after in
    let rest = rest_one os ps r s all.1 others.1 tail tails first.1 in
    (let head : as_slot o ≡ as_slot p = first.0 in let more : map as_slot os ≡ map as_slot ps = rest.0 in cc, rest.1)

uses_no_colon : (o : Operand) (os : List Operand) (r : List ℕ) → IsUse o → begins_colon (comma_separated (map operand_text (o ∷ os)) ++ r) ≡ false
uses_no_colon o os r is = ap begins_colon (commas o os r) ∙ operand_no_colon o (rest_text os r) is

pub uses_one : (os ps : List Operand) (r s : List ℕ) → AllUses os → AllUses ps → IsTail r → IsTail s → uses_text os ++ r ≡ uses_text ps ++ s →
    (map as_slot os ≡ map as_slot ps) × (r ≡ s)
uses_one [] [] r s all others tail tails e = (refl, e)
uses_one [] (p ∷ ps) r s all others tail tails e = absurd (no_blank r (comma_separated (map operand_text (p ∷ ps)) ++ s) tail.blank (uses_no_colon p ps s others.0) e)
uses_one (o ∷ os) [] r s all others tail tails e = absurd (no_blank s (comma_separated (map operand_text (o ∷ os)) ++ r) tails.blank (uses_no_colon o os r all.0) (sym e))
uses_one (o ∷ os) (p ∷ ps) r s all others tail tails e =
    let after : comma_separated (map operand_text (o ∷ os)) ++ r ≡ comma_separated (map operand_text (p ∷ ps)) ++ s = cc in
    let found : operand_text o ++ rest_text os r ≡ operand_text p ++ rest_text ps s = sym (commas o os r) ∙ (after ∙ commas p ps s) in
    rest_one (o ∷ os) (p ∷ ps) r s all others tail tails (ap (λ (t : List ℕ). codes ", " ++ t) found)
