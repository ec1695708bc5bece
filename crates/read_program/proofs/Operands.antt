-- What the operands of a line of code give: operands of these numbers, none of which is the stack pointer, and which name no stack entry but those of the line.
use Rattle.std.proofs.Common.{◌≡◌, ℕ, ℤ, pos, ◌+◌, ◌<◌, ◌≤◌, Bool, true, false, cond, eqb, ltb, List, [], ◌∷◌, ◌++◌, All, Option, Some, None, refl, sym}
use Rattle.std.proofs.Common.{◌-◌, leb, ap, subst, ◌∙◌, arith}
use Rattle.std.specs.List.{list_any, cons_option}
use Rattle.std.specs.Prelude.{min, unwrap_or}
use Rattle.std.proofs.lemmas.Bool.{or_parts, leb-true, leb-false, le-leb, lt-leb, ltb-true, eqb-false, or_left, or_right, eq-eqb}
use Rattle.std.proofs.lemmas.List.Elements.{All-nil, All-cons, All-append, All-weaker}
use Rattle.rv64_instr.specs.declared.op.Op.{Op}
use Rattle.rv64_instr.specs.declared.operand.Operand.{Operand}
use Rattle.rv64_instr.specs.declared.operand.Operand.TheVariants.{Def, Use, ImplicitDef, ImplicitUse, Imm, Slot, Object, Part, Outgoing, Block, Symbol, Mask}
use Rattle.rv64_instr.specs.declared.operand.Operand.TheVariants.{GlobalRegisters}
use Rattle.rv64_instr.specs.declared.symbol.Half.{Half}
use Rattle.rv64_instr.specs.declared.symbol.Symbol.{Symbol as Linked}
use Rattle.rv64_instr.specs.declared.symbol.Symbol.TheVariants.{Global, Constant as PoolConstant}
use Rattle.mir_func.specs.Sound.{IsNotPointer}
use Rattle.base_ids.specs.Limits.{MAX_NUMBER, FIXED, text_number}
use Rattle.read_token.specs.declared.lexeme.Flag.{Flag}
use Rattle.read_token.specs.declared.lexeme.Flag.TheVariants as flags
use Rattle.read_token.specs.declared.lexeme.RegisterName.{RegisterName}
use Rattle.read_token.specs.declared.lexeme.RegisterName.TheVariants.{Physical, Absent, Other, Virtual}
use Rattle.read_token.specs.Number.{BEYOND}
use Rattle.read_line.specs.declared.form.ItemForm.{ItemForm}
use Rattle.read_line.specs.declared.form.OperandForm.{OperandForm}
use Rattle.read_line.specs.declared.form.OperandForm.TheVariants as form
use Rattle.read_line.specs.declared.form.RegisterForm.{RegisterForm}
use Rattle.read_line.specs.Exceeds.{is_beyond, symbol_exceeds, operand_exceeds}
use Rattle.read_item.specs.declared.place.OperandKind.{OperandKind}
use Rattle.read_item.specs.declared.place.OperandKind.TheVariants as place
use Rattle.read_item.specs.Place.{front, behind}
use Rattle.read_item.specs.Code.{STAND_IN, VIRTUALS, virtual_operand}
use Rattle.read_item.specs.Code.{number_of, used, stand_in, stack_operand, fixed_number, fixed_operand, number_operand, half_operand, operand_at, before}
use Rattle.read_item.specs.Code.{joined, set_by, definition}
use Rattle.read_item.specs.Code.{definitions, placed, called, callee_register, callee_operand, placed_behind_callee, has_implicit_callee, placed_by}
use Rattle.read_item.specs.Code.{places_of, operands_of, is_named, is_pointer, is_pointer_operand}
use Rattle.read_item.specs.Judge.{entry_of, entries_of}
use Rattle.read_body.specs.FirstUseOrder.{is_met}
use Rattle.read_program.specs.Limited.{SymbolIsLimited, AddressIsLimited, IsLimited, IsOperandOf}
use Rattle.read_program.proofs.Lexemes.{NameFits}
use Rattle.read_program.proofs.Lists.{both}
use Rattle.read_program.proofs.Addends.{AddendFits}
use Rattle.read_program.proofs.Forms.{AllOf, FormFits, RegisterFits, IntegerFits}

-- the stack entries and fixed objects that an operand names are among these, and it isn't a slot that is passed
abbrev pub NamesAmong : List ℕ → Operand → Type 0
NamesAmong entries (Slot n) = (n ≤ MAX_NUMBER) × (is_met n entries ≡ true)
NamesAmong entries (Object n) = is_met n entries ≡ true
NamesAmong entries (Outgoing n) = ⊥
NamesAmong entries GlobalRegisters = ⊥
NamesAmong entries o = Unit {0}

-- the numbers of an operand that was read, and that it is of the language
abbrev pub IsLimitedIn : (linked : Bool) → Operand → Type 0
IsLimitedIn linked (Part half y) = (linked ≡ true) × AddressIsLimited y
IsLimitedIn linked (Object n) = (FIXED ≤ n → linked ≡ true) × (text_number n ≤ MAX_NUMBER)
IsLimitedIn linked o = IsLimited o

pub limited_in : (linked : Bool) (o : Operand) → IsLimitedIn linked o → IsLimited o
limited_in linked (Part half y) is = is.1
limited_in linked (Object n) is = is.1
limited_in linked o is = is

pub language_in : (linked : Bool) (o : Operand) → IsLimitedIn linked o → IsOperandOf linked o
language_in linked (Part half y) is = is.0
language_in linked (Object n) is = is.0
language_in linked o is = tt

pub in_language : (linked : Bool) (o : Operand) → IsLimited o × IsOperandOf linked o → IsLimitedIn linked o
in_language linked (Part half y) is = (is.1, is.0)
in_language linked (Object n) is = (is.1, is.0)
in_language linked o is = is.0

-- ---- the numbers of stack entries and of fixed objects

-- a small number is that of a stack entry
pub small_text : (n : ℕ) → n ≤ MAX_NUMBER → text_number n ≤ MAX_NUMBER
small_text n small =
    subst (λ (k : ℕ). k ≤ MAX_NUMBER) (sym (ap (λ (b : Bool). cond b (n - FIXED) n) (lt-leb FIXED n (omega (arith, small))))) small

-- a number from FIXED on is that of a fixed object
pub great_text : (n : ℕ) → FIXED ≤ n → n ≤ FIXED + MAX_NUMBER → text_number n ≤ MAX_NUMBER
great_text n great small =
    subst (λ (k : ℕ). k ≤ MAX_NUMBER) (sym (ap (λ (b : Bool). cond b (n - FIXED) n) (le-leb FIXED n great))) (omega (arith, small))

-- each is one of them
pub data IsEntryNumber (n : ℕ) : Type 0 where
  of_entry : n ≤ MAX_NUMBER → IsEntryNumber n
  of_fixed : FIXED ≤ n → n ≤ FIXED + MAX_NUMBER → IsEntryNumber n

pub entry_number : (n : ℕ) → text_number n ≤ MAX_NUMBER → IsEntryNumber n
entry_number n low = by (leb FIXED n) refl low where
  by : (b : Bool) → leb FIXED n ≡ b → cond b (n - FIXED) n ≤ MAX_NUMBER → IsEntryNumber n
  by true great small = of_fixed (leb-true FIXED n great) (omega (arith, small))
  by false less small = of_entry small

pub small_entry : (linked : Bool) (n : ℕ) → n ≤ MAX_NUMBER → IsLimitedIn linked (Object n)
small_entry linked n small = (λ great. absurd (omega (arith, small, great)), small_text n small)

-- elsewhere than in the linked language, code isn't volatile
pub not_volatile : (volatile : Bool) → (volatile ≡ true → false ≡ true) → volatile ≡ false
not_volatile true h = sym (h refl)
not_volatile false h = refl

pub all_in_language : (linked : Bool) (os : List Operand) → All IsLimited os → All (IsOperandOf linked) os → All (IsLimitedIn linked) os
all_in_language linked os small language =
    All-weaker (λ o. IsLimited o × IsOperandOf linked o) (IsLimitedIn linked) (in_language linked) os (both IsLimited (IsOperandOf linked) os small language)

-- an operand as it was read
pub record IsReadOperand (linked : Bool) (entries : List ℕ) (o : Operand) : Type 0 where
  pub limited : IsLimitedIn linked o
  pub pointer : IsNotPointer o
  pub named : NamesAmong entries o

-- an operand's form, where its line isn't refused
pub record IsReadForm (linked : Bool) (entries : List ℕ) (o : OperandForm) : Type 0 where
  pub fits : FormFits linked o
  pub within : operand_exceeds o ≡ false
  pub pointer : is_pointer_operand o ≡ false
  pub named : (n : ℕ) → entry_of o ≡ Some n → is_met n entries ≡ true

-- ---- registers

-- an implicit register is physical
abbrev pub RegisterIsLimited : Flag → ℕ → Type 0
RegisterIsLimited flags.Plain r = r < 4128
RegisterIsLimited flags.Implicit r = r < 32
RegisterIsLimited flags.ImplicitDef r = r < 32

pub physical_limited : (flag : Flag) (r : ℕ) → r < 32 → RegisterIsLimited flag r
physical_limited flags.Plain r small = omega (arith, small)
physical_limited flags.Implicit r small = small
physical_limited flags.ImplicitDef r small = small

virtual_limited : (flag : Flag) (n : ℕ) → RegisterIsLimited flag (virtual_operand flag n)
virtual_limited flags.Plain n = by (ltb n VIRTUALS) refl where
  by : (b : Bool) → ltb n VIRTUALS ≡ b → unwrap_or (cond b (Some (32 + n)) None) STAND_IN < 4128
  by true is = let small = ltb-true n VIRTUALS is in omega (arith, small)
  by false is = omega arith
virtual_limited flags.Implicit n = omega arith
virtual_limited flags.ImplicitDef n = omega arith

virtual_other : (n : ℕ) → virtual_operand flags.Plain n ≡ 2 → ⊥
virtual_other n = by (ltb n VIRTUALS) where
  by : (b : Bool) → unwrap_or (cond b (Some (32 + n)) None) STAND_IN ≡ 2 → ⊥
  by true e = omega (arith, e)
  by false e = omega (arith, e)

number_fits : (flag : Flag) (name : RegisterName) (r : ℕ) → NameFits name → number_of flag name ≡ Some r → RegisterIsLimited flag r
number_fits flag (Physical n) r fits e = let same : n ≡ r = cc in subst (RegisterIsLimited flag) same (physical_limited flag n fits)
number_fits flag Absent r fits e = absurd cc
number_fits flag Other r fits e = absurd cc
number_fits flag (Virtual n) r fits e = let same : virtual_operand flag n ≡ r = cc in subst (RegisterIsLimited flag) same (virtual_limited flag n)

-- a plain register isn't x2
plain_other : (name : RegisterName) (r : ℕ) → is_named flags.Plain name 2 ≡ false → number_of flags.Plain name ≡ Some r → r ≡ 2 → ⊥
plain_other (Physical n) r other e two = let same : n ≡ r = cc in eqb-false n 2 other (same ∙ two)
plain_other Absent r other e two = cc
plain_other Other r other e two = cc
plain_other (Virtual n) r other e two = let same : virtual_operand flags.Plain n ≡ r = cc in virtual_other n (same ∙ two)

set_reads : (linked : Bool) (entries : List ℕ) (flag : Flag) (name : RegisterName) (number : Option ℕ) → number_of flag name ≡ number → (o : Operand) →
    NameFits name → is_named flag name 2 ≡ false → set_by flag number ≡ Some o → IsReadOperand linked entries o
set_reads linked entries flags.Plain name (Some r) is o fits other e =
    let same : Def r ≡ o = cc in
    subst (IsReadOperand linked entries) same (record { limited = number_fits flags.Plain name r fits is; pointer = plain_other name r other is; named = tt })
set_reads linked entries flags.Plain name None is o fits other e = absurd cc
set_reads linked entries flags.Implicit name number is o fits other e = absurd cc
set_reads linked entries flags.ImplicitDef name number is o fits other e = absurd cc

used_reads : (linked : Bool) (entries : List ℕ) (flag : Flag) (name : RegisterName) (number : Option ℕ) → number_of flag name ≡ number → (o : Operand) →
    NameFits name → is_named flag name 2 ≡ false → used flag number ≡ Some o → IsReadOperand linked entries o
used_reads linked entries flag name None is o fits other e = absurd cc
used_reads linked entries flags.Plain name (Some r) is o fits other e =
    let same : Use r ≡ o = cc in
    subst (IsReadOperand linked entries) same (record { limited = number_fits flags.Plain name r fits is; pointer = plain_other name r other is; named = tt })
used_reads linked entries flags.Implicit name (Some r) is o fits other e =
    let same : ImplicitUse r ≡ o = cc in
    subst (IsReadOperand linked entries) same (record { limited = number_fits flags.Implicit name r fits is; pointer = tt; named = tt })
used_reads linked entries flags.ImplicitDef name (Some r) is o fits other e =
    let same : ImplicitDef r ≡ o = cc in
    subst (IsReadOperand linked entries) same (record { limited = number_fits flags.ImplicitDef name r fits is; pointer = tt; named = tt })

-- ---- the operand in a place

reads : (linked : Bool) (entries : List ℕ) (o x : Operand) → Some x ≡ Some o → IsReadOperand linked entries x → IsReadOperand linked entries o
reads linked entries o x e is = let same : x ≡ o = cc in subst (IsReadOperand linked entries) same is

pub within_limit : (n : ℕ) → is_beyond n ≡ false → n ≤ MAX_NUMBER
within_limit n e = let below = leb-false BEYOND n e in omega (arith, below)

stand_in_reads : (linked : Bool) (entries : List ℕ) (p : OperandKind) (o : Operand) → stand_in p ≡ Some o → IsReadOperand linked entries o
stand_in_reads linked entries place.Object o e =
    reads linked entries o (Use 10) e (record { limited = omega arith; pointer = λ two. omega (arith, two); named = tt })
stand_in_reads linked entries place.Slot o e =
    reads linked entries o (Use 10) e (record { limited = omega arith; pointer = λ two. omega (arith, two); named = tt })
stand_in_reads linked entries place.Register o e =
    reads linked entries o (Use 10) e (record { limited = omega arith; pointer = λ two. omega (arith, two); named = tt })
stand_in_reads linked entries place.Number o e = reads linked entries o (Imm (pos 0)) e (record { limited = omega arith; pointer = tt; named = tt })
stand_in_reads linked entries place.Block o e = reads linked entries o (Block 0) e (record { limited = omega arith; pointer = tt; named = tt })
stand_in_reads linked entries place.Symbol o e = reads linked entries o (Symbol []) e (record { limited = tt; pointer = tt; named = tt })
stand_in_reads linked entries place.Mask o e = reads linked entries o Mask e (record { limited = tt; pointer = tt; named = tt })
stand_in_reads linked entries place.Implicit o e = absurd cc

stack_reads : (linked : Bool) (entries : List ℕ) (p : OperandKind) (n : ℕ) (o : Operand) → n ≤ MAX_NUMBER → is_met n entries ≡ true →
    stack_operand p n ≡ Some o →
    IsReadOperand linked entries o
stack_reads linked entries place.Object n o small met e =
    reads linked entries o (Object n) e (record { limited = small_entry linked n small; pointer = tt; named = met })
stack_reads linked entries place.Slot n o small met e = reads linked entries o (Slot n) e (record { limited = small; pointer = tt; named = (small, met) })
stack_reads linked entries place.Register n o small met e = reads linked entries o (Use 10) e (record {
  limited = omega arith;
  pointer = λ two. omega
      (arith, two);
  named = tt;
})
stack_reads linked entries place.Number n o small met e = reads linked entries o (Imm (pos 0)) e (record { limited = omega arith; pointer = tt; named = tt })
stack_reads linked entries place.Block n o small met e = reads linked entries o (Block 0) e (record { limited = omega arith; pointer = tt; named = tt })
stack_reads linked entries place.Symbol n o small met e = reads linked entries o (Symbol []) e (record { limited = tt; pointer = tt; named = tt })
stack_reads linked entries place.Mask n o small met e = reads linked entries o Mask e (record { limited = tt; pointer = tt; named = tt })
stack_reads linked entries place.Implicit n o small met e = absurd cc

-- a fixed object at an address, and what stands in for one elsewhere
fixed_is : (linked : Bool) (entries : List ℕ) (n : ℕ) (o : Operand) → linked ≡ true → is_met (fixed_number n) entries ≡ true →
    Some (Object (fixed_number n)) ≡ Some o → IsReadOperand linked entries o
fixed_is linked entries n o is met e =
    let small : min n MAX_NUMBER ≤ MAX_NUMBER = omega arith in
    reads linked entries o (Object (fixed_number n)) e (record {
      limited = (λ great. is, great_text (fixed_number n) (omega arith) (omega (arith, small)));
      pointer = tt;
      named = met;
    })

fixed_reads : (linked : Bool) (entries : List ℕ) (p : OperandKind) (n : ℕ) (o : Operand) → linked ≡ true → is_met (fixed_number n) entries ≡ true →
    fixed_operand p n ≡ Some o → IsReadOperand linked entries o
fixed_reads linked entries place.Object n o is met e = fixed_is linked entries n o is met e
fixed_reads linked entries place.Slot n o is met e = fixed_is linked entries n o is met e
fixed_reads linked entries place.Register n o is met e = stand_in_reads linked entries place.Register o e
fixed_reads linked entries place.Number n o is met e = stand_in_reads linked entries place.Number o e
fixed_reads linked entries place.Block n o is met e = stand_in_reads linked entries place.Block o e
fixed_reads linked entries place.Symbol n o is met e = stand_in_reads linked entries place.Symbol o e
fixed_reads linked entries place.Mask n o is met e = stand_in_reads linked entries place.Mask o e
fixed_reads linked entries place.Implicit n o is met e = stand_in_reads linked entries place.Implicit o e

symbol_limited : (symbol : Linked) → symbol_exceeds symbol ≡ false → SymbolIsLimited symbol
symbol_limited (Global name) within = tt
symbol_limited (PoolConstant n) within = within_limit n within

half_reads : (linked : Bool) (entries : List ℕ) (half : Half) (symbol : Linked) (addend : Option ℤ) (o : Operand) → (linked ≡ true) × AddendFits addend →
    symbol_exceeds symbol ≡ false → half_operand half symbol addend ≡ Some o → IsReadOperand linked entries o
half_reads linked entries half symbol None o fits within e = absurd cc
half_reads linked entries half symbol (Some i) o fits within e =
    reads linked entries o (Part half (record { symbol = symbol; addend = i })) e
    (record { limited = (fits.0, record { symbol = symbol_limited symbol within; addend = fits.1 }); pointer = tt; named = tt })

number_reads : (linked : Bool) (entries : List ℕ) (i : Option ℤ) (o : Operand) → IntegerFits i → number_operand i ≡ Some o → IsReadOperand linked entries o
number_reads linked entries None o fits e = absurd cc
number_reads linked entries (Some i) o fits e = reads linked entries o (Imm i) e (record { limited = fits; pointer = tt; named = tt })

operand_reads : (linked : Bool) (entries : List ℕ) (p : OperandKind) (f : OperandForm) (o : Operand) → IsReadForm linked entries f →
    operand_at p f ≡ Some o → IsReadOperand linked entries o
operand_reads linked entries p (form.Register r) o is e = used_reads linked entries r.flag r.name (number_of r.flag r.name) refl o is.fits is.pointer e
operand_reads linked entries p (form.Integer i) o is e = number_reads linked entries i o is.fits e
operand_reads linked entries p (form.Slot n) o is e = stack_reads linked entries p n o (within_limit n is.within) (is.named n refl) e
operand_reads linked entries p (form.Fixed n) o is e = fixed_reads linked entries p n o is.fits (is.named (fixed_number n) refl) e
operand_reads linked entries p (form.Part half a) o is e = half_reads linked entries half a.symbol a.addend o is.fits is.within e
operand_reads linked entries p (form.Address a) o is e = absurd cc
operand_reads linked entries p form.Literal o is e = absurd cc
operand_reads linked entries p (form.Block n) o is e = reads linked entries o (Block n) e (record {
  limited = within_limit n is.within;
  pointer =
      tt;
  named = tt;
})
operand_reads linked entries p (form.Symbol name) o is e = reads linked entries o (Symbol name) e (record { limited = tt; pointer = tt; named = tt })
operand_reads linked entries p form.Mask o is e = reads linked entries o Mask e (record { limited = tt; pointer = tt; named = tt })
operand_reads linked entries p (form.Node n) o is e = absurd cc
operand_reads linked entries p (form.Expression x) o is e = absurd cc
operand_reads linked entries p (form.Reference r) o is e = absurd cc

-- ---- all operands

before_reads : (linked : Bool) (entries : List ℕ) (o : Option Operand) (rest : Option (List Operand)) (xs : List Operand) → before o rest ≡ Some xs →
    ((x : Operand) → o ≡ Some x → IsReadOperand linked entries x) → ((ys : List Operand) → rest ≡ Some ys → All (IsReadOperand linked entries) ys) →
    All (IsReadOperand linked entries) xs
before_reads linked entries None rest xs e first more = absurd cc
before_reads linked entries (Some o) None xs e first more = absurd cc
before_reads linked entries (Some o) (Some ys) xs e first more =
    let same : o ∷ ys ≡ xs = cc in subst (All (IsReadOperand linked entries)) same (All-cons (IsReadOperand linked entries) o ys (first o refl) (more ys refl))

pub definitions_read : (linked : Bool) (entries : List ℕ) (rs : List RegisterForm) (xs : List Operand) → AllOf RegisterFits rs →
    list_any is_pointer rs ≡ false →
    definitions rs ≡ Some xs → All (IsReadOperand linked entries) xs
unfolding definitions
definitions_read linked entries [] xs fits others e = let none : List Operand = [] in let same : none ≡ xs =
    cc in subst (All (IsReadOperand linked entries)) same
    (All-nil (IsReadOperand linked entries))
definitions_read linked entries (r ∷ rs) xs fits others e =
    let parts = or_parts (is_pointer r) (list_any is_pointer rs) others in
    before_reads linked entries (definition r) (definitions rs) xs e
    (λ x is. set_reads linked entries r.flag r.name (number_of r.flag r.name) refl x fits.0 parts.0 is)
    (λ ys is. definitions_read linked entries rs ys fits.1 parts.1 is)

pub placed_read : (linked : Bool) (entries : List ℕ) (ps : List OperandKind) (os : List OperandForm) (xs : List Operand) →
    AllOf (IsReadForm linked entries) os → placed ps os ≡ Some xs →
    All (IsReadOperand linked entries) xs
unfolding placed
placed_read linked entries ps [] xs is e = let none : List Operand = [] in let same : none ≡ xs = cc in subst (All (IsReadOperand linked entries)) same (All-nil
    (IsReadOperand linked entries))
placed_read linked entries ps (o ∷ os) xs is e =
    before_reads linked entries (operand_at (front ps) o) (placed (behind ps) os) xs e (λ x from. operand_reads linked entries (front ps) o x is.0 from)
    (λ ys from. placed_read linked entries (behind ps) os ys is.1 from)

-- ---- the register of a call by a register

called_reads : (linked : Bool) (entries : List ℕ) (name : RegisterName) (number : Option ℕ) → number_of flags.Implicit name ≡ number → (o : Operand) →
    NameFits name → called number ≡ Some o → IsReadOperand linked entries o
called_reads linked entries name None is o fits e = absurd cc
called_reads linked entries name (Some r) is o fits e = by (eqb r 2) e where
  by : (b : Bool) → Some (ImplicitUse (cond b 10 r)) ≡ Some o → IsReadOperand linked entries o
  by true e = reads linked entries o (ImplicitUse 10) e (record { limited = omega arith; pointer = tt; named = tt })
  by false e = reads linked entries o (ImplicitUse r) e (record { limited = number_fits flags.Implicit name r fits is; pointer = tt; named = tt })

callee_register_reads : (linked : Bool) (entries : List ℕ) (flag : Flag) (name : RegisterName) (o : Operand) → NameFits name →
    callee_register flag name ≡ Some o → IsReadOperand linked entries o
callee_register_reads linked entries flags.Plain name o fits e = called_reads linked entries name (number_of flags.Implicit name) refl o fits e
callee_register_reads linked entries flags.Implicit name o fits e = absurd cc
callee_register_reads linked entries flags.ImplicitDef name o fits e = absurd cc

callee_reads : (linked : Bool) (entries : List ℕ) (f : OperandForm) (o : Operand) → IsReadForm linked entries f → callee_operand f ≡ Some o →
    IsReadOperand linked entries o
callee_reads linked entries (form.Register r) o is e = callee_register_reads linked entries r.flag r.name o is.fits e
callee_reads linked entries (form.Slot n) o is e =
    reads linked entries o (ImplicitUse 10) e (record { limited = omega arith; pointer = tt; named = tt })
callee_reads linked entries (form.Fixed n) o is e =
    reads linked entries o (ImplicitUse 10) e (record { limited = omega arith; pointer = tt; named = tt })
callee_reads linked entries f o is e = absurd cc

behind_callee_read : (linked : Bool) (entries : List ℕ) (ps : List OperandKind) (os : List OperandForm) (xs : List Operand) →
    AllOf (IsReadForm linked entries) os → placed_behind_callee ps os ≡ Some xs → All (IsReadOperand linked entries) xs
behind_callee_read linked entries ps [] xs is e =
    let none : List Operand = [] in
    let same : none ≡ xs = cc in subst (All (IsReadOperand linked entries)) same (All-nil (IsReadOperand linked entries))
behind_callee_read linked entries ps (o ∷ os) xs is e =
    before_reads linked entries (callee_operand o) (placed (behind ps) os) xs e (λ x from. callee_reads linked entries o x is.0 from)
    (λ ys from. placed_read linked entries (behind ps) os ys is.1 from)

placed_by_read : (linked : Bool) (entries : List ℕ) (op : Op) (ps : List OperandKind) (os : List OperandForm) (xs : List Operand) →
    AllOf (IsReadForm linked entries) os → placed_by op ps os ≡ Some xs → All (IsReadOperand linked entries) xs
placed_by_read linked entries op ps os xs is e = by (has_implicit_callee op) e where
  by : (b : Bool) → cond b (placed_behind_callee ps os) (placed ps os) ≡ Some xs → All (IsReadOperand linked entries) xs
  by true e = behind_callee_read linked entries ps os xs is e
  by false e = placed_read linked entries ps os xs is e

pub joined_reads : (linked : Bool) (entries : List ℕ) (a b : Option (List Operand)) (xs : List Operand) → joined a b ≡ Some xs →
    ((ys : List Operand) → a ≡ Some ys → All (IsReadOperand linked entries) ys) → ((ys : List Operand) → b ≡ Some ys → All (IsReadOperand linked entries) ys) →
    All (IsReadOperand linked entries) xs
joined_reads linked entries None b xs e first more = absurd cc
joined_reads linked entries (Some as') None xs e first more = absurd cc
joined_reads linked entries (Some as') (Some bs) xs e first more =
    let same : as' ++ bs ≡ xs = cc in
    subst (All (IsReadOperand linked entries)) same (All-append (IsReadOperand linked entries) as' bs (first as' refl) (more bs refl))

-- the operands of an instruction
pub operands_read : (linked : Bool) (entries : List ℕ) (op : Op) (line : ItemForm) (xs : List Operand) → AllOf RegisterFits line.definitions →
    list_any is_pointer line.definitions ≡ false → AllOf (IsReadForm linked entries) line.operands → operands_of op line ≡ Some xs →
    All (IsReadOperand linked entries) xs
unfolding operands_of
operands_read linked entries op line xs fits others forms e =
    joined_reads linked entries (definitions line.definitions) (placed_by op (places_of op line) line.operands) xs e
    (λ ys is. definitions_read linked entries line.definitions ys fits others is) (λ ys is. placed_by_read linked entries op (places_of op line) line.operands
    ys forms is)

-- ---- forms

-- all stack entries of a line are met where those of its operands are
pub tail_met : (o : Option ℕ) (rest entries : List ℕ) → ((n : ℕ) → is_met n (cons_option o rest) ≡ true → is_met n entries ≡ true) →
    (n : ℕ) → is_met n rest ≡ true → is_met n entries ≡ true
tail_met None rest entries met n is = met n is
tail_met (Some m) rest entries met n is = met n (or_right (eqb n m) (is_met n rest) is)

pub head_met : (o : Option ℕ) (rest entries : List ℕ) → ((n : ℕ) → is_met n (cons_option o rest) ≡ true → is_met n entries ≡ true) →
    (n : ℕ) → o ≡ Some n → is_met n entries ≡ true
head_met None rest entries met n is = absurd cc
head_met (Some m) rest entries met n is = let same : n ≡ m = cc in met n (or_left (eqb n m) (is_met n rest) (eq-eqb n m same))

-- the forms of a line's operands
pub forms_read : (linked : Bool) (entries : List ℕ) (os : List OperandForm) → AllOf (FormFits linked) os → list_any operand_exceeds os ≡ false →
    list_any is_pointer_operand os ≡ false →
    ((n : ℕ) → is_met n (entries_of os) ≡ true → is_met n entries ≡ true) → AllOf (IsReadForm linked entries) os
forms_read linked entries [] fits within others met = tt
forms_read linked entries (o ∷ os) fits within others met =
    let inside = or_parts (operand_exceeds o) (list_any operand_exceeds os) within in
    let other = or_parts (is_pointer_operand o) (list_any is_pointer_operand os) others in (
      record { fits = fits.0; within = inside.0; pointer = other.0; named = head_met (entry_of o) (entries_of os) entries met },
      forms_read linked entries os fits.1 inside.1 other.1 (tail_met (entry_of o) (entries_of os) entries met),
    )
