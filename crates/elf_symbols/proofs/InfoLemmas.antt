-- The halves of st_info: which binding and which type a number is of, and which numbers they have.
use Rattle.std.specs.Prelude.{◌==◌, nat_lt, nat_le, ◌||◌, if◌then◌else◌}
use Rattle.std.proofs.Common.{◌≡◌, ℕ, ◌+◌, ◌*◌, ◌/◌, ◌%◌, ◌≤◌, ◌<◌, Bool, true, false, List, ◌∷◌, arith, ap, sym, ◌∙◌, refl, inl, inr}
use Rattle.std.proofs.lemmas.Bool.{cases_lt, leb-true, eqb-true}
use Rattle.elf_object.specs.declared.symbols.Binding.{Binding}
use Rattle.elf_object.specs.declared.symbols.Binding.TheVariants.{Local, Global, Weak}
use Rattle.elf_object.specs.declared.symbols.SymbolType.{SymbolType}
use Rattle.elf_object.specs.declared.symbols.SymbolType.TheVariants.{NoType, Function, Section}
use Rattle.elf_object.specs.declared.symbols.Symbol.{Symbol}
use Rattle.elf_object.specs.Symbols.{binding_number, type_number, is_local, none_local, locals_first}
use Rattle.elf_object.proofs.FaultLoops.{both_right}
use Rattle.elf_object.proofs.ObjectRight.{right_both}
use Rattle.elf_symbols.specs.FirstFault.{is_binding, is_type, is_info}
use Rattle.elf_symbols.specs.steps.Told.{binding_of, type_of}
use Rattle.elf_symbols.proofs.NameLemmas.{either_right}

-- ---- bindings

-- what holds of the numbers of bindings
pub record BindingRight (number : ℕ) : Type 0 where
  pub number_is : binding_number (binding_of number) ≡ number
  pub locality : is_local (binding_of number) ≡ (number == 0)

binding_same : (n k : ℕ) → n ≡ k → binding_number (binding_of k) ≡ k → is_local (binding_of k) ≡ (k == 0) → BindingRight n
binding_same n k e back local = record {
  number_is = ap (λ m. binding_number (binding_of m)) e ∙ back ∙ sym e;
  locality = ap (λ m. is_local (binding_of m)) e ∙ local ∙ ap (λ m. m == 0) (sym e);
}

pub binding_right : (number : ℕ) → number ≤ 2 → BindingRight number
binding_right number within =
    elim (cases_lt number 1) [
      | inl lt ↦ binding_same number 0 (omega (arith, lt)) refl refl
      | inr ge ↦ elim (cases_lt number 2) [
        | inl lt ↦ binding_same number 1 (omega (arith, ge, lt)) refl refl
        | inr le ↦ binding_same number 2 (omega (arith, le, within)) refl refl
      ]
    ]

pub binding_within : (others : Bool) (number : ℕ) → is_binding others number ≡ true → number ≤ 2
binding_within true number e = leb-true number 2 (both_right (nat_le 1 number) (nat_le number 2) e).1
binding_within false number e = leb-true number 2 e

pub binding_behind : (number : ℕ) → is_binding true number ≡ true → 1 ≤ number
binding_behind number e = leb-true 1 number (both_right (nat_le 1 number) (nat_le number 2) e).0

-- the number of a binding
pub binding_small : (b : Binding) → binding_number b ≤ 2
binding_small Local = omega arith
binding_small Global = omega arith
binding_small Weak = omega arith

pub right_binding : (others : Bool) (b : Binding) → (others ≡ true → is_local b ≡ false) → is_binding others (binding_number b) ≡ true
right_binding true Local behind = absurd (let wrong : true ≡ false = behind refl in cc)
right_binding true Global behind = refl
right_binding true Weak behind = refl
right_binding false Local behind = refl
right_binding false Global behind = refl
right_binding false Weak behind = refl

pub other_number : (b : Binding) → is_local b ≡ false → nat_lt 0 (binding_number b) ≡ true
other_number Local e = absurd cc
other_number Global e = refl
other_number Weak e = refl

pub local_number : (b : Binding) → is_local b ≡ true → nat_lt 0 (binding_number b) ≡ false
local_number Local e = refl
local_number Global e = absurd cc
local_number Weak e = absurd cc

-- ---- types

type_same : (n k : ℕ) → n ≡ k → type_number (type_of k) ≡ k → type_number (type_of n) ≡ n
type_same n k e is = ap (λ m. type_number (type_of m)) e ∙ is ∙ sym e

pub type_right : (number : ℕ) → is_type number ≡ true → type_number (type_of number) ≡ number
type_right number e =
    elim (either_right (number == 0) ((number == 2) || (number == 3)) e) [
      | inl is ↦ type_same number 0 (eqb-true number 0 is) refl
      | inr later ↦ elim (either_right (number == 2) (number == 3) later) [
        | inl is ↦ type_same number 2 (eqb-true number 2 is) refl
        | inr is ↦ type_same number 3 (eqb-true number 3 is) refl
      ]
    ]

pub right_type : (t : SymbolType) → is_type (type_number t) ≡ true
right_type NoType = refl
right_type Function = refl
right_type Section = refl

pub type_small : (t : SymbolType) → type_number t < 16
type_small NoType = omega arith
type_small Function = omega arith
type_small Section = omega arith

-- ---- both

pub record InfoRight (others : Bool) (info : ℕ) : Type 0 where
  pub whole : info ≡ 16 * binding_number (binding_of (info / 16)) + type_number (type_of (info % 16))
  pub binding : is_binding others (info / 16) ≡ true

pub info_right : (others : Bool) (info : ℕ) → is_info others info ≡ true → InfoRight others info
unfolding is_info
info_right others info e =
    let both = both_right (is_binding others (info / 16)) (is_type (info % 16)) e in
    let binding = (binding_right (info / 16) (binding_within others (info / 16) both.0)).number_is in
    let of_type = type_right (info % 16) both.1 in
    record { whole = omega (arith, binding, of_type, halves info); binding = both.0 }
  where
    halves : (n : ℕ) → n ≡ 16 * (n / 16) + n % 16
    halves n = omega arith

-- the halves of what a symbol has there
pub halves_are : (m n : ℕ) → n < 16 → ((16 * m + n) / 16 ≡ m) × ((16 * m + n) % 16 ≡ n)
halves_are m n small = (omega (arith, small), omega (arith, small))

pub right_info : (others : Bool) (b : Binding) (t : SymbolType) → (others ≡ true → is_local b ≡ false)
    → is_info others (16 * binding_number b + type_number t) ≡ true
unfolding is_info
right_info others b t behind =
    let halves = halves_are (binding_number b) (type_number t) (type_small t) in
    let info : ℕ = 16 * binding_number b + type_number t in
    right_both (is_binding others (info / 16)) (is_type (info % 16)) (ap (is_binding others) halves.0 ∙ right_binding others b behind)
    (ap is_type halves.1 ∙ right_type t)

-- ---- local symbols first

-- behind a symbol that isn't local, or behind none
abbrev pub locals_of : (others : Bool) → List Symbol → Bool
locals_of others symbols = if others then none_local symbols else locals_first symbols

pub locals_more : (others other : Bool) (s : Symbol) (ss : List Symbol) → is_local s.binding ≡ (if other then false else true)
    → (others ≡ true → other ≡ true) → locals_of (others || other) ss ≡ true → locals_of others (s ∷ ss) ≡ true
locals_more true true s ss is behind rest = ap (λ l. if l then false else none_local ss) is ∙ rest
locals_more true false s ss is behind rest = absurd (let wrong : false ≡ true = behind refl in cc)
locals_more false true s ss is behind rest = ap (λ l. if l then locals_first ss else none_local ss) is ∙ rest
locals_more false false s ss is behind rest = ap (λ l. if l then locals_first ss else none_local ss) is ∙ rest

pub record LocalsLess (others : Bool) (s : Symbol) (ss : List Symbol) : Type 0 where
  pub behind : others ≡ true → is_local s.binding ≡ false
  pub rest : locals_of (others || nat_lt 0 (binding_number s.binding)) ss ≡ true

-- with whether the symbol is local
locals_by : (others local : Bool) (s : Symbol) (ss : List Symbol) → is_local s.binding ≡ local → locals_of others (s ∷ ss) ≡ true → LocalsLess others s ss
locals_by true true s ss is e =
    absurd (let wrong : false ≡ true = sym (ap (λ l. if l then false else none_local ss) is) ∙ e in cc)
locals_by true false s ss is e = record { behind = λ _. is; rest = sym (ap (λ l. if l then false else none_local ss) is) ∙ e }
locals_by false true s ss is e = record {
  behind = λ wrong. absurd cc;
  rest = ap (λ o. locals_of o ss) (local_number s.binding is) ∙ sym (ap (λ l. if l then locals_first ss else none_local ss) is) ∙ e;
}
locals_by false false s ss is e = record {
  behind = λ wrong. absurd cc;
  rest = ap (λ o. locals_of o ss) (other_number s.binding is) ∙ sym (ap (λ l. if l then locals_first ss else none_local ss) is) ∙ e;
}

pub locals_less : (others : Bool) (s : Symbol) (ss : List Symbol) → locals_of others (s ∷ ss) ≡ true → LocalsLess others s ss
locals_less others s ss e = locals_by others (is_local s.binding) s ss refl e
