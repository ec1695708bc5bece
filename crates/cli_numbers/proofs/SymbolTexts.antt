-- Symbols and their addresses, as they are spelled.
use Rattle.std.proofs.Common.{◌≡◌, ◌≢◌, ◌↔◌, ℕ, ◌+◌, ◌%◌, ◌<◌, ◌^◌, Bool, true, false, cond, not, ◌&&◌, nat_eq, nat_lt, IsTrue}
use Rattle.std.proofs.Common.{List, [], ◌∷◌, ◌++◌, length, get_or, take, drop, codes, Option, Some, None, Result, Ok, Err, refl, sym, ap, ◌∙◌, subst, arith}
use Rattle.std.specs.List.{All, AllPairs, list_all, slice_split, starts_with}
use Rattle.std.specs.Result.{IfOk}
use Rattle.std.specs.Fmt.{decimal}
use Rattle.std.proofs.lemmas.Bool.{false≢true, ne_eqb}
use Rattle.std.proofs.lemmas.Fmt.{decimal_by_steps, decimal_injective}
use Rattle.std.proofs.lemmas.List.{get_or_default, get_or-take, length-take}
use Rattle.std.proofs.lemmas.List.Elements.{All-nil, All-cons, All-append}
use Rattle.std.proofs.lemmas.List.Splits.{slice_split_none, slice_split_at}
use Rattle.std.proofs.lemmas.List.Sums.{AllPass-from_list_all}
use Rattle.rv64_instr.specs.declared.symbol.Symbol.{Symbol}
use Rattle.rv64_instr.specs.declared.symbol.Symbol.TheVariants.{Global, Constant}
use Rattle.cli_numbers.proofs.Pieces.{NoComma, IsSpelling}
use Rattle.cli_numbers.proofs.Decimals.{decimals}
use Rattle.cli_numbers.specs.Symbols.{is_plain, is_plain_name, symbol_name, CanBeNamed, global_named, IsConstantOf, pair_text, CanBeGiven, AreOthers}

-- ---- no two of something

pub no_symbol : (y : Symbol) → ◌≡◌ {A = Option Symbol} None (Some y) → ⊥
no_symbol y e = cc

pub no_pair : (p : Symbol × ℕ) → ◌≡◌ {A = Option (Symbol × ℕ)} None (Some p) → ⊥
no_pair p e = cc

pub no_number : (n : ℕ) → ◌≡◌ {A = Option ℕ} None (Some n) → ⊥
no_number n e = cc

pub one_symbol : (y z : Symbol) → ◌≡◌ {A = Option Symbol} (Some y) (Some z) → y ≡ z
one_symbol y z e = cc

pub one_pair : (p q : Symbol × ℕ) → ◌≡◌ {A = Option (Symbol × ℕ)} (Some p) (Some q) → p ≡ q
one_pair p q e = cc

pub same_pair : (p q : Symbol × ℕ) → p.0 ≡ q.0 → p.1 ≡ q.1 → p ≡ q
same_pair (y, a) (z, b) one two = λ k. (one k, two k)

pub some_pair : (y : Symbol) (a : ℕ) (p : Symbol × ℕ) → y ≡ p.0 → a ≡ p.1 → ◌≡◌ {A = Option (Symbol × ℕ)} (Some (y, a)) (Some p)
some_pair y a p one two = ap (λ (q : Symbol × ℕ). Some q) (same_pair (y, a) p one two)

-- ---- bytes

-- no byte is an equals sign
abbrev NoEquals : List ℕ → Type 0
NoEquals bs = All (λ x. nat_eq x 61 ≡ false) bs

digit_is_other : (d : ℕ) → d < 10 → nat_eq (48 + d) 61 ≡ false
digit_is_other d low = ne_eqb (48 + d) 61 (λ e. omega (arith, e, low))

no_equals_in : (n : ℕ) → n < 2 ^ 64 → NoEquals (decimal n)
no_equals_in n small =
    decimal_by_steps (λ _ bs. NoEquals bs)
    (λ d low. All-cons (λ x. nat_eq x 61 ≡ false) (48 + d) [] (digit_is_other d low) (All-nil (λ x. nat_eq x 61 ≡ false)))
    (λ m ds _ h. let low : m % 10 < 10 = omega arith in All-append (λ x. nat_eq x 61 ≡ false) ds _ h
    (All-cons (λ x. nat_eq x 61 ≡ false) _ [] (digit_is_other (m % 10) low) (All-nil (λ x. nat_eq x 61 ≡ false))))
    n small

neither : (a b : Bool) → (not a && not b) ≡ true → (a ≡ false) × (b ≡ false)
neither false false e = (refl, refl)
neither false true e = absurd cc
neither true b e = absurd cc

not_of : (b : Bool) → not b ≡ true → b ≡ false
not_of false e = refl
not_of true e = absurd cc

lacking : (c : ℕ) (bs : List ℕ) → list_all (λ x. not (nat_eq x c)) bs ≡ true → All (λ x. nat_eq x c ≡ false) bs
lacking c bs e = λ i d lt. not_of (nat_eq (get_or bs i d) c) (AllPass-from_list_all (λ x. not (nat_eq x c)) bs e i d lt)

second : (a b c : Bool) → (a && (not b && c)) ≡ true → b ≡ false
second true false c e = refl
second true true c e = absurd cc
second false b c e = absurd cc

third : (a b c : Bool) → (a && (not b && c)) ≡ true → c ≡ true
third true false c e = e
third true true c e = absurd cc
third false b c e = absurd cc

plain_bytes : (name : List ℕ) → IsTrue (is_plain_name name) → All (λ x. is_plain x ≡ true) name
plain_bytes name plain =
    AllPass-from_list_all is_plain name (third (nat_lt 0 (length name)) (starts_with nat_eq name (codes "%")) (list_all is_plain name) plain)

name_has_no_comma : (y : Symbol) → CanBeNamed y → NoComma (symbol_name y)
name_has_no_comma (Global name) named = λ i d lt.
    (neither (nat_eq (get_or name i d) 44) (nat_eq (get_or name i d) 61) (plain_bytes name named i d lt)).0
name_has_no_comma (Constant n) named =
    let low : n < 2 ^ 32 = named in
    All-append (λ x. nat_eq x 44 ≡ false) (codes "%const.") (decimal n) (lacking 44 (codes "%const.") refl) (decimals.no_comma n (omega (arith, low)))

name_has_no_equals : (y : Symbol) → CanBeNamed y → NoEquals (symbol_name y)
name_has_no_equals (Global name) named = λ i d lt.
    (neither (nat_eq (get_or name i d) 44) (nat_eq (get_or name i d) 61) (plain_bytes name named i d lt)).1
name_has_no_equals (Constant n) named =
    let low : n < 2 ^ 32 = named in
    All-append (λ x. nat_eq x 61 ≡ false) (codes "%const.") (decimal n) (lacking 61 (codes "%const.") refl) (no_equals_in n (omega (arith, low)))

-- no byte of a name is the equals sign behind it
pub no_sign_in : (y : Symbol) → CanBeNamed y → (i : ℕ) → i < length (symbol_name y) → get_or (symbol_name y) i 0 ≢ 61
no_sign_in y named i lt e =
    let other : nat_eq (get_or (symbol_name y) i 0) 61 ≡ false = name_has_no_equals y named i 0 lt in
    let same : nat_eq (get_or (symbol_name y) i 0) 61 ≡ true = ap (λ (x : ℕ). nat_eq x 61) e in
    false≢true (sym other ∙ same)

-- ---- names

no_percent : (name rest : List ℕ) → IsTrue (is_plain_name name) → name ≡ codes "%const." ++ rest → ⊥
no_percent name rest plain e =
    let without : starts_with nat_eq name (codes "%") ≡ false =
    second (nat_lt 0 (length name)) (starts_with nat_eq name (codes "%")) (list_all is_plain name) plain in
    let begins : starts_with nat_eq name (codes "%") ≡ true = ap (λ (x : List ℕ). starts_with nat_eq x (codes "%")) e in
    false≢true (sym without ∙ begins)

one_name : (y z : Symbol) → CanBeNamed y → CanBeNamed z → symbol_name y ≡ symbol_name z → y ≡ z
one_name (Global a) (Global b) hy hz e = ap (λ (x : List ℕ). Global x) e
one_name (Global a) (Constant n) hy hz e = absurd (no_percent a (decimal n) hy e)
one_name (Constant n) (Global b) hy hz e = absurd (no_percent b (decimal n) hz (sym e))
one_name (Constant m) (Constant n) hy hz e =
    let first : m < 2 ^ 32 = hy in
    let second : n < 2 ^ 32 = hz in
    ap (λ (x : ℕ). Constant x) (decimal_injective m n (omega (arith, first)) (omega (arith, second)) (ap (drop 7) e))

-- the global of a name
pub global_is : (name : List ℕ) → ((rest : List ℕ) → name ≢ codes "%const." ++ rest) → (o : Option Symbol) → o ≡ global_named name → (y : Symbol) →
    (o ≡ Some y) ↔ ((name ≡ symbol_name y) × CanBeNamed y)
global_is name other o is (Constant n) = (λ e. absurd (no_constant (is_plain_name name) (sym is ∙ e)), λ q. absurd (other (decimal n) q.0)) where
  no_constant : (b : Bool) → cond b (Some (Global name)) None ≡ Some (Constant n) → ⊥
  no_constant true e = cc
  no_constant false e = cc
global_is name other o is (Global a) = (λ e. named (is_plain_name name) refl (sym is ∙ e), λ q. is ∙ given q.0 q.1) where
  named : (b : Bool) → is_plain_name name ≡ b → cond b (Some (Global name)) None ≡ Some (Global a) → (name ≡ a) × IsTrue (is_plain_name a)
  named true plain e = (let same : name ≡ a = cc in (same, subst (λ (x : List ℕ). IsTrue (is_plain_name x)) same plain))
  named false plain e = absurd cc

  given : name ≡ a → IsTrue (is_plain_name a) → global_named name ≡ Some (Global a)
  given same plain = ap global_named same ∙ ap (λ (b : Bool). cond b (Some (Global a)) None) plain

pub globals : {E : Type 0} (name : List ℕ) → ((rest : List ℕ) → name ≢ codes "%const." ++ rest) → (r : Result (Option Symbol) E) →
    IfOk r (λ o. o ≡ global_named name) → IfOk r (λ o. (y : Symbol) → (o ≡ Some y) ↔ ((name ≡ symbol_name y) × CanBeNamed y))
globals name other (Err e) h = tt
globals name other (Ok o) h = λ y. global_is name other o h y

-- the constant of digits
pub constant_is : (digits : List ℕ) (n : ℕ) → digits ≡ decimal n → n < 2 ^ 32 → (y : Symbol) → (Some (Constant n) ≡ Some y) ↔ IsConstantOf digits y
constant_is digits n is small (Global name) = (λ e. absurd cc, λ q. absurd q)
constant_is digits n is small (Constant m) = (
  λ e. (let same : n ≡ m = cc in (is ∙ ap decimal same, subst (λ (x : ℕ). x < 2 ^ 32) same small)),
  λ q. (
      let low : m < 2 ^ 32 = q.1 in
      ap (λ (x : ℕ). Some (Constant x)) (decimal_injective n m (omega (arith, small)) (omega (arith, low)) (sym is ∙ q.0))),
)

pub constant_is_none : (digits : List ℕ) → ((n : ℕ) → digits ≡ decimal n → n < 2 ^ 32 → ⊥) → (y : Symbol) →
    (◌≡◌ {A = Option Symbol} None (Some y)) ↔ IsConstantOf digits y
constant_is_none digits none (Global name) = (λ e. absurd cc, λ q. absurd q)
constant_is_none digits none (Constant m) = (λ e. absurd cc, λ q. absurd (none m q.0 q.1))

-- a constant by its whole name
pub constant_named : (name digits : List ℕ) → name ≡ codes "%const." ++ digits → (o : Option Symbol) (y : Symbol) →
    ((o ≡ Some y) ↔ IsConstantOf digits y) → (o ≡ Some y) ↔ ((name ≡ symbol_name y) × CanBeNamed y)
constant_named name digits is o (Global a) h = (
  λ e. absurd (h.0 e),
  λ q. absurd (no_percent a digits q.1 (sym q.0 ∙ is)),
)
constant_named name digits is o (Constant n) h = (
  λ e. (let s = h.0 e in (is ∙ ap (λ (t : List ℕ). codes "%const." ++ t) s.0, s.1)),
  λ q. h.1 (ap (drop 7) (sym is ∙ q.0), q.1),
)

-- ---- pairs

halves : (p : Symbol × ℕ) → CanBeGiven p → slice_split (λ b. nat_eq b 61) (pair_text p) ≡ symbol_name p.0 ∷ decimal p.1 ∷ []
halves p h =
    slice_split_at (λ b. nat_eq b 61) (symbol_name p.0) 61 (decimal p.1) (name_has_no_equals p.0 h.named) refl
    ∙ ap (λ (xs : List (List ℕ)). symbol_name p.0 ∷ xs) (slice_split_none (λ b. nat_eq b 61) (decimal p.1) (no_equals_in p.1 h.small))

one_text : (p q : Symbol × ℕ) → CanBeGiven p → CanBeGiven q → pair_text p ≡ pair_text q → p ≡ q
one_text p q hp hq e =
    let both : symbol_name p.0 ∷ decimal p.1 ∷ [] ≡ symbol_name q.0 ∷ decimal q.1 ∷ [] =
    sym (halves p hp) ∙ (ap (slice_split (λ b. nat_eq b 61)) e ∙ halves q hq) in
    let first : symbol_name p.0 ≡ symbol_name q.0 = cc in
    let second : decimal p.1 ≡ decimal q.1 = cc in
    same_pair p q (one_name p.0 q.0 hp.named hq.named first) (decimal_injective p.1 q.1 hp.small hq.small second)

pub pairs_spelled : IsSpelling pair_text CanBeGiven
pairs_spelled = record {
  no_comma = λ p h. All-append (λ x. nat_eq x 44 ≡ false) (symbol_name p.0) (61 ∷ decimal p.1) (name_has_no_comma p.0 h.named)
      (All-cons (λ x. nat_eq x 44 ≡ false) 61 (decimal p.1) refl (decimals.no_comma p.1 h.small));
  one = λ p q hp hq e. one_text p q hp hq e;
}

-- a pair by its halves
pub joined_halves : {E : Type 0} (text name digits : List ℕ) → text ≡ name ++ 61 ∷ digits →
    ((p : Symbol × ℕ) → text ≡ pair_text p → CanBeGiven p → (name ≡ symbol_name p.0) × (digits ≡ decimal p.1)) → (r : Result (Option (Symbol × ℕ)) E) →
    IfOk r (λ o. (p : Symbol × ℕ) → (o ≡ Some p) ↔ ((name ≡ symbol_name p.0) × (digits ≡ decimal p.1) × CanBeGiven p)) →
    IfOk r (λ o. (p : Symbol × ℕ) → (o ≡ Some p) ↔ ((text ≡ pair_text p) × CanBeGiven p))
joined_halves text name digits is cut (Err e) h = tt
joined_halves text name digits is cut (Ok o) h = λ p. (
  λ e. (let s = (h p).0 e in (is ∙ (ap (λ (t : List ℕ). t ++ 61 ∷ digits) s.0 ∙ ap (λ (t : List ℕ). symbol_name p.0 ++ 61 ∷ t) s.1), s.2)),
  λ q. (let both = cut p q.0 q.1 in (h p).1 (both.0, both.1, q.1)),
)

-- the address of digits
pub with_digits : {E : Type 0} (name digits : List ℕ) (a : ℕ) → digits ≡ decimal a → a < 2 ^ 64 → (r : Result (Option (Symbol × ℕ)) E) →
    IfOk r (λ o. (p : Symbol × ℕ) → (o ≡ Some p) ↔ ((name ≡ symbol_name p.0) × CanBeNamed p.0 × (a ≡ p.1))) →
    IfOk r (λ o. (p : Symbol × ℕ) → (o ≡ Some p) ↔ ((name ≡ symbol_name p.0) × (digits ≡ decimal p.1) × CanBeGiven p))
with_digits name digits a is small (Err e) h = tt
with_digits name digits a is small (Ok o) h = λ p. (
  λ e. (
      let s = (h p).0 e in
      (s.0, is ∙ ap decimal s.2, record { named = s.1; small = subst (λ (n : ℕ). n < 2 ^ 64) s.2 small })),
  λ q. (h p).1 (q.0, q.2.named, decimal_injective a p.1 small q.2.small (sym is ∙ q.1)),
)

-- ---- each once

-- none before its place is of its symbol
pub others_before : (pairs : List (Symbol × ℕ)) (i : ℕ) (p : Symbol × ℕ) → i < length pairs → AllPairs AreOthers pairs →
    All (λ q. AreOthers q (get_or pairs i p)) (take i pairs)
others_before pairs i p inside once k d lt =
    let few = length-take i pairs in
    let before : k < i = omega (arith, lt, few) in
    subst (λ (q : Symbol × ℕ). AreOthers q (get_or pairs i p)) (sym (get_or-take i pairs k d before))
    (subst (λ (q : Symbol × ℕ). AreOthers (get_or pairs k d) q) (get_or_default pairs i d p inside) (once k i d before inside))
