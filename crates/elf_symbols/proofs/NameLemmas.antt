-- Names in the table of names: what a right offset tells, and that the offset of a name is right.
use Rattle.std.specs.Prelude.{◌==◌, nat_lt, nat_le, ◌&&◌, ◌||◌, ◌⊎◌, if◌then◌else◌}
use Rattle.std.proofs.Common.{◌≡◌, ℕ, ◌+◌, ◌^◌, ◌≤◌, ◌<◌, Bool, true, false, List, [], ◌∷◌, ◌++◌, length, take, drop}
use Rattle.std.proofs.Common.{arith, ap, sym, subst, ◌∙◌, refl, length-append, inl, inr}
use Rattle.std.proofs.lemmas.Bool.{cases_Bool, ltb-true, leb-true, eqb-true, lt-ltb, le-leb, eq-eqb}
use Rattle.std.proofs.lemmas.List.{length-take-le, length-drop, drop-drop}
use Rattle.elf_object.specs.Spelling.{text}
use Rattle.elf_object.specs.Symbols.{name_text, name_offset}
use Rattle.elf_object.proofs.FaultLoops.{both_right}
use Rattle.elf_object.proofs.ToldLemmas.{before_zero, string_stands, string_named}
use Rattle.elf_object.proofs.ObjectRight.{right_both, zero_after}
use Rattle.elf_object.proofs.OneReading.{HasNoZero}
use Rattle.elf_symbols.specs.FirstFault.{string_len, string_end, is_string_at, is_name_at, next_name}
use Rattle.elf_symbols.specs.steps.Told.{string_at}

-- ---- tests

pub either_right : (a b : Bool) → (a || b) ≡ true → (a ≡ true) ⊎ (b ≡ true)
either_right true b e = inl refl
either_right false b e = inr e

pub right_second : (a b : Bool) → b ≡ true → (a || b) ≡ true
right_second true b e = refl
right_second false b e = e

-- ---- strings that aren't empty

text_of : (name : List ℕ) → 0 < length name → name_text name ≡ text name
text_of [] some = absurd (omega (arith, some))
text_of (byte ∷ name) some = refl

offset_of : (at : ℕ) (name : List ℕ) → 0 < length name → name_offset at name ≡ at
offset_of at [] some = absurd (omega (arith, some))
offset_of at (byte ∷ name) some = refl

record IsStringAt (names : List ℕ) (at : ℕ) : Type 0 where
  some : 0 < string_len names at
  closed : string_end names at ≤ length names
  small : string_end names at < 2 ^ 32

string_right : (names : List ℕ) (at : ℕ) → is_string_at names at ≡ true → IsStringAt names at
unfolding is_string_at
string_right names at e =
    let some : Bool = nat_lt 0 (string_len names at) in
    let closed : Bool = nat_le (string_end names at) (length names) in
    let small : Bool = nat_lt (string_end names at) (2 ^ 32) in
    let one = both_right some (closed && small) e in
    let two = both_right closed small one.1 in
    record {
      some = ltb-true 0 (string_len names at) one.0;
      closed = leb-true (string_end names at) (length names) two.0;
      small = ltb-true (string_end names at) (2 ^ 32) two.1;
    }

right_string : (names : List ℕ) (at : ℕ) → IsStringAt names at → is_string_at names at ≡ true
unfolding is_string_at
right_string names at is =
    right_both (nat_lt 0 (string_len names at)) (nat_le (string_end names at) (length names) && nat_lt (string_end names at) (2 ^ 32))
    (lt-ltb 0 (string_len names at) is.some)
    (right_both (nat_le (string_end names at) (length names)) (nat_lt (string_end names at) (2 ^ 32))
    (le-leb (string_end names at) (length names) is.closed) (lt-ltb (string_end names at) (2 ^ 32) is.small))

-- where names end behind a string
end_is : (names : List ℕ) (at : ℕ) → 0 < at → next_name names at at ≡ string_end names at
end_is names at some =
    elim (cases_Bool (at == 0)) [
      | inl is ↦ absurd (omega (arith, some, eqb-true at 0 is))
      | inr is ↦ ap (λ b. if b then at else string_end names at) is
    ]

-- ---- what a right offset tells

name_cases : (names : List ℕ) (name_at name : ℕ) → is_name_at names name_at name ≡ true
    → (name ≡ 0) ⊎ ((name ≡ name_at) × IsStringAt names name_at)
unfolding is_name_at
name_cases names name_at name e =
    elim (either_right (name == 0) ((name == name_at) && is_string_at names name_at) e) [
      | inl none ↦ inl (eqb-true name 0 none)
      | inr own ↦
          (let both = both_right (name == name_at) (is_string_at names name_at) own in
          inr (eqb-true name name_at both.0, string_right names name_at both.1))
    ]

-- the name of a symbol, where the names before it end and where they end then
pub record NameRight (names : List ℕ) (name_at next offset : ℕ) (name : List ℕ) : Type 0 where
  pub offset_is : name_offset name_at name ≡ offset
  pub stands : drop name_at names ≡ name_text name ++ drop next names
  pub long : name_at + length (name_text name) ≡ next
  pub string : HasNoZero name
  pub small : next < 2 ^ 32

no_name : (names : List ℕ) (name_at : ℕ) → names ≡ 0 ∷ drop 1 names → name_at < 2 ^ 32
    → NameRight names name_at (next_name names name_at 0) 0 (string_at names 0)
no_name names name_at zero_first small =
    let empty : string_at names 0 ≡ [] = ap (λ (xs : List ℕ). take (before_zero xs) xs) zero_first in
    let none : NameRight names name_at name_at 0 [] = record {
      offset_is = refl;
      stands = refl;
      long = plus name_at;
      string = tt;
      small = small;
    } in
    subst (λ (name : List ℕ). NameRight names name_at name_at 0 name) (sym empty) none
  where
    plus : (n : ℕ) → n + 0 ≡ n
    plus n = omega arith

own_name : (names : List ℕ) (name_at : ℕ) → 0 < name_at → IsStringAt names name_at
    → NameRight names name_at (next_name names name_at name_at) name_at (string_at names name_at)
own_name names name_at positive is =
    let tail : List ℕ = drop name_at names in
    let n : ℕ = before_zero tail in
    let name : List ℕ = take n tail in
    let closed : n < length tail = omega (arith, is.closed, length-drop name_at names) in
    let long : length name ≡ n = length-take-le n tail (omega (arith, closed)) in
    let some : 0 < length name = omega (arith, long, is.some) in
    let whole : NameRight names name_at (string_end names name_at) name_at name = record {
      offset_is = offset_of name_at name some;
      stands =
          string_stands tail closed
          ∙ ap (λ ys. text name ++ ys) (drop-drop (n + 1) name_at names ∙ ap (λ k. drop k names) (plus name_at n))
          ∙ ap (λ xs. xs ++ drop (string_end names name_at) names) (sym (text_of name some));
      long = omega (arith, ap length (text_of name some), length-append name (0 ∷ []), long);
      string = string_named tail;
      small = is.small;
    } in
    subst (λ next. NameRight names name_at next name_at name) (sym (end_is names name_at positive)) whole
  where
    plus : (a n : ℕ) → a + (n + 1) ≡ a + n + 1
    plus a n = omega arith

pub name_right : (names : List ℕ) (name_at name : ℕ) → names ≡ 0 ∷ drop 1 names → 0 < name_at → name_at < 2 ^ 32 → is_name_at names name_at name ≡ true
    → NameRight names name_at (next_name names name_at name) name (string_at names name)
name_right names name_at name zero_first positive small e =
    elim (name_cases names name_at name e) [
      | inl none ↦
          subst (λ k. NameRight names name_at (next_name names name_at k) k (string_at names k)) (sym none) (no_name names name_at zero_first small)
      | inr own ↦
          subst (λ k. NameRight names name_at (next_name names name_at k) k (string_at names k)) (sym own.0) (own_name names name_at positive own.1)
    ]

-- where names end behind a right offset, whatever the first byte is
pub next_small : (names : List ℕ) (name_at name : ℕ) → name_at < 2 ^ 32 → is_name_at names name_at name ≡ true → next_name names name_at name < 2 ^ 32
next_small names name_at name small e =
    elim (cases_Bool (name == 0)) [
      | inl is ↦ subst (λ k. k < 2 ^ 32) (sym (ap (λ b. if b then name_at else string_end names name_at) is)) small
      | inr is ↦
          subst (λ k. k < 2 ^ 32) (sym (ap (λ b. if b then name_at else string_end names name_at) is))
          (elim (name_cases names name_at name e) [
            | inl none ↦ absurd (let wrong : false ≡ true = sym is ∙ eq-eqb name 0 none in cc)
            | inr own ↦ own.1.small
          ])
    ]

-- ---- the offset of a name is right

pub record OwnName (names : List ℕ) (name_at : ℕ) (name : List ℕ) : Type 0 where
  pub right : is_name_at names name_at (name_offset name_at name) ≡ true
  pub next : next_name names name_at (name_offset name_at name) ≡ name_at + length (name_text name)

pub right_name : (names rest : List ℕ) (name_at : ℕ) (name : List ℕ) → 0 < name_at → HasNoZero name
    → drop name_at names ≡ name_text name ++ rest → name_at + length (name_text name) < 2 ^ 32 → OwnName names name_at name
unfolding is_name_at
right_name names rest name_at [] positive string stands small = record { right = refl; next = plus name_at }
  where
    plus : (n : ℕ) → n ≡ n + 0
    plus n = omega arith
right_name names rest name_at (byte ∷ name) positive string stands small =
    let own : List ℕ = byte ∷ name in
    let len : string_len names name_at ≡ length own = ap before_zero stands ∙ zero_after own rest string in
    let long : length (text own) ≡ length own + 1 = length-append own (0 ∷ []) in
    let whole : length (drop name_at names) ≡ length (text own) + length rest = ap length stands ∙ length-append (text own) rest in
    let is : IsStringAt names name_at = record {
      some = omega (arith, len);
      closed = omega (arith, len, long, whole, length-drop name_at names);
      small = omega (arith, len, long, small);
    } in
    let ends : string_end names name_at ≡ name_at + length (text own) = omega (arith, len, long) in
    record {
      right = right_second (name_at == 0) ((name_at == name_at) && is_string_at names name_at)
          (right_both (name_at == name_at) (is_string_at names name_at) (eq-eqb name_at name_at refl) (right_string names name_at is));
      next = end_is names name_at positive ∙ ends;
    }
