-- Brackets by their depths, and by the grammar.
use Rattle.std.proofs.Common.{◌≡◌, inl, inr, ℕ, zero, suc, ◌+◌, ◌-◌, ◌≤◌, ◌==◌, ◌||◌, ◌&&◌, Bool, true, false, cond, List, [], ◌∷◌, ◌++◌, length}
use Rattle.std.proofs.Common.{refl, sym, ap, subst, ◌∙◌, arith, append_assoc, add-one, sub-one, length-append}
use Rattle.std.proofs.lemmas.Bool.{cases_Bool, or_parts, or_cases, or_from, ne_eqb, eqb-true, true≢false, false≢true}
use Rattle.read_lexer.specs.declared.parts.Class.{Class}
use Rattle.read_lexer.specs.declared.parts.Class.TheVariants.{Word, Register, Percent, Node, Kind, Symbol, Float, Integer, Text, Single}
use Rattle.read_lexer.specs.declared.parts.Token.{Token}
use Rattle.read_metadata.specs.Token.{is_byte, is_word, is_single_class, is_word_class}
use Rattle.read_metadata.specs.Field.{opens, closes, ends_piece, depth_behind}
use Rattle.read_metadata_proof.specs.Grammar.{IsClosed, IsValue, nothing, plain, within}

-- no token from this depth on ends a piece, and at the end no bracket is open
unfoldable pub run : ℕ → List Token → Bool
run d [] = d == 0
run d (t ∷ ts) = cond (ends_piece d t) false (run (depth_behind d t) ts)

-- ---- a token

by_class : (k : Class) → (is_single_class 41 k || (is_single_class 93 k || is_single_class 125 k)) ≡ true →
    (is_single_class 40 k || (is_single_class 91 k || is_single_class 123 k)) ≡ false
by_class Word e = absurd (false≢true e)
by_class Register e = absurd (false≢true e)
by_class Percent e = absurd (false≢true e)
by_class Node e = absurd (false≢true e)
by_class Kind e = absurd (false≢true e)
by_class Symbol e = absurd (false≢true e)
by_class Float e = absurd (false≢true e)
by_class Integer e = absurd (false≢true e)
by_class Text e = absurd (false≢true e)
by_class (Single b) e = elim (or_cases (b == 41) (b == 93 || b == 125) e) [
  | inl x ↦ subst (λ (n : ℕ). (n == 40 || (n == 91 || n == 123)) ≡ false) (sym (eqb-true b 41 x)) refl
  | inr y ↦ elim (or_cases (b == 93) (b == 125) y) [
    | inl x ↦ subst (λ (n : ℕ). (n == 40 || (n == 91 || n == 123)) ≡ false) (sym (eqb-true b 93 x)) refl
    | inr x ↦ subst (λ (n : ℕ). (n == 40 || (n == 91 || n == 123)) ≡ false) (sym (eqb-true b 125 x)) refl
  ]
]

-- what closes opens nothing
pub closes_alone : (t : Token) → closes t ≡ true → opens t ≡ false
closes_alone t e = by_class t.class e

word_class : (k : Class) → is_word_class k ≡ true → (n : ℕ) → is_single_class n k ≡ false
word_class Word e n = refl
word_class Register e n = refl
word_class Percent e n = refl
word_class Node e n = refl
word_class Kind e n = refl
word_class Symbol e n = refl
word_class Float e n = refl
word_class Integer e n = refl
word_class Text e n = refl
word_class (Single b) e n = absurd (false≢true e)

no_zero : (d : ℕ) → (suc d == 0) ≡ false
no_zero d = ne_eqb (suc d) 0 (λ e. absurd (let no : suc d ≡ 0 = e in omega (arith, no)))

-- a token ends no piece inside a bracket
inside_ends : (d : ℕ) (t : Token) → ends_piece (suc d) t ≡ false
inside_ends d t = ap (λ (z : Bool). z && (is_byte 44 t || closes t)) (no_zero d)

inside : (d : ℕ) (t : Token) (ts : List Token) → run (suc d) (t ∷ ts) ≡ run (depth_behind (suc d) t) ts
unfolding run
inside d t ts = ap (λ (z : Bool). cond z false (run (depth_behind (suc d) t) ts)) (inside_ends d t)

deeper : (d : ℕ) (t : Token) (ts : List Token) → opens t ≡ true → run (suc d) (t ∷ ts) ≡ run (suc (suc d)) ts
deeper d t ts e = inside d t ts ∙ ap (λ (z : Bool). run (cond z (suc d + 1) (cond (closes t) (suc d - 1) (suc d))) ts) e ∙ ap (λ (n : ℕ). run n ts)
    (add-one (suc d))

back : (d : ℕ) (t : Token) (ts : List Token) → closes t ≡ true → run (suc d) (t ∷ ts) ≡ run d ts
back d t ts e =
    inside d t ts ∙
    ap (λ (z : Bool). run (cond z (suc d + 1) (cond (closes t) (suc d - 1) (suc d))) ts) (closes_alone t e)
    ∙ ap (λ (z : Bool). run (cond z (suc d - 1) (suc d)) ts) e ∙ ap (λ (n : ℕ). run n ts) (sub-one (suc d))

level : (d : ℕ) (t : Token) (ts : List Token) → opens t ≡ false → closes t ≡ false → run (suc d) (t ∷ ts) ≡ run (suc d) ts
level d t ts o e =
    inside d t ts ∙
    ap (λ (z : Bool). run (cond z (suc d + 1) (cond (closes t) (suc d - 1) (suc d))) ts) o ∙ ap (λ (z : Bool). run (cond z (suc d - 1) (suc d)) ts) e

top_opens : (t : Token) (ts : List Token) → ends_piece 0 t ≡ false → opens t ≡ true → run 0 (t ∷ ts) ≡ run 1 ts
unfolding run
top_opens t ts n e = ap (λ (z : Bool). cond z false (run (depth_behind 0 t) ts)) n
    ∙ ap (λ (z : Bool). run (cond z (0 + 1) (cond (closes t) (0 - 1) 0)) ts) e

top_level : (t : Token) (ts : List Token) → ends_piece 0 t ≡ false → opens t ≡ false → closes t ≡ false → run 0 (t ∷ ts) ≡ run 0 ts
unfolding run
top_level t ts n o e = ap (λ (z : Bool). cond z false (run (depth_behind 0 t) ts)) n
    ∙ ap (λ (z : Bool). run (cond z (0 + 1) (cond (closes t) (0 - 1) 0)) ts) o ∙ ap (λ (z : Bool). run (cond z (0 - 1) 0) ts) e

top_ends : (t : Token) (ts : List Token) → ends_piece 0 t ≡ true → run 0 (t ∷ ts) ≡ false
unfolding run
top_ends t ts e = ap (λ (z : Bool). cond z false (run (depth_behind 0 t) ts)) e

-- ---- by the grammar what is closed comes back to its depth

pub closed_run : {ts : List Token} → IsClosed ts → (d : ℕ) (us : List Token) → run (suc d) (ts ++ us) ≡ run (suc d) us
closed_run nothing d us = refl
closed_run (plain {ts} t o e is) d us = level d t (ts ++ us) o e ∙ closed_run is d us
closed_run (within {inside} {behind} t c o e is more) d us =
    ap (run (suc d)) (ap (λ (z : List Token). t ∷ z) (append_assoc inside (c ∷ behind) us))
    ∙ deeper d t (inside ++ c ∷ (behind ++ us)) o ∙ closed_run is (suc d) (c ∷ (behind ++ us)) ∙ back (suc d) c (behind ++ us) e ∙ closed_run more d us

comma_opens : (t : Token) → opens t ≡ true → ends_piece 0 t ≡ false
comma_opens t e = by_open t.class e where
  by_open : (k : Class) → (is_single_class 40 k || (is_single_class 91 k || is_single_class 123 k)) ≡ true →
      (is_single_class 44 k || (is_single_class 41 k || (is_single_class 93 k || is_single_class 125 k))) ≡ false
  by_open Word e = absurd (false≢true e)
  by_open Register e = absurd (false≢true e)
  by_open Percent e = absurd (false≢true e)
  by_open Node e = absurd (false≢true e)
  by_open Kind e = absurd (false≢true e)
  by_open Symbol e = absurd (false≢true e)
  by_open Float e = absurd (false≢true e)
  by_open Integer e = absurd (false≢true e)
  by_open Text e = absurd (false≢true e)
  by_open (Single b) e = elim (or_cases (b == 40) (b == 91 || b == 123) e) [
    | inl x ↦ subst (λ (n : ℕ). (n == 44 || (n == 41 || (n == 93 || n == 125))) ≡ false) (sym (eqb-true b 40 x)) refl
    | inr y ↦ elim (or_cases (b == 91) (b == 123) y) [
      | inl x ↦ subst (λ (n : ℕ). (n == 44 || (n == 41 || (n == 93 || n == 125))) ≡ false) (sym (eqb-true b 91 x)) refl
      | inr x ↦ subst (λ (n : ℕ). (n == 44 || (n == 41 || (n == 93 || n == 125))) ≡ false) (sym (eqb-true b 123 x)) refl
    ]
  ]

pub value_run : {ts : List Token} → IsValue ts → run 0 ts ≡ true
unfolding run
value_run nothing = refl
value_run (plain {ts} t n o e is) = top_level t ts (or_from (is_byte 44 t) (closes t) n e) o e ∙ value_run is
value_run (within {inside} {behind} t c o e is more) =
    top_opens t (inside ++ c ∷ behind) (comma_opens t o) o ∙ closed_run is 0 (c ∷ behind) ∙ back 0 c behind e ∙ value_run more

-- ---- and what comes back to its depth is closed

-- tokens up to the bracket that closes the innermost one that is open
record IsParted (d : ℕ) (ts : List Token) : Type 0 where
  inside : List Token
  c : Token
  behind : List Token
  text : ts ≡ inside ++ c ∷ behind
  closing : closes c ≡ true
  closed : IsClosed inside
  goes_on : run d behind ≡ true

shorter : (inside : List Token) (c : Token) (behind ts : List Token) (n : ℕ) → ts ≡ inside ++ c ∷ behind → length ts ≤ n → length behind ≤ n
shorter inside c behind ts n e le =
    let total : length ts ≡ length inside + suc (length behind) = ap (λ (z : List Token). length z) e ∙ length-append inside (c ∷ behind) in
    omega (arith, le, total)

parted : (n d : ℕ) (ts : List Token) → length ts ≤ n → run (suc d) ts ≡ true → IsParted d ts
unfolding run
parted n d [] le e = absurd (false≢true (sym (no_zero d) ∙ e))
parted zero d (t ∷ ts) le e = absurd (let no : suc (length ts) ≤ 0 = le in omega (arith, no))
parted (suc n) d (t ∷ ts) le e = elim (cases_Bool (opens t)) [
  | inl o ↦ nested o (λ e us. parted n e us) (parted n (suc d) ts (omega (arith, le)) (sym (deeper d t ts o) ∙ e))
  | inr o ↦ elim (cases_Bool (closes t)) [
    | inl k ↦ record { inside = []; c = t; behind = ts; text = refl; closing = k; closed = nothing; goes_on = sym (back d t ts k) ∙ e }
    | inr k ↦ onward o k (parted n d ts (omega (arith, le)) (sym (level d t ts o k) ∙ e))
  ]
] where
  onward : opens t ≡ false → closes t ≡ false → IsParted d ts → IsParted d (t ∷ ts)
  onward o k p = record {
    inside = t ∷ p.inside;
    c = p.c;
    behind = p.behind;
    text = ap (λ (z : List Token). t ∷ z) p.text;
    closing = p.closing;
    closed = plain t o k p.closed;
    goes_on = p.goes_on;
  }

  nested : opens t ≡ true → ((e : ℕ) (us : List Token) → length us ≤ n → run (suc e) us ≡ true → IsParted e us) → IsParted (suc d) ts → IsParted d (t ∷ ts)
  nested o again p =
      let q : IsParted d p.behind = again d p.behind (shorter p.inside p.c p.behind ts n p.text (omega (arith, le))) p.goes_on in
      record {
        inside = t ∷ (p.inside ++ p.c ∷ q.inside);
        c = q.c;
        behind = q.behind;
        text = ap (λ (z : List Token). t ∷ z) (p.text ∙ ap (λ (z : List Token). p.inside ++ p.c ∷ z) q.text ∙ sym
            (append_assoc p.inside (p.c ∷ q.inside) (q.c ∷ q.behind)));
        closing = q.closing;
        closed = within t p.c o p.closing p.closed q.closed;
        goes_on = q.goes_on;
      }

valued : (n : ℕ) (ts : List Token) → length ts ≤ n → run 0 ts ≡ true → IsValue ts
valued n [] le e = nothing
valued zero (t ∷ ts) le e = absurd (let no : suc (length ts) ≤ 0 = le in omega (arith, no))
valued (suc n) (t ∷ ts) le e = elim (cases_Bool (ends_piece 0 t)) [
  | inl k ↦ absurd (true≢false (sym e ∙ top_ends t ts k))
  | inr k ↦ elim (cases_Bool (opens t)) [
    | inl o ↦
        let p : IsParted 0 ts = parted n 0 ts (omega (arith, le)) (sym (top_opens t ts k o) ∙ e) in
        let v : IsValue p.behind = valued n p.behind (shorter p.inside p.c p.behind ts n p.text (omega (arith, le))) p.goes_on in
        subst (λ (z : List Token). IsValue (t ∷ z)) (sym p.text) (within t p.c o p.closing p.closed v)
    | inr o ↦
        let both = or_parts (is_byte 44 t) (closes t) k in
        plain t both.0 o both.1 (valued n ts (omega (arith, le)) (sym (top_level t ts k o both.1) ∙ e))
  ]
]

pub run_value : (ts : List Token) → run 0 ts ≡ true → IsValue ts
run_value ts e = valued (length ts) ts (omega arith) e

-- ---- a word and a colon before a value

abbrev Quiet : Token → Type 0
Quiet t = (is_byte 44 t ≡ false) × (opens t ≡ false) × (closes t ≡ false)

word_quiet : (t : Token) → is_word t ≡ true → Quiet t
word_quiet t e =
    let no : (n : ℕ) → is_byte n t ≡ false = word_class t.class e in (
      no 44,
      or_from (is_byte 40 t) (is_byte 91 t || is_byte 123 t) (no 40) (or_from (is_byte 91 t) (is_byte 123 t) (no 91) (no 123)),
      or_from (is_byte 41 t) (is_byte 93 t || is_byte 125 t) (no 41) (or_from (is_byte 93 t) (is_byte 125 t) (no 93) (no 125)),
    )

colon_class : (k : Class) → is_single_class 58 k ≡ true →
    (is_single_class 44 k ≡ false) × ((is_single_class 40 k || (is_single_class 91 k || is_single_class 123 k)) ≡ false)
    × ((is_single_class 41 k || (is_single_class 93 k || is_single_class 125 k)) ≡ false)
colon_class Word e = absurd (false≢true e)
colon_class Register e = absurd (false≢true e)
colon_class Percent e = absurd (false≢true e)
colon_class Node e = absurd (false≢true e)
colon_class Kind e = absurd (false≢true e)
colon_class Symbol e = absurd (false≢true e)
colon_class Float e = absurd (false≢true e)
colon_class Integer e = absurd (false≢true e)
colon_class Text e = absurd (false≢true e)
colon_class (Single b) e = subst (λ (n : ℕ). ((n == 44) ≡ false) × ((n == 40 || (n == 91 || n == 123)) ≡ false) × ((n == 41 || (n == 93 || n == 125)) ≡ false))
    (sym (eqb-true b 58 e)) (refl, refl, refl)

quiet_run : (t : Token) (ts : List Token) → Quiet t → run 0 (t ∷ ts) ≡ run 0 ts
quiet_run t ts q = top_level t ts (or_from (is_byte 44 t) (closes t) q.0 q.2) q.1 q.2

-- a key and its colon change no depth
pub key_run : (key colon : Token) (ts : List Token) → is_word key ≡ true → is_byte 58 colon ≡ true → run 0 (key ∷ colon ∷ ts) ≡ run 0 ts
key_run key colon ts w e = quiet_run key (colon ∷ ts) (word_quiet key w) ∙ quiet_run colon ts (colon_class colon.class e)
