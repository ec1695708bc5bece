-- No token at a place is longer than the one that is read there.
use Rattle.std.proofs.Common.{◌≡◌, ℕ, zero, suc, ◌+◌, ◌<◌, ◌≤◌, ◌==◌, ◌&&◌, ◌||◌, Bool, true, false, not, cond, List, [], ◌∷◌, length, take, drop, Result, Ok, Err}
use Rattle.std.proofs.Common.{refl, sym, ap, subst, arith, inl, inr, ◌⊎◌}
use Rattle.std.specs.Prelude.{codes}
use Rattle.std.specs.List.{prefix_len, position_or_len, list_all, list_any, AllByRecursion}
use Rattle.std.specs.Char.{is_ascii_digit, is_ascii_hexdigit}
use Rattle.std.proofs.lemmas.Bool.{eqb-true, ne_eqb, eq-eqb, lt-ltb}
use Rattle.std.proofs.lemmas.Bool.Decides.{nat_tests}
use Rattle.std.proofs.lemmas.List.{length-take-le}
use Rattle.read_lexer.specs.declared.fault.LexError.{LexError}
use Rattle.read_lexer.specs.declared.parts.Class.{Class}
use Rattle.read_lexer.specs.declared.parts.Class.TheVariants.{Word, Register, Percent, Node, Kind, Symbol, Integer, Float, Text, Single}
use Rattle.read_lexer.specs.declared.parts.Token.{Token}
use Rattle.read_lexer.specs.Bytes.{is_word_start, is_word_byte, is_symbol_byte, is_quote, is_single, word_len, fraction_len}
use Rattle.read_lexer.specs.Front.{token, marked, quoted, metadata_at, symbol_at, hexadecimal_len, decimal_at, integer_at, minus_at, token_at}
use Rattle.read_lexer.specs.Spelling.{is_run, is_word, is_closed_by, is_quoted_name, is_hexadecimal, is_float, spells}
use Rattle.read_lexer.proofs.Floats.{float-le}

-- ---- tests

pub both : (a b : Bool) → (a && b) ≡ true → (a ≡ true) × (b ≡ true)
both true true e = (refl, refl)
both true false e = absurd cc
both false b e = absurd cc

pub one_of : (a b : Bool) → (a || b) ≡ true → (a ≡ true) ⊎ (b ≡ true)
one_of true b e = inl refl
one_of false b e = inr e

-- ---- runs

all-le-step : (here : Bool) (all : Bool) (n run : ℕ) → (all ≡ true → n ≤ run) → (here && all) ≡ true → suc n ≤ cond here (1 + run) 0
all-le-step true all n run later is = let h = later is in omega arith
all-le-step false all n run later is = absurd cc

-- a front whose bytes all pass is no longer than the run at the front
pub all-le : (p : ℕ → Bool) (xs : List ℕ) (n : ℕ) → n ≤ length xs → list_all p (take n xs) ≡ true → n ≤ prefix_len p xs
all-le p xs zero le all = omega arith
all-le p [] (suc n) le all = absurd (omega arith)
all-le p (x ∷ xs) (suc n) le all = all-le-step (p x) (list_all p (take n xs)) n (prefix_len p xs) (λ rest. all-le p xs n (omega arith) rest) all

run-le : (p : ℕ → Bool) (xs : List ℕ) (n : ℕ) → n ≤ length xs → is_run p (take n xs) ≡ true → (0 < n) × (n ≤ prefix_len p xs)
run-le p xs zero le all = absurd cc
run-le p [] (suc n) le all = absurd (omega arith)
run-le p (x ∷ xs) (suc n) le all = (omega arith, all-le p (x ∷ xs) (suc n) le all)

word-le : (xs : List ℕ) (n : ℕ) → n ≤ length xs → is_word (take n xs) ≡ true → (0 < n) × (n ≤ word_len xs)
word-le xs zero le is = absurd cc
word-le [] (suc n) le is = absurd (omega arith)
word-le (x ∷ xs) (suc n) le is =
    let w = both (is_word_start x) (list_all is_word_byte (take n xs)) is in
    let h = all-le is_word_byte xs n (omega arith) w.1 in
    (omega arith, rw w.0 (omega arith))

-- a front that ends at a quote ends at the first one
abbrev EndsAtFirst : ℕ → ℕ → ℕ → Type 0
EndsAtFirst n first len = (n ≡ first + 1) × (first < len)

closed-le-step : (here : Bool) (n first len : ℕ) (bs : List ℕ) (rest : Bool) → length bs ≡ n → (rest ≡ true → EndsAtFirst n first len) →
    cond here (length bs == 0) rest ≡ true → EndsAtFirst (suc n) (cond (not here) (1 + first) 0) (suc len)
closed-le-step true n first len bs rest count later is = let e : length bs ≡ 0 = eqb-true _ 0 is in (omega arith, omega arith)
closed-le-step false n first len bs rest count later is = let h = later is in (omega (arith, h.0), omega (arith, h.1))

closed-le : (quote : ℕ) (xs : List ℕ) (n : ℕ) → n ≤ length xs → is_closed_by quote (take n xs) ≡ true →
    EndsAtFirst n (position_or_len (λ b. b == quote) xs) (length xs)
closed-le quote xs zero le is = absurd cc
closed-le quote [] (suc n) le is = absurd (omega arith)
closed-le quote (x ∷ xs) (suc n) le is =
    closed-le-step (x == quote) n (position_or_len (λ b. b == quote) xs) (length xs) (take n xs) (is_closed_by quote (take n xs)) (length-take-le n xs (omega
    arith)) (λ rest. closed-le quote xs n (omega arith) rest) is

-- ---- the end of what is read

abbrev pub end_of : ℕ → Result Token LexError → ℕ
end_of at (Ok t) = t.end
end_of at (Err e) = at

token-end : (class : Class) (at len : ℕ) → end_of at (token class at len) ≡ at + len
token-end class at len = refl

far : (a b c : ℕ) → a ≤ b → b ≤ c → a ≤ c
far a b c le more = omega (arith, le, more)

-- a number is at least as long as the integer at its front
decimal_at_least : (floats : Bool) (at len : ℕ) (behind : List ℕ) → at + len ≤ end_of at (decimal_at floats at len behind)
decimal_at_least floats at len behind =
    elim (floats && not (fraction_len behind == 0))
    as (λ z. at + len ≤ end_of at (cond z (token Float at (len + fraction_len behind)) (token Integer at len))) [ true ↦ omega arith | false ↦ omega arith ]

marked-end : (class : Class) (at run : ℕ) → 0 < run → end_of at (marked class at run) ≡ at + (1 + run)
marked-end class at run more = let some : run ≡ 0 → ⊥ = λ e. omega arith in rw (ne_eqb run 0 some) refl

quoted-end : (class : Class) (at open_at quote : ℕ) (after : List ℕ) → position_or_len (λ b. b == quote) after < length after →
    end_of at (quoted class at open_at quote after) ≡ open_at + 2 + position_or_len (λ b. b == quote) after
quoted-end class at open_at quote after lt = rw (lt-ltb _ _ lt) refl

module _ (floats : Bool) (at : ℕ) (after : List ℕ) (n : ℕ) (le : n ≤ length after) where
  word_reaches : (first : ℕ) → is_word (first ∷ take n after) ≡ true → at + n + 1 ≤ end_of at (token_at floats at first after)
  unfolding token_at
  word_reaches first is =
      let w = both (is_word_start first) (list_all is_word_byte (take n after)) is in
      let start : is_word_start first ≡ true = w.0 in
      let h = all-le is_word_byte after n le w.1 in
      rw start (omega arith)

  register_reaches : is_run is_word_byte (take n after) ≡ true → at + n + 1 ≤ end_of at (token_at floats at 36 after)
  unfolding token_at
  register_reaches is = let h = run-le is_word_byte after n le is in omega (arith, marked-end Register at (prefix_len is_word_byte after) (omega arith))

  percent_reaches : is_run is_word_byte (take n after) ≡ true → at + n + 1 ≤ end_of at (token_at floats at 37 after)
  unfolding token_at
  percent_reaches is = let h = run-le is_word_byte after n le is in omega (arith, marked-end Percent at (prefix_len is_word_byte after) (omega arith))

  node_reaches : is_run is_ascii_digit (take n after) ≡ true → at + n + 1 ≤ end_of at (token_at floats at 33 after)
  unfolding token_at
  node_reaches is =
      let h = run-le is_ascii_digit after n le is in
      let some : prefix_len is_ascii_digit after ≡ 0 → ⊥ = λ e. omega arith in
      rw (ne_eqb (prefix_len is_ascii_digit after) 0 some) (omega (arith, marked-end Node at (prefix_len is_ascii_digit after) (omega arith)))

  minus_reaches : is_run is_ascii_digit (take n after) ≡ true → at + n + 1 ≤ end_of at (token_at floats at 45 after)
  unfolding token_at
  minus_reaches is =
      let run = prefix_len is_ascii_digit after in
      let h = run-le is_ascii_digit after n le is in
      let some : run ≡ 0 → ⊥ = λ e. omega arith in
      rw (ne_eqb run 0 some)
      (far (at + n + 1) (at + (1 + run)) (end_of at (decimal_at floats at (1 + run) (drop run after))) (omega (arith, h.1))
      (decimal_at_least floats at (1 + run) (drop run after)))

  minus_float_reaches : floats ≡ true → is_float (take n after) ≡ true → at + n + 1 ≤ end_of at (token_at floats at 45 after)
  unfolding token_at
  minus_float_reaches on is =
      let run = prefix_len is_ascii_digit after in
      let h = float-le after n le is in
      let some : run ≡ 0 → ⊥ = λ e. omega (arith, h.0, e) in
      let more : fraction_len (drop run after) ≡ 0 → ⊥ = λ e. omega (arith, h.1, e) in
      rw (ne_eqb run 0 some, on, ne_eqb (fraction_len (drop run after)) 0 more) (omega (arith, h.2))

  text_reaches_double : is_closed_by 34 (take n after) ≡ true → at + n + 1 ≤ end_of at (token_at floats at 34 after)
  unfolding token_at
  text_reaches_double is = let h = closed-le 34 after n le is in omega (arith, h.0, quoted-end Text at at 34 after h.1)

  text_reaches_single : is_closed_by 39 (take n after) ≡ true → at + n + 1 ≤ end_of at (token_at floats at 39 after)
  unfolding token_at
  text_reaches_single is = let h = closed-le 39 after n le is in omega (arith, h.0, quoted-end Text at at 39 after h.1)

-- behind `@` and `&`
symbol_at-reaches : (at : ℕ) (after : List ℕ) (n : ℕ) → n ≤ length after → (is_run is_symbol_byte (take n after) || is_quoted_name (take n after)) ≡ true →
    at + n + 1 ≤ end_of at (symbol_at at after)
symbol_at-reaches at after zero le is = absurd cc
symbol_at-reaches at [] (suc n) le is = absurd (omega arith)
symbol_at-reaches at (b ∷ bs) (suc n) le is =
    elim (one_of (is_run is_symbol_byte (take (suc n) (b ∷ bs))) (is_quoted_name (take (suc n) (b ∷ bs))) is) [
      | inl run ↦ bare (b == 34) refl run
      | inr name ↦ quoted_name name
    ]
  where
    bare : (double : Bool) → (b == 34) ≡ double → is_run is_symbol_byte (take (suc n) (b ∷ bs)) ≡ true →
        at + suc n + 1 ≤ end_of at (cond double (quoted Symbol at (at + 1) 34 bs) (marked Symbol at (prefix_len is_symbol_byte (b ∷ bs))))
    bare true e run =
        let w = both (is_symbol_byte b) (list_all is_symbol_byte (take n bs)) run in
        let f : is_symbol_byte 34 ≡ true = subst (λ (x : ℕ). is_symbol_byte x ≡ true) (eqb-true b 34 e) w.0 in
        absurd cc
    bare false e run =
        let h = run-le is_symbol_byte (b ∷ bs) (suc n) le run in
        omega (arith, h.0, h.1, marked-end Symbol at (prefix_len is_symbol_byte (b ∷ bs)) (omega (arith, h.0, h.1)))

    quoted_name : is_quoted_name (take (suc n) (b ∷ bs)) ≡ true → at + suc n + 1 ≤ end_of at (symbol_at at (b ∷ bs))
    quoted_name name =
        let w = both (b == 34) (is_closed_by 34 (take n bs)) name in
        let is_double : (b == 34) ≡ true = w.0 in
        let h = closed-le 34 bs n (omega arith) w.1 in
        rw is_double (omega (arith, h.0, quoted-end Symbol at (at + 1) 34 bs h.1))

-- ---- classes of bytes apart

start_no_digit : (b : ℕ) → is_word_start b ≡ true → is_ascii_digit b ≡ false
start_no_digit b is = grind (arith, nat_tests)

digit_no_start : (b : ℕ) → is_ascii_digit b ≡ true → is_word_start b ≡ false
digit_no_start b is = grind (arith, nat_tests)

-- what holds at each byte of a list holds at one that is among them
among : (P : ℕ → Type 0) (b : ℕ) (cs : List ℕ) → list_any (λ c. b == c) cs ≡ true → AllByRecursion P cs → P b
among P b [] is all = absurd cc
among P b (c ∷ cs) is all =
    elim (one_of (b == c) (list_any (λ c. b == c) cs) is) [
      | inl same ↦ subst P (sym (eqb-true b c same)) all.0
      | inr later ↦ among P b cs later all.1
    ]

-- ---- the other classes

minus_at_least : (floats : Bool) (at : ℕ) (after : List ℕ) → at + 1 ≤ end_of at (minus_at floats at after)
minus_at_least floats at after =
    let run = prefix_len is_ascii_digit after in
    elim (run == 0) as (λ z. at + 1 ≤ end_of at (cond z (token (Single 45) at 1) (decimal_at floats at (1 + run) (drop run after)))) [
      | true ↦ omega arith
      | false ↦ far (at + 1) (at + (1 + run)) (end_of at (decimal_at floats at (1 + run) (drop run after))) (omega arith)
          (decimal_at_least floats at (1 + run) (drop run after))
    ]

integer_at_least : (floats : Bool) (at first : ℕ) (after : List ℕ) → at + 1 ≤ end_of at (integer_at floats at first after)
integer_at_least floats at first after =
    let run = prefix_len is_ascii_digit after in
    elim (hexadecimal_len first after == 0) as (λ z. at + 1 ≤ end_of at (cond z (decimal_at floats at (1 + run) (drop run after)) (token Integer at (2 +
    hexadecimal_len first after)))) [
      | true ↦ far (at + 1) (at + (1 + run)) (end_of at (decimal_at floats at (1 + run) (drop run after))) (omega arith)
          (decimal_at_least floats at (1 + run) (drop run after))
      | false ↦ omega arith
    ]

same_either : (b : Bool) (n : ℕ) → cond b n n ≡ n
same_either true n = refl
same_either false n = refl

-- no digit stands behind `0x`, since `x` is none
hexadecimal_or_digits : (first : ℕ) (after : List ℕ) → (hexadecimal_len first after ≡ 0) ⊎ (prefix_len is_ascii_digit after ≡ 0)
hexadecimal_or_digits first [] = inl refl
hexadecimal_or_digits first (b ∷ bs) = by_x (b == 120) refl
  where
    by_x : (x : Bool) → (b == 120) ≡ x → (cond (first == 48) (cond x (prefix_len is_ascii_hexdigit bs) 0) 0 ≡ 0) ⊎ (prefix_len is_ascii_digit (b ∷ bs) ≡ 0)
    by_x true e = inr (subst (λ (c : ℕ). prefix_len is_ascii_digit (c ∷ bs) ≡ 0) (sym (eqb-true b 120 e)) refl)
    by_x false e = inl (same_either (first == 48) 0)

digits_reach : (floats : Bool) → (at first : ℕ) (after : List ℕ) (n : ℕ) → n ≤ length after → list_all is_ascii_digit (take n after) ≡ true →
    at + n + 1 ≤ end_of at (integer_at floats at first after)
digits_reach floats at first after n le is =
    let h = all-le is_ascii_digit after n le is in
    elim (hexadecimal_or_digits first after) [
      | inl none ↦
          let run = prefix_len is_ascii_digit after in
          rw (eq-eqb (hexadecimal_len first after) 0 none)
          (far (at + n + 1) (at + (1 + run)) (end_of at (decimal_at floats at (1 + run) (drop run after))) (omega (arith, h))
          (decimal_at_least floats at (1 + run) (drop run after)))
      | inr none ↦ let least = integer_at_least floats at first after in omega arith
    ]

hexadecimal_reaches : (floats : Bool) → (at first : ℕ) (after : List ℕ) (n : ℕ) → n ≤ length after → (first == 48) ≡ true → is_hexadecimal (take n after) ≡ true →
    at + n + 1 ≤ end_of at (integer_at floats at first after)
hexadecimal_reaches floats at first after zero le zero_is is = absurd cc
hexadecimal_reaches floats at first [] (suc n) le zero_is is = absurd (omega arith)
hexadecimal_reaches floats at first (b ∷ bs) (suc n) le zero_is is =
    let w = both (b == 120) (is_run is_ascii_hexdigit (take n bs)) is in
    let x_is : (b == 120) ≡ true = w.0 in
    let h = run-le is_ascii_hexdigit bs n (omega arith) w.1 in
    let some : prefix_len is_ascii_hexdigit bs ≡ 0 → ⊥ = λ e. omega (arith, h.0, h.1) in
    rw (zero_is, x_is, ne_eqb (prefix_len is_ascii_hexdigit bs) 0 some) (omega (arith, h.0, h.1))

-- no fraction stands behind `0x`
fraction_no_hexadecimal : (first : ℕ) (after : List ℕ) → 0 < fraction_len (drop (prefix_len is_ascii_digit after) after) → hexadecimal_len first after ≡ 0
fraction_no_hexadecimal first [] more = refl
fraction_no_hexadecimal first (b ∷ bs) more = by_x (b == 120) refl
  where
    none_behind : b ≡ 120 → 0 < fraction_len (drop (prefix_len is_ascii_digit (b ∷ bs)) (b ∷ bs)) → ⊥
    none_behind e some =
        let f : 0 < 0 = subst (λ (c : ℕ). 0 < fraction_len (drop (prefix_len is_ascii_digit (c ∷ bs)) (c ∷ bs))) e some in
        omega (arith, f)

    by_x : (x : Bool) → (b == 120) ≡ x → cond (first == 48) (cond x (prefix_len is_ascii_hexdigit bs) 0) 0 ≡ 0
    by_x true e = absurd (none_behind (eqb-true b 120 e) more)
    by_x false e = same_either (first == 48) 0

some_digit : (here : Bool) (k : ℕ) → not (cond here (1 + k) 0 == 0) ≡ true → here ≡ true
some_digit true k e = refl
some_digit false k e = absurd cc

digit_float_reaches : (floats : Bool) (at first : ℕ) (after : List ℕ) (n : ℕ) → n ≤ length after → floats ≡ true → is_ascii_digit first ≡ true →
    is_float (first ∷ take n after) ≡ true → at + n + 1 ≤ end_of at (integer_at floats at first after)
digit_float_reaches floats at first after n le on digit is =
    let run = prefix_len is_ascii_digit after in
    let e : 1 + run ≡ suc run = omega arith in
    let whole : prefix_len is_ascii_digit (first ∷ after) ≡ suc run = rw (digit, e) refl in
    let h = float-le (first ∷ after) (suc n) (omega (arith, le)) is in
    let behind : drop (prefix_len is_ascii_digit (first ∷ after)) (first ∷ after) ≡ drop run after = ap (λ (m : ℕ). drop m (first ∷ after)) whole in
    let count = ap fraction_len behind in
    let some : 0 < fraction_len (drop run after) = omega (arith, h.1, count) in
    let hexadecimal = fraction_no_hexadecimal first after some in
    let more : fraction_len (drop run after) ≡ 0 → ⊥ = λ z. omega (arith, some, z) in
    rw (eq-eqb (hexadecimal_len first after) 0 hexadecimal, on, ne_eqb (fraction_len (drop run after)) 0 more)
    (omega (arith, h.2, whole, count))

single_reaches : (floats : Bool) → (at : ℕ) (after : List ℕ) (first : ℕ) → is_single first ≡ true → at + 1 ≤ end_of at (token_at floats at first after)
unfolding token_at
single_reaches floats at after first is =
    among (λ b. at + 1 ≤ end_of at (token_at floats at b after)) first (codes "=,():{}[]<>|+-") is (
      omega arith,
      (
        omega arith,
        (
          omega arith,
          (
            omega arith,
            (
              omega arith,
              (
                omega arith,
                (
                  omega arith,
                  (
                    omega arith,
                    (
                      omega arith,
                      (
                        omega arith,
                        (
                          omega arith,
                          (omega arith, (omega arith, (minus_at_least floats at after, tt))),
                        ),
                      ),
                    ),
                  ),
                ),
              ),
            ),
          ),
        ),
      ),
    )

kind_reaches : (at : ℕ) (after : List ℕ) (n : ℕ) → n ≤ length after → is_word (take n after) ≡ true → at + n + 1 ≤ end_of at (metadata_at at after)
kind_reaches at after zero le is = absurd cc
kind_reaches at [] (suc n) le is = absurd (omega arith)
kind_reaches at (x ∷ xs) (suc n) le is =
    let w = both (is_word_start x) (list_all is_word_byte (take n xs)) is in
    let h = word-le (x ∷ xs) (suc n) le is in
    let none : is_ascii_digit x ≡ false = start_no_digit x w.0 in
    rw none (omega (arith, h.0, h.1, marked-end Kind at (word_len (x ∷ xs)) (omega (arith, h.0, h.1))))

-- ---- every class

abbrev Reaches : (floats : Bool) → ℕ → List ℕ → ℕ → ℕ → Type 0
Reaches floats at after n first = at + n + 1 ≤ end_of at (token_at floats at first after)

-- a text at a place that is a token is no longer than the token that is read there
pub reaches : (floats : Bool) → (class : Class) (at first : ℕ) (after : List ℕ) (n : ℕ) → n ≤ length after → spells floats class (first ∷ take n after) ≡ true →
    at + n + 1 ≤ end_of at (token_at floats at first after)
unfolding token_at
reaches floats Word at first after n le is = word_reaches floats at after n le first is
reaches floats Register at first after n le is =
    let w = both (first == 36) (is_run is_word_byte (take n after)) is in
    subst (Reaches floats at after n) (sym (eqb-true first 36 w.0)) (register_reaches floats at after n le w.1)
reaches floats Percent at first after n le is =
    let w = both (first == 37) (is_run is_word_byte (take n after)) is in
    subst (Reaches floats at after n) (sym (eqb-true first 37 w.0)) (percent_reaches floats at after n le w.1)
reaches floats Node at first after n le is =
    let w = both (first == 33) (is_run is_ascii_digit (take n after)) is in
    subst (Reaches floats at after n) (sym (eqb-true first 33 w.0)) (node_reaches floats at after n le w.1)
reaches floats Kind at first after n le is =
    let w = both (first == 33) (is_word (take n after)) is in
    subst (Reaches floats at after n) (sym (eqb-true first 33 w.0)) (kind_reaches at after n le w.1)
reaches floats Symbol at first after n le is =
    let w = both (first == 64 || first == 38) (is_run is_symbol_byte (take n after) || is_quoted_name (take n after)) is in
    elim (one_of (first == 64) (first == 38) w.0) [
      | inl e ↦ subst (Reaches floats at after n) (sym (eqb-true first 64 e)) (symbol_at-reaches at after n le w.1)
      | inr e ↦ subst (Reaches floats at after n) (sym (eqb-true first 38 e)) (symbol_at-reaches at after n le w.1)
    ]
reaches floats Integer at first after n le is =
    elim (one_of (is_ascii_digit first && (list_all is_ascii_digit (take n after) || (first == 48 && is_hexadecimal (take n after)))) (first ==
    45 && is_run is_ascii_digit (take n after)) is) [
      | inl number ↦
          let w = both (is_ascii_digit first) (list_all is_ascii_digit (take n after) || (first == 48 && is_hexadecimal (take n after))) number in
          let digit : is_ascii_digit first ≡ true = w.0 in
          let start : is_word_start first ≡ false = digit_no_start first w.0 in
          rw (start, digit) (elim (one_of (list_all is_ascii_digit (take n after)) (first == 48 && is_hexadecimal (take n after)) w.1) [
            | inl all ↦ digits_reach floats at first after n le all
            | inr hex ↦ let v = both (first == 48) (is_hexadecimal (take n after)) hex in hexadecimal_reaches floats at first after n le v.0 v.1
          ])
      | inr minus ↦
          let w = both (first == 45) (is_run is_ascii_digit (take n after)) minus in
          subst (Reaches floats at after n) (sym (eqb-true first 45 w.0)) (minus_reaches floats at after n le w.1)
    ]
reaches floats Float at first after n le is =
    let w = both floats (cond (first == 45) (is_float (take n after)) (is_float (first ∷ take n after))) is in
    by_minus (first == 45) refl w.0 w.1
  where
    by_minus : (z : Bool) → (first == 45) ≡ z → floats ≡ true → cond z (is_float (take n after)) (is_float (first ∷ take n after)) ≡ true →
        at + n + 1 ≤ end_of at (token_at floats at first after)
    by_minus true e on float = subst (Reaches floats at after n) (sym (eqb-true first 45 e)) (minus_float_reaches floats at after n le on float)
    by_minus false e on float =
        let v = both (not (prefix_len is_ascii_digit (first ∷ take n after) == 0)) _ float in
        let digit = some_digit (is_ascii_digit first) (prefix_len is_ascii_digit (take n after)) v.0 in
        let start : is_word_start first ≡ false = digit_no_start first digit in
        rw (start, digit) (digit_float_reaches floats at first after n le on digit float)
reaches floats Text at first after n le is =
    let w = both (is_quote first) (is_closed_by first (take n after)) is in
    let Closes : ℕ → Type 0 = λ b. is_closed_by b (take n after) ≡ true → Reaches floats at after n b in
    elim (one_of (first == 34) (first == 39) w.0) [
      | inl e ↦ subst Closes (sym (eqb-true first 34 e)) (text_reaches_double floats at after n le) w.1
      | inr e ↦ subst Closes (sym (eqb-true first 39 e)) (text_reaches_single floats at after n le) w.1
    ]
reaches floats (Single byte) at first after n le is =
    let w = both (first == byte && is_single first) (length (take n after) == 0) is in
    let v = both (first == byte) (is_single first) w.0 in
    let none = eqb-true (length (take n after)) 0 w.1 in
    let len = length-take-le n after le in
    omega (arith, single_reaches floats at after first v.1)
