-- What is read at a place is a token of its class.
use Rattle.std.proofs.Common.{◌≡◌, ℕ, suc, ◌+◌, ◌-◌, ◌<◌, ◌==◌, ◌&&◌, ◌||◌, Bool, true, false, not, cond, ltb, List, [], ◌∷◌, length, take, drop, Some, None, Result}
use Rattle.std.proofs.Common.{Ok, Err, refl, sym, subst, arith}
use Rattle.std.specs.List.{prefix_len, position_or_len, list_all}
use Rattle.std.specs.Char.{is_ascii_digit, is_ascii_hexdigit}
use Rattle.std.proofs.lemmas.Bool.{eqb-true, eqb-false, eq-eqb, ltb-true, and_parts}
use Rattle.std.proofs.lemmas.Bool.Decides.{nat_tests}
use Rattle.read_lexer.proofs.Floats.{float-take, float-first}
use Rattle.std.proofs.lemmas.List.{length-take-le}
use Rattle.std.proofs.lemmas.List.Sums.{prefix_len-le-length}
use Rattle.read_lexer.specs.declared.fault.LexError.{LexError}
use Rattle.read_lexer.specs.declared.fault.LexError.TheVariants.{BadByte}
use Rattle.read_lexer.specs.declared.parts.Class.{Class}
use Rattle.read_lexer.specs.declared.parts.Class.TheVariants.{Word, Register, Percent, Node, Kind, Symbol, Integer, Float, Text, Single}
use Rattle.read_lexer.specs.declared.parts.Token.{Token}
use Rattle.read_lexer.specs.Bytes.{is_word_start, is_word_byte, is_symbol_byte, is_quote, is_single, word_len, fraction_len}
use Rattle.read_lexer.specs.Front.{token, marked, quoted, closed, metadata_at, symbol_at, hexadecimal_len, decimal_at, integer_at, minus_at, token_at}
use Rattle.read_lexer.specs.Spelling.{is_run, is_word, is_closed_by, is_hexadecimal, is_float, spells}

-- the text of what is read from a byte on is one of its class
abbrev pub Spelled : (floats : Bool) → ℕ → ℕ → List ℕ → Result Token LexError → Type 0
Spelled floats at first after (Ok t) = spells floats t.class (first ∷ take (t.end - (at + 1)) after) ≡ true
Spelled floats at first after (Err e) = Unit {0}

-- ---- runs

all-step : (here : Bool) (k : ℕ) (x : ℕ) (xs : List ℕ) (p : ℕ → Bool) → p x ≡ here → list_all p (take k xs) ≡ true →
    list_all p (take (cond here (1 + k) 0) (x ∷ xs)) ≡ true
all-step true k x xs p is rest = let e : 1 + k ≡ suc k = omega arith in rw (e, is) rest
all-step false k x xs p is rest = refl

all-take : (p : ℕ → Bool) (xs : List ℕ) → list_all p (take (prefix_len p xs) xs) ≡ true
all-take p [] = refl
all-take p (x ∷ xs) = all-step (p x) (prefix_len p xs) x xs p refl (all-take p xs)

run-of : (p : ℕ → Bool) (xs : List ℕ) → 0 < length xs → list_all p xs ≡ true → is_run p xs ≡ true
run-of p [] some all = absurd (omega arith)
run-of p (x ∷ xs) some all = all

run-take : (p : ℕ → Bool) (xs : List ℕ) → (prefix_len p xs == 0) ≡ false → is_run p (take (prefix_len p xs) xs) ≡ true
run-take p xs some =
    let len = length-take-le (prefix_len p xs) xs (prefix_len-le-length p xs) in
    run-of p (take (prefix_len p xs) xs) (omega (arith, eqb-false _ _ some)) (all-take p xs)

word-step : (start : Bool) (x : ℕ) (xs : List ℕ) → is_word_start x ≡ start → (cond start (1 + prefix_len is_word_byte xs) 0 == 0) ≡ false →
    is_word (take (cond start (1 + prefix_len is_word_byte xs) 0) (x ∷ xs)) ≡ true
word-step true x xs is some = let e : 1 + prefix_len is_word_byte xs ≡ suc (prefix_len is_word_byte xs) = omega arith in rw (e, is) (all-take is_word_byte xs)
word-step false x xs is some = absurd cc

word-take : (xs : List ℕ) → (word_len xs == 0) ≡ false → is_word (take (word_len xs) xs) ≡ true
word-take [] some = absurd cc
word-take (x ∷ xs) some = word-step (is_word_start x) x xs refl some

closed-step : (here : Bool) (quote x : ℕ) (xs : List ℕ) (k : ℕ) → (x == quote) ≡ here → (k < length xs → is_closed_by quote (take (k + 1) xs) ≡ true)
    → cond (not here) (1 + k) 0 < suc (length xs) → is_closed_by quote (take (cond (not here) (1 + k) 0 + 1) (x ∷ xs)) ≡ true
closed-step true quote x xs k is later lt = rw is refl
closed-step false quote x xs k is later lt = let e : 1 + k + 1 ≡ suc (k + 1) = omega arith in rw (e, is) (later (omega arith))

closed-take : (quote : ℕ) (xs : List ℕ) → position_or_len (λ b. b == quote) xs < length xs →
    is_closed_by quote (take (position_or_len (λ b. b == quote) xs + 1) xs) ≡ true
closed-take quote [] lt = absurd (omega arith)
closed-take quote (x ∷ xs) lt = closed-step (x == quote) quote x xs (position_or_len (λ b. b == quote) xs) refl (λ l. closed-take quote xs l) lt

-- ---- each form

by_test : (P : Result Token LexError → Type 0) (b : Bool) (x y : Result Token LexError) → (b ≡ true → P x) → (b ≡ false → P y) → P (cond b x y)
by_test P true x y p q = p refl
by_test P false x y p q = q refl

module _ (floats : Bool) (at first : ℕ) (after : List ℕ) where
  token-spelled : (class : Class) (run : ℕ) → spells floats class (first ∷ take run after) ≡ true → Spelled floats at first after (token class at (1 + run))
  token-spelled class run is = let e : at + (1 + run) - (at + 1) ≡ run = omega arith in rw e is

  marked-spelled : (class : Class) (run : ℕ) → ((run == 0) ≡ false → spells floats class (first ∷ take run after) ≡ true) →
      Spelled floats at first after (marked class at run)
  marked-spelled class run is = by_test (Spelled floats at first after) (run == 0) (Err (BadByte at)) (token class at (1 + run)) (λ _. tt) (λ some. token-spelled
      class run (is some))

or_right : (a b : Bool) → b ≡ true → (a || b) ≡ true
or_right true b is = refl
or_right false b is = is

-- what is closed by the next quote
closed-spelled : (floats : Bool) → (at first : ℕ) (after : List ℕ) (class : Class) (open_at quote : ℕ) (behind : List ℕ)
    → (position_or_len (λ b. b == quote) behind < length behind → Spelled floats at first after (Ok (record {
      class = class;
      start = at;
      end =
          open_at + 2 + position_or_len (λ b. b == quote) behind;
    })))
    → (found : Bool) → ltb (position_or_len (λ b. b == quote) behind) (length behind) ≡ found →
    Spelled floats at first after (closed class at open_at (cond found (Some (position_or_len (λ b. b == quote) behind)) None))
closed-spelled floats at first after class open_at quote behind is true e = is (ltb-true _ _ e)
closed-spelled floats at first after class open_at quote behind is false e = tt

text-spelled : (floats : Bool) → (at first : ℕ) (after : List ℕ) → is_quote first ≡ true → Spelled floats at first after (quoted Text at at first after)
text-spelled floats at first after quote =
    closed-spelled floats at first after Text at first after (λ lt.
    let e : at + 2 + position_or_len (λ b. b == first) after - (at + 1) ≡ position_or_len (λ b. b == first) after + 1 = omega arith in
    rw (e, quote) (closed-take first after lt)) _ refl

symbol-spelled : (floats : Bool) → (at first : ℕ) (after : List ℕ) → (first == 64 || first == 38) ≡ true → Spelled floats at first after (symbol_at at after)
symbol-spelled floats at first [] mark = tt
symbol-spelled floats at first (b ∷ bs) mark =
    by_test (Spelled floats at first (b ∷ bs)) (b == 34) (quoted Symbol at (at + 1) 34 bs) (marked Symbol at (prefix_len is_symbol_byte (b ∷ bs)))
    (λ double. closed-spelled floats at first (b ∷ bs) Symbol (at + 1) 34 bs (λ lt.
    let e : at + 1 + 2 + position_or_len (λ c. c == 34) bs - (at + 1) ≡ suc (position_or_len (λ c. c == 34) bs + 1) = omega arith in
    let name : (b == 34 && is_closed_by 34 (take (position_or_len (λ c. c == 34) bs + 1) bs)) ≡ true = rw double (closed-take 34 bs lt) in
    rw (e, mark) (or_right _ _ name)) _ refl)
    (λ _. marked-spelled floats at first (b ∷ bs) Symbol (prefix_len is_symbol_byte (b ∷ bs)) (λ some. let run = run-take is_symbol_byte (b ∷ bs) some in
    rw (mark, run) refl))

hexadecimal-spelled : (first : ℕ) (after : List ℕ) → (hexadecimal_len first after == 0) ≡ false →
    (first == 48 && is_hexadecimal (take (1 + hexadecimal_len first after) after)) ≡ true
hexadecimal-spelled first [] some = absurd cc
hexadecimal-spelled first (b ∷ bs) some = by_tests (first == 48) (b == 120) refl refl some
  where
    by_tests : (z x : Bool) → (first == 48) ≡ z → (b == 120) ≡ x → (cond z (cond x (prefix_len is_ascii_hexdigit bs) 0) 0 == 0) ≡ false →
        (z && is_hexadecimal (take (1 + cond z (cond x (prefix_len is_ascii_hexdigit bs) 0) 0) (b ∷ bs))) ≡ true
    by_tests true true z_is x_is more = let e : 1 + prefix_len is_ascii_hexdigit bs ≡ suc (prefix_len is_ascii_hexdigit bs) = omega arith in
        rw (e, x_is) (run-take is_ascii_hexdigit bs more)
    by_tests true false z_is x_is more = absurd cc
    by_tests false x z_is x_is more = absurd cc

is_false : (b : Bool) → not b ≡ true → b ≡ false
is_false true e = absurd cc
is_false false e = refl

digit_no_minus : (b : ℕ) → is_ascii_digit b ≡ true → (b == 45) ≡ false
digit_no_minus b is = grind (arith, nat_tests)

-- the text of a floating-point literal with its first byte
abbrev is_signed_float : ℕ → List ℕ → Bool
is_signed_float first rest = cond (first == 45) (is_float rest) (is_float (first ∷ rest))

decimal-spelled : (floats : Bool) (at first : ℕ) (after : List ℕ) →
    spells floats Integer (first ∷ take (prefix_len is_ascii_digit after) after) ≡ true →
    ((fraction_len (drop (prefix_len is_ascii_digit after) after) == 0) ≡ false →
    is_signed_float first (take (prefix_len is_ascii_digit after + fraction_len (drop (prefix_len is_ascii_digit after) after)) after) ≡ true) →
    Spelled floats at first after (decimal_at floats at (1 + prefix_len is_ascii_digit after) (drop (prefix_len is_ascii_digit after) after))
decimal-spelled floats at first after integer float =
    let run = prefix_len is_ascii_digit after in
    let fraction = fraction_len (drop run after) in
    by_test (Spelled floats at first after) (floats && not (fraction == 0)) (token Float at (1 + run + fraction)) (token Integer at (1 + run))
    (λ is.
    let w = and_parts floats (not (fraction == 0)) is in
    let e : at + (1 + run + fraction) - (at + 1) ≡ run + fraction = omega arith in
    rw (e, w.0) (float (is_false (fraction == 0) w.1)))
    (λ _. token-spelled floats at first after Integer run integer)

integer-spelled : (floats : Bool) (at first : ℕ) (after : List ℕ) → is_ascii_digit first ≡ true → Spelled floats at first after (integer_at floats at first after)
integer-spelled floats at first after digit =
    let run = prefix_len is_ascii_digit after in
    by_test (Spelled floats at first after) (hexadecimal_len first after == 0) (decimal_at floats at (1 + run) (drop run after))
    (token Integer at (2 + hexadecimal_len first after))
    (λ _. decimal-spelled floats at first after (let all = all-take is_ascii_digit after in rw (digit, all) refl)
    (λ more. rw (digit_no_minus first digit) (float-first first after digit more)))
    (λ some.
    let e : at + (2 + hexadecimal_len first after) - (at + 1) ≡ 1 + hexadecimal_len first after = omega arith in
    let hex = or_right (list_all is_ascii_digit (take (1 + hexadecimal_len first after) after)) _ (hexadecimal-spelled first after some) in
    rw (e, digit, hex) refl)

minus-spelled : (floats : Bool) (at : ℕ) (after : List ℕ) → Spelled floats at 45 after (minus_at floats at after)
minus-spelled floats at after =
    let run = prefix_len is_ascii_digit after in
    by_test (Spelled floats at 45 after) (run == 0) (token (Single 45) at 1) (decimal_at floats at (1 + run) (drop run after))
    (λ _. let e : at + 1 - (at + 1) ≡ 0 = omega arith in rw e refl)
    (λ some. decimal-spelled floats at 45 after (run-take is_ascii_digit after some) (λ more. float-take after some more))

metadata-spelled : (floats : Bool) → (at : ℕ) (after : List ℕ) → Spelled floats at 33 after (metadata_at at after)
metadata-spelled floats at after =
    by_test (Spelled floats at 33 after) (prefix_len is_ascii_digit after == 0) (marked Kind at (word_len after)) (marked Node at (prefix_len is_ascii_digit after))
    (λ _. marked-spelled floats at 33 after Kind (word_len after) (λ some. word-take after some))
    (λ _. marked-spelled floats at 33 after Node (prefix_len is_ascii_digit after) (λ some. run-take is_ascii_digit after some))

pub token_at-spelled : (floats : Bool) → (at first : ℕ) (after : List ℕ) → Spelled floats at first after (token_at floats at first after)
unfolding token_at
token_at-spelled floats at first after =
    let P = λ (r : Result Token LexError). Spelled floats at first after r in
    by_test P (is_word_start first) (token Word at (1 + prefix_len is_word_byte after)) _ (λ start. token-spelled floats at first after Word (prefix_len is_word_byte
    after) (rw start (all-take is_word_byte after)))
    (λ _. by_test P (is_ascii_digit first) (integer_at floats at first after) _ (λ digit. integer-spelled floats at first after digit)
    (λ _. by_test P (first == 45) (minus_at floats at after) _ (λ is. subst (λ (f : ℕ). Spelled floats at f after (minus_at floats at after)) (sym (eqb-true first 45 is))
    (minus-spelled floats at after))
    (λ _. by_test P (first == 36) (marked Register at (prefix_len is_word_byte after)) _ (λ is. subst (λ (f : ℕ). Spelled floats at f after (marked Register at
    (prefix_len is_word_byte after))) (sym (eqb-true first 36 is)) (marked-spelled floats at 36 after Register (prefix_len is_word_byte after) (λ some. run-take
    is_word_byte after some)))
    (λ _. by_test P (first == 37) (marked Percent at (prefix_len is_word_byte after)) _ (λ is. subst (λ (f : ℕ). Spelled floats at f after (marked Percent at
    (prefix_len is_word_byte after))) (sym (eqb-true first 37 is)) (marked-spelled floats at 37 after Percent (prefix_len is_word_byte after) (λ some. run-take
    is_word_byte after some)))
    (λ _. by_test P (first == 33) (metadata_at at after) _ (λ is. subst (λ (f : ℕ). Spelled floats at f after (metadata_at at after)) (sym (eqb-true first 33 is))
    (metadata-spelled floats at after))
    (λ _. by_test P (first == 64 || first == 38) (symbol_at at after) _ (λ is. symbol-spelled floats at first after is)
    (λ _. by_test P (is_quote first) (quoted Text at at first after) _ (λ is. text-spelled floats at first after is)
    (λ _. by_test P (is_single first) (token (Single first) at 1) (Err (BadByte at)) (λ is. let e : at + 1 - (at + 1) ≡ 0 = omega arith in
    let same = eq-eqb first first refl in rw (e, same, is) refl) (λ _. tt)))))))))
