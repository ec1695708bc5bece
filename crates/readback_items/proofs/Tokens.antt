-- How the lexer reads the pieces of a printed line, each before a byte that ends it.
use Rattle.std.proofs.Common.{◌≡◌, ℕ, suc, ℤ, pos, negsuc, ◌+◌, ◌^◌, ◌<◌, Bool, true, false, cond, ◌||◌, eqb, List, [], ◌∷◌, ◌++◌}
use Rattle.std.proofs.Common.{length, Err, refl, sym, subst, ap, ◌∙◌, arith}
use Rattle.std.specs.List.{list_all, list_any, prefix_len}
use Rattle.std.specs.Char.{is_ascii_digit, is_ascii_hexdigit}
use Rattle.std.specs.Fmt.{decimal, signed_decimal}
use Rattle.std.proofs.Math.Dec.{eqb-suc-zero}
use Rattle.std.proofs.lemmas.Bool.{and_parts, and_from, cond-true, cond-false, eqb-true}
use Rattle.std.proofs.lemmas.Bool.Decides.{nat_tests}
use Rattle.rv64_instr.specs.Form.{IsSigned}
use Rattle.read_lexer.specs.declared.fault.LexError.TheVariants.{BadByte}
use Rattle.read_lexer.specs.declared.parts.Class.{Class}
use Rattle.read_lexer.specs.declared.parts.Class.TheVariants.{Word, Register, Percent, Node, Kind, Integer, Single}
use Rattle.read_lexer.specs.Bytes.{is_blank, is_word_start, is_word_byte, word_len}
use Rattle.read_lexer.specs.Front.{token, marked, hexadecimal_len, token_at}
use Rattle.mir_printer.proofs.Cuts.{Stops}
use Rattle.readback_items.proofs.Lexing.{Reads}
use Rattle.readback_items.proofs.Numbers.{prefix_all, decimal_of, no_digit}

-- a byte that ends each token: a space, a comma, brackets, a colon
abbrev pub ends : ℕ → Bool
ends b = list_any (λ c. eqb b c) (32 ∷ 44 ∷ 40 ∷ 41 ∷ 58 ∷ [])

-- a text that begins with one, or none
abbrev pub Ends : List ℕ → Type 0
Ends [] = Unit {0}
Ends (b ∷ bs) = ends b ≡ true

-- no such byte is of a token
ends_cases : (P : ℕ → Type 0) (b : ℕ) → ends b ≡ true → P 32 → P 44 → P 40 → P 41 → P 58 → P b
ends_cases P b is p32 p44 p40 p41 p58 = by (eqb b 32) (eqb b 44) (eqb b 40) (eqb b 41) (eqb b 58) refl refl refl refl refl is where
  same : (c : ℕ) → eqb b c ≡ true → P c → P b
  same c e p = subst P (sym (eqb-true b c e)) p

  by : (v w x y z : Bool) → eqb b 32 ≡ v → eqb b 44 ≡ w → eqb b 40 ≡ x → eqb b 41 ≡ y → eqb b 58 ≡ z →
      (v || (w || (x || (y || (z || false))))) ≡ true → P b
  by true w x y z e f g h k all = same 32 e p32
  by false true x y z e f g h k all = same 44 f p44
  by false false true y z e f g h k all = same 40 g p40
  by false false false true z e f g h k all = same 41 h p41
  by false false false false true e f g h k all = same 58 k p58
  by false false false false false e f g h k all = absurd cc

pub stops_at : (p : ℕ → Bool) → p 32 ≡ false → p 44 ≡ false → p 40 ≡ false → p 41 ≡ false → p 58 ≡ false → (rest : List ℕ) → Ends rest → Stops p rest
stops_at p a b c d e [] is = tt
stops_at p a b c d e (x ∷ rest) is = ends_cases (λ y. p y ≡ false) x is a b c d e

-- ---- by their first byte

pub word_read : (first : ℕ) (bytes rest : List ℕ) → is_word_start first ≡ true → is_blank first ≡ false → list_all is_word_byte bytes ≡ true → Ends rest →
    Reads Word (first ∷ bytes) rest
unfolding token_at
word_read first bytes rest start visible all is = record {
  first = first;
  bytes = bytes;
  parts = refl;
  visible = visible;
  token = λ at.
      let run = prefix_all is_word_byte bytes rest all (stops_at is_word_byte refl refl refl refl refl rest is) in
      cond-true (is_word_start first) (token Word at (1 + prefix_len is_word_byte (bytes ++ rest))) _ start ∙ ap (λ (n : ℕ). token Word at (1 + n)) run;
}

pub marked_read : (class : Class) (at n k : ℕ) → n ≡ suc k → marked class at n ≡ token class at (1 + suc k)
marked_read class at n k e =
    ap (marked class at) e ∙ ap (λ (b : Bool). cond b (Err (BadByte at)) (token class at (1 + suc k))) (eqb-suc-zero k)

-- `$` or `%` and word bytes
pub register_read : (b : ℕ) (bytes rest : List ℕ) → list_all is_word_byte (b ∷ bytes) ≡ true → Ends rest → Reads Register (36 ∷ b ∷ bytes) rest
unfolding token_at
register_read b bytes rest all is = record {
  first = 36;
  bytes = b ∷ bytes;
  parts = refl;
  visible = refl;
  token = λ at.
      let run = prefix_all is_word_byte (b ∷ bytes) rest all (stops_at is_word_byte refl refl refl refl refl rest is) in
      marked_read Register at (prefix_len is_word_byte ((b ∷ bytes) ++ rest)) (length bytes) run;
}

pub percent_read : (b : ℕ) (bytes rest : List ℕ) → list_all is_word_byte (b ∷ bytes) ≡ true → Ends rest → Reads Percent (37 ∷ b ∷ bytes) rest
unfolding token_at
percent_read b bytes rest all is = record {
  first = 37;
  bytes = b ∷ bytes;
  parts = refl;
  visible = refl;
  token = λ at.
      let run = prefix_all is_word_byte (b ∷ bytes) rest all (stops_at is_word_byte refl refl refl refl refl rest is) in
      marked_read Percent at (prefix_len is_word_byte ((b ∷ bytes) ++ rest)) (length bytes) run;
}

-- `!` and digits
pub node_read : (b : ℕ) (bytes rest : List ℕ) → list_all is_ascii_digit (b ∷ bytes) ≡ true → Ends rest → Reads Node (33 ∷ b ∷ bytes) rest
unfolding token_at
node_read b bytes rest all is = record {
  first = 33;
  bytes = b ∷ bytes;
  parts = refl;
  visible = refl;
  token = λ at.
      let run = prefix_all is_ascii_digit (b ∷ bytes) rest all (stops_at is_ascii_digit refl refl refl refl refl rest is) in
      ap (λ (n : ℕ). cond (eqb n 0) (marked Kind at (word_len ((b ∷ bytes) ++ rest))) (marked Node at n)) run
      ∙ (ap (λ (t : Bool). cond t (marked Kind at (word_len ((b ∷ bytes) ++ rest))) (marked Node at (suc (length bytes)))) (eqb-suc-zero (length bytes))
      ∙ marked_read Node at (suc (length bytes)) (length bytes) refl);
}

-- `!` and a word
pub kind_read : (b : ℕ) (bytes rest : List ℕ) → is_word_start b ≡ true → is_ascii_digit b ≡ false → list_all is_word_byte bytes ≡ true → Ends rest →
    Reads Kind (33 ∷ b ∷ bytes) rest
unfolding token_at
kind_read b bytes rest start other all is = record {
  first = 33;
  bytes = b ∷ bytes;
  parts = refl;
  visible = refl;
  token = λ at.
      let run = prefix_all is_word_byte bytes rest all (stops_at is_word_byte refl refl refl refl refl rest is) in
      ap (λ (t : Bool). cond (eqb (cond t (1 + prefix_len is_ascii_digit (bytes ++ rest)) 0) 0) (marked Kind at (word_len (b ∷ (bytes ++ rest))))
      (marked Node at (cond t (1 + prefix_len is_ascii_digit (bytes ++ rest)) 0))) other
      ∙ (ap (λ (t : Bool). marked Kind at (cond t (1 + prefix_len is_word_byte (bytes ++ rest)) 0)) start
      ∙ marked_read Kind at (1 + prefix_len is_word_byte (bytes ++ rest)) (length bytes) (omega (arith, run)));
}

-- a byte that stands for itself
pub single_read : (b : ℕ) (rest : List ℕ) → ((at : ℕ) (after : List ℕ) → token_at false at b after ≡ token (Single b) at 1) → is_blank b ≡ false →
    Reads (Single b) (b ∷ []) rest
single_read b rest alone visible = record { first = b; bytes = []; parts = refl; visible = visible; token = λ at. alone at rest }

-- ---- numbers

digit_starts : (b : ℕ) → is_ascii_digit b ≡ true → (is_word_start b ≡ false) × (is_blank b ≡ false)
digit_starts b is = (grind (arith, nat_tests, is), grind (arith, nat_tests, is))

no_x : (rest : List ℕ) → Ends rest → Stops (λ b. eqb b 120) rest
no_x rest is = stops_at (λ b. eqb b 120) refl refl refl refl refl rest is

-- behind digits there are no hexadecimal ones
no_hexadecimal : (first : ℕ) (bytes rest : List ℕ) → list_all is_ascii_digit bytes ≡ true → Ends rest → hexadecimal_len first (bytes ++ rest) ≡ 0
no_hexadecimal first [] [] all is = refl
no_hexadecimal first [] (b ∷ rest) all is =
    let x : eqb b 120 ≡ false = no_x (b ∷ rest) is in
    ap (λ (t : Bool). cond (eqb first 48) (cond t (prefix_len is_ascii_hexdigit rest) 0) 0) x ∙ none (eqb first 48)
  where
    none : (t : Bool) → ◌≡◌ {A = ℕ} (cond t 0 0) 0
    none true = refl
    none false = refl
no_hexadecimal first (b ∷ bytes) rest all is =
    let x = no_digit b 120 (and_parts (is_ascii_digit b) (list_all is_ascii_digit bytes) all).0 refl in
    ap (λ (t : Bool). cond (eqb first 48) (cond t (prefix_len is_ascii_hexdigit (bytes ++ rest)) 0) 0) x ∙ none (eqb first 48)
  where
    none : (t : Bool) → ◌≡◌ {A = ℕ} (cond t 0 0) 0
    none true = refl
    none false = refl

digits_read : (first : ℕ) (bytes rest : List ℕ) → is_ascii_digit first ≡ true → list_all is_ascii_digit bytes ≡ true → Ends rest →
    Reads Integer (first ∷ bytes) rest
unfolding token_at
digits_read first bytes rest digit all is = record {
  first = first;
  bytes = bytes;
  parts = refl;
  visible = (digit_starts first digit).1;
  token = λ at.
      let run = prefix_all is_ascii_digit bytes rest all (stops_at is_ascii_digit refl refl refl refl refl rest is) in
      cond-false (is_word_start first) _ _ (digit_starts first digit).0
      ∙ (cond-true (is_ascii_digit first) _ _ digit
      ∙ (ap (λ (n : ℕ). cond (eqb n 0) (token Integer at (1 + prefix_len is_ascii_digit (bytes ++ rest))) (token Integer at (2 + n)))
      (no_hexadecimal first bytes rest all is)
      ∙ ap (λ (n : ℕ). token Integer at (1 + n)) run));
}

pub integer_token : (i : ℤ) (rest : List ℕ) → IsSigned i → Ends rest → Reads Integer (signed_decimal i) rest
unfolding token_at
integer_token (pos n) rest small is =
    let d = decimal_of n (omega (arith, small)) in
    subst (λ (t : List ℕ). Reads Integer t rest) (sym d.parts) (digits_read d.first d.rest rest d.digit d.digits is)
integer_token (negsuc n) rest small is =
    let d = decimal_of (suc n) (omega (arith, small)) in
    let all : list_all is_ascii_digit (d.first ∷ d.rest) ≡ true = and_from (is_ascii_digit d.first) (list_all is_ascii_digit d.rest) d.digit d.digits in
    subst (λ (t : List ℕ). Reads Integer (45 ∷ t) rest) (sym d.parts) (record {
      first = 45;
      bytes = d.first ∷ d.rest;
      parts = refl;
      visible = refl;
      token = λ at.
          let run = prefix_all is_ascii_digit (d.first ∷ d.rest) rest all (stops_at is_ascii_digit refl refl refl refl refl rest is) in
          ap (λ (n : ℕ). cond (eqb n 0) (token (Single 45) at 1) (token Integer at (1 + n))) run
          ∙ ap (λ (t : Bool). cond t (token (Single 45) at 1) (token Integer at (1 + suc (length d.rest)))) (eqb-suc-zero (length d.rest));
    })

pub decimal_token : (n : ℕ) (rest : List ℕ) → n < 2 ^ 63 → Ends rest → Reads Integer (decimal n) rest
decimal_token n rest small is = integer_token (pos n) rest small is

digit_word : (b : ℕ) → is_ascii_digit b ≡ true → is_word_byte b ≡ true
digit_word b is = grind (arith, nat_tests, is)

digits_word : (bytes : List ℕ) → list_all is_ascii_digit bytes ≡ true → list_all is_word_byte bytes ≡ true
digits_word [] all = refl
digits_word (b ∷ bytes) all =
    let parts = and_parts (is_ascii_digit b) (list_all is_ascii_digit bytes) all in
    and_from (is_word_byte b) (list_all is_word_byte bytes) (digit_word b parts.0) (digits_word bytes parts.1)

-- a decimal number is of word bytes
pub decimal_word : (n : ℕ) → n < 2 ^ 64 → list_all is_word_byte (decimal n) ≡ true
decimal_word n small =
    let d = decimal_of n small in
    ap (list_all is_word_byte) d.parts ∙ digits_word (d.first ∷ d.rest) (and_from (is_ascii_digit d.first) (list_all is_ascii_digit d.rest) d.digit d.digits)

-- `%N`
pub virtual_token : (n : ℕ) (rest : List ℕ) → n < 2 ^ 64 → Ends rest → Reads Percent (37 ∷ decimal n) rest
virtual_token n rest small is =
    let d = decimal_of n small in
    subst (λ (t : List ℕ). Reads Percent (37 ∷ t) rest) (sym d.parts)
    (percent_read d.first d.rest rest (ap (list_all is_word_byte) (sym d.parts) ∙ decimal_word n small) is)

-- `!N`
pub node_token : (n : ℕ) (rest : List ℕ) → n < 2 ^ 64 → Ends rest → Reads Node (33 ∷ decimal n) rest
node_token n rest small is =
    let d = decimal_of n small in
    subst (λ (t : List ℕ). Reads Node (33 ∷ t) rest) (sym d.parts)
    (node_read d.first d.rest rest (and_from (is_ascii_digit d.first) (list_all is_ascii_digit d.rest) d.digit d.digits) is)
