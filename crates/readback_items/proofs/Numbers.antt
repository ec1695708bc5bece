-- Numbers as they are printed: digits, and what they are read as.
use Rattle.std.proofs.Common.{◌≡◌, ℕ, suc, ℤ, pos, negsuc, ◌+◌, ◌*◌, ◌%◌, ◌^◌, ◌<◌, ◌≤◌, Bool, true, false, cond, ◌&&◌, eqb, min}
use Rattle.std.proofs.Common.{List, [], ◌∷◌, ◌++◌, length, take, drop, Some, None, refl, sym, ap, ◌∙◌, arith, append-nil}
use Rattle.std.specs.List.{list_all, prefix_len}
use Rattle.std.specs.Char.{is_ascii_digit, digit_value}
use Rattle.std.specs.Fmt.{decimal, signed_decimal}
use Rattle.std.specs.Str.Parse.{digits_value_after}
use Rattle.std.proofs.Math.Dec.{eqb-suc-zero}
use Rattle.std.proofs.lemmas.Bool.{and_parts, and_from, ne_eqb, lt-ltb}
use Rattle.std.proofs.lemmas.Bool.Decides.{nat_tests}
use Rattle.std.proofs.lemmas.Fmt.{decimal_by_steps_wide, decimal_is_IsNumeral_wide}
use Rattle.std.proofs.lemmas.List.Folds.{list_all-append}
use Rattle.read_metadata.specs.Number.{value_behind}
use Rattle.read_token.specs.declared.lexeme.Number.TheVariants.{Fits, Large}
use Rattle.read_token.specs.Number.{BEYOND, narrow, narrow_value, limited, unsigned, negated, sized, unsigned_of, number_of}
use Rattle.read_token.specs.Word.{is_name_behind, named_number}
use Rattle.mir_printer.proofs.Cuts.{Stops}
use Rattle.base_ids.specs.Limits.{MAX_NUMBER}
use Rattle.rv64_instr.specs.Form.{IsSigned}

-- ---- runs

pub prefix_all : (p : ℕ → Bool) (bytes rest : List ℕ) → list_all p bytes ≡ true → Stops p rest → prefix_len p (bytes ++ rest) ≡ length bytes
prefix_all p [] [] all stops = refl
prefix_all p [] (r ∷ rest) all stops = ap (λ (b : Bool). cond b (1 + prefix_len p rest) 0) stops
prefix_all p (x ∷ bytes) rest all stops =
    let parts = and_parts (p x) (list_all p bytes) all in
    let more = prefix_all p bytes rest parts.1 stops in
    ap (λ (b : Bool). cond b (1 + prefix_len p (bytes ++ rest)) 0) parts.0 ∙ (let e : 1 + prefix_len p (bytes ++ rest) ≡ suc (length bytes) = omega
    (arith, more) in e)

-- ---- digits

pub record Decimal (n : ℕ) : Type 0 where
  pub first : ℕ
  pub rest : List ℕ
  pub parts : decimal n ≡ first ∷ rest
  pub digit : is_ascii_digit first ≡ true
  pub digits : list_all is_ascii_digit rest ≡ true
  pub value : value_behind 10 0 (decimal n) ≡ n

record Digits (text : List ℕ) : Type 0 where
  first : ℕ
  rest : List ℕ
  parts : text ≡ first ∷ rest
  digit : is_ascii_digit first ≡ true
  digits : list_all is_ascii_digit rest ≡ true

digit_is : (n : ℕ) → n < 10 → is_ascii_digit (48 + n) ≡ true
digit_is n low = grind (arith, nat_tests)

digits_more : (text : List ℕ) (d : ℕ) → d < 10 → Digits text → Digits (text ++ (48 + d) ∷ [])
digits_more text d small is = record {
  first = is.first;
  rest = is.rest ++ (48 + d) ∷ [];
  parts = ap (λ (t : List ℕ). t ++ (48 + d) ∷ []) is.parts;
  digit = is.digit;
  digits = list_all-append is_ascii_digit is.rest ((48 + d) ∷ []) ∙ and_from (list_all is_ascii_digit is.rest) (is_ascii_digit (48 + d) && true) is.digits
      (and_from (is_ascii_digit (48 + d)) true (digit_is d small) refl);
}

digits_of : (n : ℕ) → n < 10 ^ 64 → Digits (decimal n)
digits_of n small = decimal_by_steps_wide (λ m text. Digits text)
    (λ m one. record { first = 48 + m; rest = []; parts = refl; digit = digit_is m one; digits = refl })
    (λ m text ten before. digits_more text (m % 10) (omega arith) before)
    n small

same_value : (n : ℕ) (ds : List ℕ) → value_behind 10 n ds ≡ digits_value_after 10 n ds
same_value n [] = refl
same_value n (d ∷ ds) = same_value (n * 10 + digit_value d) ds

pub decimal_wide : (n : ℕ) → n < 10 ^ 64 → Decimal n
decimal_wide n small =
    let is = digits_of n small in
    record {
      first = is.first;
      rest = is.rest;
      parts = is.parts;
      digit = is.digit;
      digits = is.digits;
      value = same_value 0 (decimal n) ∙ (decimal_is_IsNumeral_wide n small).1;
    }

pub decimal_of : (n : ℕ) → n < 2 ^ 64 → Decimal n
decimal_of n small = decimal_wide n (omega (arith, small))

-- a digit is none of the bytes that mean something else
pub no_digit : (b c : ℕ) → is_ascii_digit b ≡ true → is_ascii_digit c ≡ false → eqb b c ≡ false
no_digit b c is not_is = ne_eqb b c (λ e. let both : true ≡ false = sym is ∙ (ap is_ascii_digit e ∙ not_is) in cc)

-- ---- what they are read as

pub limited_decimal : (n : ℕ) → n ≤ MAX_NUMBER → limited (decimal n) ≡ n
unfolding limited
limited_decimal n small =
    let is = decimal_of n (omega (arith, small)) in
    ap (λ (m : ℕ). min m BEYOND) is.value ∙ omega (arith, small)

narrow_decimal : (n : ℕ) → n ≤ 2 ^ 63 → narrow_value 10 (decimal n) ≡ Some n
unfolding narrow_value
narrow_decimal n small =
    let is = decimal_of n (omega (arith, small)) in
    ap narrow is.value ∙ ap (λ (b : Bool). cond b (Some n) None) (lt-ltb n (2 ^ 128) (omega (arith, small)))

unsigned_digits : (a : ℕ) (bs : List ℕ) → list_all is_ascii_digit bs ≡ true → unsigned_of a bs ≡ sized unsigned (narrow_value 10 (a ∷ bs))
unsigned_digits a [] digits = refl
unsigned_digits a (b ∷ bs) digits =
    let x = no_digit b 120 (and_parts (is_ascii_digit b) (list_all is_ascii_digit bs) digits).0 refl in
    by (eqb a 48) (eqb b 120) x where
      by : (s t : Bool) → t ≡ false → cond (s && t) (sized unsigned (narrow_value 16 bs)) (sized unsigned (narrow_value 10 (a ∷ b ∷ bs))) ≡
          sized unsigned (narrow_value 10 (a ∷ b ∷ bs))
      by true false e = refl
      by false t e = refl
      by true true e = absurd cc

pub integer_read : (i : ℤ) → IsSigned i → number_of (signed_decimal i) ≡ Fits i
integer_read (pos n) small =
    let is = decimal_of n (omega (arith, small)) in
    let minus = no_digit is.first 45 is.digit refl in
    ap number_of is.parts
    ∙ (ap (λ (b : Bool). cond b (sized negated (narrow_value 10 is.rest)) (unsigned_of is.first is.rest)) minus
    ∙ (unsigned_digits is.first is.rest is.digits
    ∙ (ap (λ (t : List ℕ). sized unsigned (narrow_value 10 t)) (sym is.parts)
    ∙ (ap (sized unsigned) (narrow_decimal n (omega (arith, small)))
    ∙ ap (λ (b : Bool). cond b (Fits (pos n)) Large) (lt-ltb n (2 ^ 63) small)))))
integer_read (negsuc n) small =
    ap (sized negated) (narrow_decimal (suc n) (omega (arith, small))) ∙ ap (λ (b : Bool). cond b (Fits (negsuc n)) Large) (lt-ltb n (2 ^ 63) small)

-- digits alone name a number
pub named_decimal : (n : ℕ) → n ≤ MAX_NUMBER → named_number (decimal n) ≡ Some n
unfolding named_number
named_decimal n small =
    let is = decimal_of n (omega (arith, small)) in
    let all : list_all is_ascii_digit (decimal n) ≡ true = ap (list_all is_ascii_digit) is.parts ∙ and_from (is_ascii_digit is.first)
    (list_all is_ascii_digit is.rest) is.digit is.digits in
    let run : prefix_len is_ascii_digit (decimal n) ≡ length (decimal n) =
    ap (prefix_len is_ascii_digit) (sym (append-nil (decimal n))) ∙ prefix_all is_ascii_digit (decimal n) [] all tt in
    let some : eqb (length (decimal n)) 0 ≡ false = ap (λ (t : List ℕ). eqb (length t) 0) is.parts ∙ eqb-suc-zero (length is.rest) in
    ap (λ (k : ℕ). cond (eqb k 0) None (cond (is_name_behind (drop k (decimal n))) (Some (limited (take k (decimal n)))) None)) run
    ∙ (ap (λ (b : Bool). cond b None (cond (is_name_behind (drop (length (decimal n)) (decimal n))) (Some (limited (take (length (decimal n))
    (decimal n)))) None)) some
    ∙ (ap (λ (t : List ℕ). cond (is_name_behind t) (Some (limited (take (length (decimal n)) (decimal n)))) None) (drop_whole (decimal n))
    ∙ (ap (λ (t : List ℕ). Some (limited t)) (take_whole (decimal n)) ∙ ap (λ (m : ℕ). Some m) (limited_decimal n small))))
  where
    drop_whole : (xs : List ℕ) → drop (length xs) xs ≡ []
    drop_whole [] = refl
    drop_whole (x ∷ xs) = drop_whole xs

    take_whole : (xs : List ℕ) → take (length xs) xs ≡ xs
    take_whole [] = refl
    take_whole (x ∷ xs) = ap (λ (ys : List ℕ). x ∷ ys) (take_whole xs)
