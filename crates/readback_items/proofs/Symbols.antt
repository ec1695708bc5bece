-- Symbols as they are printed, and the names that they are read as.
use Rattle.std.proofs.Common.{◌≡◌, ℕ, suc, ◌+◌, ◌-◌, ◌*◌, ◌/◌, ◌%◌, ◌<◌, Bool, true, false, cond, not, ◌&&◌, ◌||◌, eqb, List, [], ◌∷◌, ◌++◌}
use Rattle.std.proofs.Common.{Ok, length, take, drop, Option, Some, None, All, refl, sym, subst, ap, ◌∙◌, arith, append_assoc}
use Rattle.std.specs.Prelude.{position, unwrap_or, is_some, nat_lt, nat_le, nat_eq}
use Rattle.std.specs.List.{list_all, flat_map, prefix_len, position_or_len}
use Rattle.std.specs.Char.{digit_value, is_ascii_hexdigit}
use Rattle.std.proofs.lemmas.Bool.{and_parts, and_from, cond-false, eqb-true, lt-ltb}
use Rattle.std.proofs.lemmas.Bool.Decides.{nat_tests}
use Rattle.std.proofs.lemmas.List.{length-append}
use Rattle.std.proofs.lemmas.List.Elements.{All-head, All-tail}
use Rattle.read_lexer.specs.declared.parts.Class.TheVariants.{Symbol}
use Rattle.read_lexer.specs.Bytes.{is_symbol_byte}
use Rattle.read_lexer.specs.Front.{closed, quoted, token_at}
use Rattle.read_metadata.specs.Definition.{name_of}
use Rattle.read_metadata.specs.Text.{escape, unescaped_behind}
use Rattle.mir_printer.specs.Spelling.{is_bare, upper_hex_digit, quoted_byte, is_empty, symbol_text}
use Rattle.readback_items.proofs.Lexing.{Reads}
use Rattle.readback_items.proofs.Numbers.{prefix_all}
use Rattle.readback_items.proofs.Registers.{all_below, below}
use Rattle.readback_items.proofs.Tokens.{Ends, stops_at, marked_read}

-- ---- bare names

bare_symbol : (b : ℕ) → is_bare b ≡ true → is_symbol_byte b ≡ true
bare_symbol b is = grind (arith, nat_tests, is)

bare_symbols : (bs : List ℕ) → list_all is_bare bs ≡ true → list_all is_symbol_byte bs ≡ true
bare_symbols [] all = refl
bare_symbols (b ∷ bs) all =
    let parts = and_parts (is_bare b) (list_all is_bare bs) all in
    and_from (is_symbol_byte b) (list_all is_symbol_byte bs) (bare_symbol b parts.0) (bare_symbols bs parts.1)

bare_unquoted : (b : ℕ) → is_bare b ≡ true → eqb b 34 ≡ false
bare_unquoted b is = grind (arith, nat_tests, is)

-- ---- bytes in quotes

abbrev pub plain : ℕ → Bool
plain b = nat_le 32 b && nat_le b 126 && not (nat_eq b 34 || nat_eq b 92)

digits_are : all_below (λ n. (nat_eq (digit_value (upper_hex_digit n)) n && is_ascii_hexdigit (upper_hex_digit n)) && not (nat_eq
    (upper_hex_digit n) 34)) 16 ≡ true
digits_are = refl

record Digit (n : ℕ) : Type 0 where
  value : digit_value (upper_hex_digit n) ≡ n
  is : is_ascii_hexdigit (upper_hex_digit n) ≡ true
  unquoted : eqb (upper_hex_digit n) 34 ≡ false

not_true : (b : Bool) → not b ≡ true → b ≡ false
not_true true e = absurd cc
not_true false e = refl

digit : (n : ℕ) → n < 16 → Digit n
digit n small =
    let all = below (λ m. (nat_eq (digit_value (upper_hex_digit m)) m && is_ascii_hexdigit (upper_hex_digit m)) && not (nat_eq (upper_hex_digit m) 34)) 16 n
    digits_are small in
    let parts = and_parts (nat_eq (digit_value (upper_hex_digit n)) n && is_ascii_hexdigit (upper_hex_digit n)) (not (nat_eq (upper_hex_digit n) 34)) all in
    let first = and_parts (nat_eq (digit_value (upper_hex_digit n)) n) (is_ascii_hexdigit (upper_hex_digit n)) parts.0 in
    record {
      value = eqb-true (digit_value (upper_hex_digit n)) n first.0;
      is = first.1;
      unquoted = not_true (nat_eq (upper_hex_digit n) 34) parts.1;
    }

-- what a byte that stands for itself keeps: it is neither a quote nor a backslash
plain_is : (b : ℕ) → plain b ≡ true → (eqb b 34 ≡ false) × (eqb b 92 ≡ false)
plain_is b is = (grind (arith, nat_tests, is), grind (arith, nat_tests, is))

pub no_escape : (b : ℕ) (bs : List ℕ) → eqb b 92 ≡ false → escape (b ∷ bs) ≡ None
no_escape b [] other = refl
no_escape b (x ∷ []) other = refl
no_escape b (x ∷ y ∷ bs) other = ap (λ (t : Bool). cond (t && (is_ascii_hexdigit x && is_ascii_hexdigit y)) (Some
    (16 * digit_value x + digit_value y)) None) other

-- the bytes of a name in quotes stand for the name
unquoted : (name : List ℕ) → All (λ b. b < 256) name → unescaped_behind 0 (flat_map quoted_byte name) ≡ name
unfolding unescaped_behind
unquoted [] bytes = refl
unquoted (b ∷ name) bytes = by (plain b) refl (unquoted name (All-tail (λ (x : ℕ). x < 256) b name bytes)) where
  small : b < 256
  small = All-head (λ (x : ℕ). x < 256) b name bytes

  by : (t : Bool) → plain b ≡ t → unescaped_behind 0 (flat_map quoted_byte name) ≡ name →
      unescaped_behind 0 (cond t (b ∷ []) (92 ∷ upper_hex_digit (b / 16) ∷ upper_hex_digit (b % 16) ∷ []) ++ flat_map quoted_byte name) ≡ b ∷ name
  by true is rest =
      let none = no_escape b (flat_map quoted_byte name) (plain_is b is).1 in
      ap (λ (o : Option ℕ). unwrap_or o b ∷ unescaped_behind (cond (is_some o) 2 0) (flat_map quoted_byte name)) none ∙ ap (λ (ns : List ℕ). b ∷ ns) rest
  by false is rest =
      let high = digit (b / 16) (omega (arith, small)) in
      let low = digit (b % 16) (omega arith) in
      let both : (is_ascii_hexdigit (upper_hex_digit (b / 16)) && is_ascii_hexdigit (upper_hex_digit (b % 16))) ≡ true = and_from _ _ high.is low.is in
      let value : 16 * digit_value (upper_hex_digit (b / 16)) + digit_value (upper_hex_digit (b % 16)) ≡ b = (let h = high.value in let l = low.value in
      omega (arith, h, l)) in
      ap (λ (t : Bool). unwrap_or (cond t (Some (16 * digit_value (upper_hex_digit (b / 16)) + digit_value (upper_hex_digit (b % 16)))) None) 92
      ∷ unescaped_behind (cond (is_some (cond t (Some (16 * digit_value (upper_hex_digit (b / 16)) + digit_value (upper_hex_digit (b % 16)))) None)) 2 0)
      (upper_hex_digit (b / 16) ∷ upper_hex_digit (b % 16) ∷ flat_map quoted_byte name)) both
      ∙ (λ i. value i ∷ rest i)

no_quotes_more : (p : ℕ → Bool) (xs ys : List ℕ) → list_all p xs ≡ true → list_all p ys ≡ true → list_all p (xs ++ ys) ≡ true
no_quotes_more p [] ys all more = more
no_quotes_more p (x ∷ xs) ys all more =
    let parts = and_parts (p x) (list_all p xs) all in and_from (p x) (list_all p (xs ++ ys)) parts.0 (no_quotes_more p xs ys parts.1 more)

-- no quote stands in them
pub unclosed : (name : List ℕ) → All (λ b. b < 256) name → list_all (λ b. not (eqb b 34)) (flat_map quoted_byte name) ≡ true
unclosed [] bytes = refl
unclosed (b ∷ name) bytes =
    no_quotes_more (λ x. not (eqb x 34)) (quoted_byte b) (flat_map quoted_byte name) (one (plain b) refl) (unclosed name (All-tail (λ (x : ℕ). x < 256) b name
    bytes))
  where
    one : (t : Bool) → plain b ≡ t → list_all (λ x. not (eqb x 34)) (cond t (b ∷ []) (92 ∷ upper_hex_digit (b / 16) ∷ upper_hex_digit (b % 16) ∷ [])) ≡ true
    one true is = ap (λ (q : Bool). not q && true) (plain_is b is).0
    one false is =
        let small = All-head (λ (x : ℕ). x < 256) b name bytes in
        (λ i. not ((digit (b / 16) (omega (arith, small))).unquoted i) && (not ((digit (b % 16) (omega arith)).unquoted i) && true))

pub first_quote : (bs rest : List ℕ) → list_all (λ b. not (eqb b 34)) bs ≡ true → position_or_len (λ b. eqb b 34) (bs ++ 34 ∷ rest) ≡ length bs
first_quote [] rest all = refl
first_quote (b ∷ bs) rest all =
    let parts = and_parts (not (eqb b 34)) (list_all (λ x. not (eqb x 34)) bs) all in
    let more = first_quote bs rest parts.1 in
    ap (λ (t : Bool). cond t (1 + position_or_len (λ x. eqb x 34) (bs ++ 34 ∷ rest)) 0) parts.0
    ∙ (let e : 1 + position_or_len (λ x. eqb x 34) (bs ++ 34 ∷ rest) ≡ suc (length bs) = omega (arith, more) in e)

pub quote_at : (bs rest : List ℕ) → list_all (λ b. not (eqb b 34)) bs ≡ true → position (λ b. eqb b 34) (bs ++ 34 ∷ rest) ≡ Some (length bs)
quote_at bs rest all =
    let first = first_quote bs rest all in
    ap (λ (n : ℕ). cond (nat_lt n (length (bs ++ 34 ∷ rest))) (Some n) None) first
    ∙ ap (λ (t : Bool). cond t (Some (length bs)) None) (lt-ltb (length bs) (length (bs ++ 34 ∷ rest)) (omega (arith, length-append bs (34 ∷ rest))))

-- ---- symbols

-- the text of a symbol, behind its `@`
behind_at : List ℕ → List ℕ
behind_at name = cond (not (is_empty name) && list_all is_bare name) name (34 ∷ (flat_map quoted_byte name ++ 34 ∷ []))

-- a name in quotes, as a token and as a name
quoted_token : (name rest : List ℕ) → All (λ b. b < 256) name → Reads Symbol (64 ∷ 34 ∷ (flat_map quoted_byte name ++ 34 ∷ [])) rest
unfolding token_at
quoted_token name rest bytes = record {
  first = 64;
  bytes = 34 ∷ (flat_map quoted_byte name ++ 34 ∷ []);
  parts = refl;
  visible = refl;
  token = λ at.
      let q = flat_map quoted_byte name in
      let size = length-append q (34 ∷ []) in
      ap (λ (t : List ℕ). quoted Symbol at (at + 1) 34 t) (append_assoc q (34 ∷ []) rest)
      ∙ (ap (closed Symbol at (at + 1)) (quote_at q rest (unclosed name bytes))
      ∙ ap (λ (n : ℕ). Ok (record { class = Symbol; start = at; end = n })) (let e : at + 1 + 2 + length q ≡ at + (1 + length (34 ∷ (q ++ 34 ∷ []))) =
      omega (arith, size) in e));
}

quoted_name : (name : List ℕ) → All (λ b. b < 256) name → name_of (34 ∷ (flat_map quoted_byte name ++ 34 ∷ [])) ≡ name
quoted_name name bytes =
    let q = flat_map quoted_byte name in
    let size = length-append q (34 ∷ []) in
    let n : length (34 ∷ (q ++ 34 ∷ [])) - 1 - 1 ≡ length q = omega (arith, size) in
    ap (λ (k : ℕ). unescaped_behind 0 (take k (q ++ 34 ∷ []))) n ∙ ap (unescaped_behind 0) (front q (34 ∷ [])) ∙ unquoted name bytes
  where
    front : (xs ys : List ℕ) → take (length xs) (xs ++ ys) ≡ xs
    front [] [] = refl
    front [] (y ∷ ys) = refl
    front (x ∷ xs) ys = ap (λ (zs : List ℕ). x ∷ zs) (front xs ys)

bare_token : (b : ℕ) (bs rest : List ℕ) → list_all is_bare (b ∷ bs) ≡ true → Ends rest → Reads Symbol (64 ∷ b ∷ bs) rest
unfolding token_at
bare_token b bs rest all is = record {
  first = 64;
  bytes = b ∷ bs;
  parts = refl;
  visible = refl;
  token = λ at.
      let parts = and_parts (is_bare b) (list_all is_bare bs) all in
      let run = prefix_all is_symbol_byte (b ∷ bs) rest (bare_symbols (b ∷ bs) all) (stops_at is_symbol_byte refl refl refl refl refl rest is) in
      cond-false (eqb b 34) _ _ (bare_unquoted b parts.0) ∙ marked_read Symbol at (prefix_len is_symbol_byte (b ∷ (bs ++ rest))) (length bs) run;
}

pub record IsSymbol (name rest : List ℕ) : Type 0 where
  pub token : Reads Symbol (symbol_text name) rest
  pub name_is : name_of (drop 1 (symbol_text name)) ≡ name

pub symbol_of : (name rest : List ℕ) → All (λ b. b < 256) name → Ends rest → IsSymbol name rest
symbol_of [] rest bytes is = record { token = quoted_token [] rest bytes; name_is = quoted_name [] bytes }
symbol_of (b ∷ bs) rest bytes is = by (list_all is_bare (b ∷ bs)) refl where
  by : (t : Bool) → list_all is_bare (b ∷ bs) ≡ t → IsSymbol (b ∷ bs) rest
  by true all = record {
    token = subst (λ (x : Bool). Reads Symbol (64 ∷ cond x (b ∷ bs) (34 ∷ (flat_map quoted_byte (b ∷ bs) ++ 34 ∷ []))) rest) (sym all)
        (bare_token b bs rest all is);
    name_is = ap (λ (x : Bool). name_of (cond x (b ∷ bs) (34 ∷ (flat_map quoted_byte (b ∷ bs) ++ 34 ∷ [])))) all
        ∙ cond-false (eqb b 34) _ _ (bare_unquoted b (and_parts (is_bare b) (list_all is_bare bs) all).0);
  }
  by false all = record {
    token = subst (λ (x : Bool). Reads Symbol (64 ∷ cond x (b ∷ bs) (34 ∷ (flat_map quoted_byte (b ∷ bs) ++ 34 ∷ []))) rest) (sym all)
        (quoted_token (b ∷ bs) rest bytes);
    name_is = ap (λ (x : Bool). name_of (cond x (b ∷ bs) (34 ∷ (flat_map quoted_byte (b ∷ bs) ++ 34 ∷ [])))) all ∙ quoted_name (b ∷ bs) bytes;
  }
