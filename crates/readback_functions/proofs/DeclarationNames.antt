-- The line of a name is read as the name.
use Rattle.std.proofs.Common.{◌≡◌, ℕ, ◌+◌, ◌-◌, ◌*◌, ◌/◌, ◌%◌, ◌<◌, Bool, true, false, cond, ◌&&◌, eqb, List, [], ◌∷◌, ◌++◌}
use Rattle.std.proofs.Common.{Ok, length, take, Option, Some, None, All, refl, subst, ap, ◌∙◌, arith, append_assoc, append-nil}
use Rattle.std.specs.Prelude.{unwrap_or, is_some, nat_eq, codes}
use Rattle.std.specs.List.{list_all, flat_map, starts_with}
use Rattle.std.specs.Char.{digit_value, is_ascii_hexdigit}
use Rattle.std.proofs.lemmas.Bool.{and_parts, and_from, cond-true, eqb-true}
use Rattle.std.proofs.lemmas.Bool.Decides.{nat_tests}
use Rattle.std.proofs.lemmas.List.{length-append}
use Rattle.std.proofs.lemmas.List.Elements.{All-head, All-tail}
use Rattle.read_lexer.specs.declared.parts.Class.TheVariants as class
use Rattle.read_lexer.specs.declared.parts.Token.{Token}
use Rattle.read_lexer.specs.Bytes.{is_word_start, is_word_byte, is_blank}
use Rattle.read_lexer.specs.Front.{closed, quoted, token_at}
use Rattle.read_metadata.specs.Text.{unescaped_behind, unescaped, inside_quotes}
use Rattle.read_metadata.specs.Token.{text_of}
use Rattle.read_declarations.specs.Name.{spelling_alone, spelling_of, name_by, refused_by, name_read, name_of}
use Rattle.mir_printer.specs.Spelling.{upper_hex_digit, quoted_byte}
use Rattle.mir_func_printer.specs.FuncText.{is_name_start, is_name_byte, is_plain_name, quoted_text}
use Rattle.readback_items.proofs.Lexing.{Reads, Piece, spelled, AllRead}
use Rattle.readback_items.proofs.Phrases.{piece}
use Rattle.readback_items.proofs.Registers.{all_below, below}
use Rattle.readback_items.proofs.Symbols.{unclosed, quote_at, no_escape, plain}
use Rattle.readback_items.proofs.Tokens.{word_read, single_read}
use Rattle.readback_functions.specs.Document.{lines_from}
use Rattle.readback_functions.specs.Declared.{NamesReadBack}
use Rattle.readback_functions.proofs.Spans.{token_of, line_tokens, line_texts}

-- ---- bytes in quotes

digits_are : all_below (λ n. nat_eq (digit_value (upper_hex_digit n)) n && is_ascii_hexdigit (upper_hex_digit n)) 16 ≡ true
digits_are = refl

record Digit (n : ℕ) : Type 0 where
  value : digit_value (upper_hex_digit n) ≡ n
  is : is_ascii_hexdigit (upper_hex_digit n) ≡ true

digit : (n : ℕ) → n < 16 → Digit n
digit n small =
    let all = below (λ m. nat_eq (digit_value (upper_hex_digit m)) m && is_ascii_hexdigit (upper_hex_digit m)) 16 n digits_are small in
    let parts = and_parts (nat_eq (digit_value (upper_hex_digit n)) n) (is_ascii_hexdigit (upper_hex_digit n)) all in
    record { value = eqb-true (digit_value (upper_hex_digit n)) n parts.0; is = parts.1 }

no_backslash : (b : ℕ) → plain b ≡ true → eqb b 92 ≡ false
no_backslash b is = grind (arith, nat_tests, is)

-- the bytes of a name in quotes stand for the name
unquoted : (name : List ℕ) → All (λ b. b < 256) name → unescaped_behind 0 (flat_map quoted_byte name) ≡ name
unfolding unescaped_behind
unquoted [] bytes = refl
unquoted (b ∷ name) bytes = by (plain b) refl (unquoted name (All-tail (λ (x : ℕ). x < 256) b name bytes)) where
  small : b < 256
  small = All-head (λ (x : ℕ). x < 256) b name bytes

  by : (t : Bool) → plain b ≡ t → unescaped_behind 0 (flat_map quoted_byte name) ≡ name →
      unescaped_behind 0 (cond t (b ∷ []) (92 ∷ upper_hex_digit (b / 16) ∷ upper_hex_digit (b % 16) ∷ []) ++ flat_map quoted_byte name) ≡ b ∷ name
  by true is rest =
      let none = no_escape b (flat_map quoted_byte name) (no_backslash b is) in
      ap (λ (o : Option ℕ). unwrap_or o b ∷ unescaped_behind (cond (is_some o) 2 0) (flat_map quoted_byte name)) none ∙ ap (λ (ns : List ℕ). b ∷ ns) rest
  by false is rest =
      let high = digit (b / 16) (omega (arith, small)) in
      let low = digit (b % 16) (omega arith) in
      let both : (is_ascii_hexdigit (upper_hex_digit (b / 16)) && is_ascii_hexdigit (upper_hex_digit (b % 16))) ≡ true = and_from _ _ high.is low.is in
      let value : 16 * digit_value (upper_hex_digit (b / 16)) + digit_value (upper_hex_digit (b % 16)) ≡ b = (let h = high.value in let l = low.value in
      omega (arith, h, l)) in
      ap (λ (t : Bool). unwrap_or (cond t (Some (16 * digit_value (upper_hex_digit (b / 16)) + digit_value (upper_hex_digit (b % 16)))) None) 92
      ∷ unescaped_behind (cond (is_some (cond t (Some (16 * digit_value (upper_hex_digit (b / 16)) + digit_value (upper_hex_digit (b % 16)))) None)) 2 0)
      (upper_hex_digit (b / 16) ∷ upper_hex_digit (b % 16) ∷ flat_map quoted_byte name)) both
      ∙ (λ i. value i ∷ rest i)

-- a name in quotes, as a token and as a name
quoted_token : (name : List ℕ) → All (λ b. b < 256) name → Reads class.Text (34 ∷ (flat_map quoted_byte name ++ 34 ∷ [])) []
unfolding token_at
quoted_token name bytes = record {
  first = 34;
  bytes = flat_map quoted_byte name ++ 34 ∷ [];
  parts = refl;
  visible = refl;
  token = λ at.
      let q = flat_map quoted_byte name in
      let size = length-append q (34 ∷ []) in
      ap (λ (t : List ℕ). quoted class.Text at at 34 t) (append_assoc q (34 ∷ []) [])
      ∙ (ap (closed class.Text at at) (quote_at q [] (unclosed name bytes))
      ∙ ap (λ (n : ℕ). Ok (record { class = class.Text; start = at; end = n })) (let e : at + 2 + length q ≡ at + (1 + length (q ++ 34 ∷ [])) =
      omega (arith, size) in e));
}

quoted_name : (name : List ℕ) → All (λ b. b < 256) name → unescaped (inside_quotes (34 ∷ (flat_map quoted_byte name ++ 34 ∷ []))) ≡ name
quoted_name name bytes =
    let q = flat_map quoted_byte name in
    let size = length-append q (34 ∷ []) in
    let n : length (34 ∷ (q ++ 34 ∷ [])) - 1 - 1 ≡ length q = omega (arith, size) in
    ap (λ (k : ℕ). unescaped_behind 0 (take k (q ++ 34 ∷ []))) n ∙ ap (unescaped_behind 0) (front q (34 ∷ [])) ∙ unquoted name bytes
  where
    front : (xs ys : List ℕ) → take (length xs) (xs ++ ys) ≡ xs
    front [] [] = refl
    front [] (y ∷ ys) = refl
    front (x ∷ xs) ys = ap (λ (zs : List ℕ). x ∷ zs) (front xs ys)

-- ---- names without quotes

start_word : (b : ℕ) → is_name_start b ≡ true → is_word_start b ≡ true
start_word b is = grind (arith, nat_tests, is)

start_visible : (b : ℕ) → is_name_start b ≡ true → is_blank b ≡ false
start_visible b is = grind (arith, nat_tests, is)

byte_word : (b : ℕ) → is_name_byte b ≡ true → is_word_byte b ≡ true
byte_word b is = grind (arith, nat_tests, is)

bytes_word : (bs : List ℕ) → list_all is_name_byte bs ≡ true → list_all is_word_byte bs ≡ true
bytes_word [] all = refl
bytes_word (b ∷ bs) all =
    let parts = and_parts (is_name_byte b) (list_all is_name_byte bs) all in
    and_from (is_word_byte b) (list_all is_word_byte bs) (byte_word b parts.0) (bytes_word bs parts.1)

-- ---- lines of names

abbrev name_pieces : Piece → List Piece
name_pieces p = piece 0 class.Word (codes "name") ∷ piece 0 (class.Single 58) (58 ∷ []) ∷ p ∷ []

key_reads : (p : Piece) → Reads p.class p.text [] → AllRead (name_pieces p)
unfolding token_at
key_reads p is = (
  word_read 110 (codes "ame") (58 ∷ spelled (p ∷ [])) refl refl refl refl,
  (single_read 58 (spelled (p ∷ [])) (λ at after. refl) refl, (is, tt)),
)

-- what the tokens of the line spell, by the last of them
bare_line : (n : ℕ) (name : List ℕ) → Reads class.Word name [] →
    name_of (record { number = n; text = spelled (name_pieces (piece 1 class.Word name)) } ∷ []) ≡ record { name = name; refused = None }
unfolding spelling_of
bare_line n name is =
    let ps = name_pieces (piece 1 class.Word name) in
    let texts = line_texts ps in
    ap (name_read (record { number = n; text = spelled ps })) (line_tokens ps (key_reads (piece 1 class.Word name) is))
    ∙ ap (λ (t : List ℕ). record { name = t; refused = None }) texts.1.1.0

double_line : (n : ℕ) (name : List ℕ) → All (λ b. b < 256) name →
    name_of (record { number = n; text = spelled (name_pieces (piece 1 class.Text (34 ∷ (flat_map quoted_byte name ++ 34 ∷ [])))) } ∷ [])
    ≡ record { name = name; refused = None }
unfolding spelling_of
double_line n name bytes =
    let q : List ℕ = 34 ∷ (flat_map quoted_byte name ++ 34 ∷ []) in
    let ps = name_pieces (piece 1 class.Text q) in
    let line = spelled ps in
    let texts = line_texts ps in
    let t : Token = token_of 5 (piece 1 class.Text q) in
    let first : text_of line t ≡ q = texts.1.1.0 in
    let alone : Token = record { class = class.Text; start = 0; end = 1 } in
    let spelt : spelling_of line (t ∷ []) ≡ spelling_alone (34 ∷ []) alone =
    cond-true (starts_with nat_eq (text_of line t) (34 ∷ [])) _ _ (ap (λ (x : List ℕ). starts_with nat_eq x (34 ∷ [])) first) in
    ap (name_read (record { number = n; text = line })) (line_tokens ps (key_reads (piece 1 class.Text q) (quoted_token name bytes)))
    ∙ ((λ i. record { name = name_by line (spelt i) (t ∷ []); refused = refused_by n (spelt i) })
    ∙ (ap (λ (x : List ℕ). record { name = unescaped (inside_quotes x); refused = None }) first
    ∙ ap (λ (x : List ℕ). record { name = x; refused = None }) (quoted_name name bytes)))

pub names_read_back : NamesReadBack
names_read_back n name bytes = by (is_plain_name name) refl where
  Is : List ℕ → Type 0
  Is text = name_of (lines_from n ((codes "name: " ++ text) ∷ [])) ≡ record { name = name; refused = None }

  plain_by : (bs : List ℕ) → is_plain_name bs ≡ true → Reads class.Word bs []
  plain_by [] e = absurd cc
  plain_by (b ∷ bs) e =
      let parts = and_parts (is_name_start b) (list_all is_name_byte bs) e in
      word_read b bs [] (start_word b parts.0) (start_visible b parts.0) (bytes_word bs parts.1) tt

  by : (t : Bool) → is_plain_name name ≡ t → Is (cond t name (quoted_text name))
  by true is = subst Is (append-nil name) (bare_line n name (plain_by name is))
  by false is = subst (λ (x : List ℕ). Is (34 ∷ x)) (append-nil (flat_map quoted_byte name ++ 34 ∷ [])) (double_line n name bytes)
