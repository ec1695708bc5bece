-- Bytes and addresses are told by their hexadecimal digits.
use Rattle.std.specs.Prelude.{Bool, true, false, cond, nat_eq}
use Rattle.std.proofs.Common.{◌≡◌, ℕ, ◌+◌, ◌/◌, ◌%◌, ◌^◌, ◌<◌, ◌≤◌, List, [], ◌∷◌, ◌++◌, length, arith, sym, ◌∙◌, refl}
use Rattle.std.proofs.lemmas.Bool.Decides.{nat_tests}
use Rattle.mir_printer.specs.Printable.{IsNumber}
use Rattle.mir_printer.proofs.Cuts.{front_one}
use Rattle.listing_text.specs.Hex.{hex_digit, hex_byte, line_end, hex_lines, address_text}

digit_one : (m n : ℕ) → hex_digit m ≡ hex_digit n → m ≡ n
digit_one m n e = grind (arith, nat_tests)

halves_one : (x y : ℕ) → hex_digit (x / 16) ≡ hex_digit (y / 16) → hex_digit (x % 16) ≡ hex_digit (y % 16) → x ≡ y
halves_one x y high low =
    let first : x / 16 ≡ y / 16 = digit_one (x / 16) (y / 16) high in
    let second : x % 16 ≡ y % 16 = digit_one (x % 16) (y % 16) low in
    omega arith

pub byte_one : (x y : ℕ) (r s : List ℕ) → hex_byte x ++ r ≡ hex_byte y ++ s → (x ≡ y) × (r ≡ s)
byte_one x y r s e =
    let high : hex_digit (x / 16) ≡ hex_digit (y / 16) = cc in
    let low : hex_digit (x % 16) ≡ hex_digit (y % 16) = cc in
    (halves_one x y high low, (let tails : r ≡ s = cc in tails))

address_parts : (a : ℕ) (r : List ℕ) → address_text a ++ r ≡ hex_byte (a / 2 ^ 24) ++ (hex_byte (a / 2 ^ 16 % 256) ++ (hex_byte (a / 2 ^ 8 % 256) ++
    (hex_byte (a % 256) ++ r)))
address_parts a r = refl

from_bytes : (a b : ℕ) → a / 2 ^ 24 ≡ b / 2 ^ 24 → a / 2 ^ 16 % 256 ≡ b / 2 ^ 16 % 256 → a / 2 ^ 8 % 256 ≡ b / 2 ^ 8 % 256 → a % 256 ≡ b % 256 → a ≡ b
from_bytes a b first second third fourth =
    let upper : a / 2 ^ 16 ≡ b / 2 ^ 16 = omega arith in
    let most : a / 2 ^ 8 ≡ b / 2 ^ 8 = omega arith in
    omega arith

pub address_one : (a b : ℕ) (r s : List ℕ) → address_text a ++ r ≡ address_text b ++ s → (a ≡ b) × (r ≡ s)
address_one a b r s e =
    let first = byte_one (a / 2 ^ 24) (b / 2 ^ 24) _ _ (sym (address_parts a r) ∙ (e ∙ address_parts b s)) in
    let second = byte_one (a / 2 ^ 16 % 256) (b / 2 ^ 16 % 256) _ _ first.1 in
    let third = byte_one (a / 2 ^ 8 % 256) (b / 2 ^ 8 % 256) _ _ second.1 in
    let fourth = byte_one (a % 256) (b % 256) r s third.1 in
    (from_bytes a b first.0 second.0 third.0 fourth.0, fourth.1)

digit_low : (n : ℕ) → n < 16 → (48 ≤ hex_digit n) × (hex_digit n ≤ 102)
digit_low n small = grind (arith, nat_tests)

-- the first two digits of an address of 32 bits
pub record Heads (text : List ℕ) : Type 0 where
  pub first : ℕ
  pub second : ℕ
  pub rest : List ℕ
  pub parts : text ≡ first ∷ second ∷ rest
  pub first_low : 48 ≤ first
  pub first_high : first ≤ 102
  pub second_high : second ≤ 102

small_head : (a : ℕ) → IsNumber a → a / 2 ^ 24 / 16 < 16
small_head a small = omega arith

small_next : (a : ℕ) → a / 2 ^ 24 % 16 < 16
small_next a = omega arith

pub address_heads : (a : ℕ) (r : List ℕ) → IsNumber a → Heads (address_text a ++ r)
address_heads a r small =
    let head = digit_low (a / 2 ^ 24 / 16) (small_head a small) in
    let next = digit_low (a / 2 ^ 24 % 16) (small_next a) in
    record {
      first = hex_digit (a / 2 ^ 24 / 16);
      second = hex_digit (a / 2 ^ 24 % 16);
      rest = hex_byte (a / 2 ^ 16 % 256) ++ (hex_byte (a / 2 ^ 8 % 256) ++ (hex_byte (a % 256) ++ r));
      parts = refl;
      first_low = head.0;
      first_high = head.1;
      second_high = next.1;
    }

-- ---- lines of bytes

abbrev after_byte : Bool → ℕ → List ℕ → List ℕ
after_byte p column bytes = cond p (10 ∷ hex_lines 0 bytes) (hex_lines (column + 1) bytes)

abbrev BytesOne : List ℕ → List ℕ → Type 0
BytesOne a b = (column : ℕ) (r s : List ℕ) → length a ≡ length b → hex_lines column a ++ r ≡ hex_lines column b ++ s → (a ≡ b) × (r ≡ s)

after_one : (p : Bool) (a b : List ℕ) → BytesOne a b → (column : ℕ) (r s : List ℕ) → length a ≡ length b →
    after_byte p column a ++ r ≡ after_byte p column b ++ s → (a ≡ b) × (r ≡ s)
after_one true a b more column r s same e = let tails : hex_lines 0 a ++ r ≡ hex_lines 0 b ++ s = cc in more 0 r s same tails
after_one false a b more column r s same e = more (column + 1) r s same e

pub bytes_one : (a b : List ℕ) → BytesOne a b
bytes_one [] [] column r s same e = (refl, front_one (line_end column) r s e)
bytes_one [] (y ∷ b) column r s same e = absurd (omega arith)
bytes_one (x ∷ a) [] column r s same e = absurd (omega arith)
bytes_one (x ∷ a) (y ∷ b) column r s same e =
    let first = byte_one x y (after_byte (nat_eq column 31) column a ++ r) (after_byte (nat_eq column 31) column b ++ s) e in
    let rest = after_one (nat_eq column 31) a b (bytes_one a b) column r s (omega arith) first.1 in
    (let head : x ≡ y = first.0 in let more : a ≡ b = rest.0 in cc, rest.1)
