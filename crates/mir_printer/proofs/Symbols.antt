-- The name that a symbol's text stands for.
use Rattle.std.proofs.Common.{◌≡◌, ℕ, ◌/◌, ◌%◌, Bool, true, false, ◌&&◌, ◌||◌, not, nat_le, nat_eq, cond, List, [], ◌∷◌, ◌++◌, refl, sym, ap, ◌∙◌, append_assoc}
use Rattle.std.proofs.Common.{arith}
use Rattle.std.specs.List.{flat_map, list_all}
use Rattle.std.proofs.lemmas.Bool.{and_parts}
use Rattle.std.proofs.lemmas.Bool.Decides.{nat_tests}
use Rattle.mir_printer.specs.Spelling.{is_bare, is_empty, quoted_byte, symbol_text, upper_hex_digit}
use Rattle.mir_printer.proofs.Cuts.{Stops, run_one, Spells, spelled_one}

pub digit_one : (m n : ℕ) → upper_hex_digit m ≡ upper_hex_digit n → m ≡ n
digit_one m n e = grind (arith, nat_tests)

-- a byte stands for itself in quotes
abbrev pub is_plain : ℕ → Bool
is_plain b = nat_le 32 b && nat_le b 126 && not (nat_eq b 34 || nat_eq b 92)

plain_not : (b c : ℕ) → is_plain b ≡ true → is_plain c ≡ false → b ≡ c → ⊥
plain_not b c is not e = let both : is_plain b ≡ is_plain c = ap is_plain e in cc

abbrev byte_by : Bool → ℕ → List ℕ
byte_by p b = cond p (b ∷ []) (92 ∷ upper_hex_digit (b / 16) ∷ upper_hex_digit (b % 16) ∷ [])

halves_one : (x y : ℕ) → x / 16 ≡ y / 16 → x % 16 ≡ y % 16 → x ≡ y
halves_one x y high low = omega arith

byte_one : (p q : Bool) (x y : ℕ) (r s : List ℕ) → is_plain x ≡ p → is_plain y ≡ q → byte_by p x ++ r ≡ byte_by q y ++ s → (x ≡ y) × (r ≡ s)
byte_one true true x y r s is others e = ((let same : x ≡ y = cc in same), (let tails : r ≡ s = cc in tails))
byte_one true false x y r s is others e = let same : x ≡ 92 = cc in absurd (plain_not x 92 is refl same)
byte_one false true x y r s is others e = let same : y ≡ 92 = cc in absurd (plain_not y 92 others refl same)
byte_one false false x y r s is others e =
    let high : upper_hex_digit (x / 16) ≡ upper_hex_digit (y / 16) = cc in
    let low : upper_hex_digit (x % 16) ≡ upper_hex_digit (y % 16) = cc in
    let tails : r ≡ s = cc in
    (halves_one x y (digit_one (x / 16) (y / 16) high) (digit_one (x % 16) (y % 16) low), tails)

pub quoted_one : (x y : ℕ) (r s : List ℕ) → quoted_byte x ++ r ≡ quoted_byte y ++ s → (x ≡ y) × (r ≡ s)
quoted_one x y r s e = byte_one (is_plain x) (is_plain y) x y r s refl refl e

byte_head : (p : Bool) (x c : ℕ) (r s : List ℕ) → is_plain x ≡ p → (92 ≡ c → ⊥) → byte_by p x ++ r ≡ c ∷ s → (x ≡ c) × (is_plain x ≡ true)
byte_head true x c r s is other e = ((let same : x ≡ c = cc in same), is)
byte_head false x c r s is other e = let same : 92 ≡ c = cc in absurd (other same)

-- a byte that isn't spelled with `\` is itself
pub quoted_head : (x c : ℕ) (r s : List ℕ) → (92 ≡ c → ⊥) → quoted_byte x ++ r ≡ c ∷ s → (x ≡ c) × (is_plain x ≡ true)
quoted_head x c r s other e = byte_head (is_plain x) x c r s refl other e

-- no byte begins with one that stands for no byte in quotes, other than `\`
pub quoted_begins : (x c : ℕ) (r s : List ℕ) → is_plain c ≡ false → (92 ≡ c → ⊥) → quoted_byte x ++ r ≡ c ∷ s → ⊥
quoted_begins x c r s not other e = let found = quoted_head x c r s other e in plain_not x c found.1 not found.0

quotes : Spells quoted_byte 34
quotes = record { one = quoted_one; begins = λ x r s e. quoted_begins x 34 r s refl (λ same. omega arith) e }

abbrev is_word : List ℕ → Bool
is_word name = not (is_empty name) && list_all is_bare name

abbrev name_by : Bool → List ℕ → List ℕ
name_by p name = cond p name (34 ∷ (flat_map quoted_byte name ++ 34 ∷ []))

not_quoted : (name r s : List ℕ) → is_word name ≡ true → name ++ r ≡ 34 ∷ s → ⊥
not_quoted [] r s is e = absurd cc
not_quoted (b ∷ bs) r s is e =
    let same : b ≡ 34 = cc in
    let bare : is_bare b ≡ true = (and_parts (is_bare b) (list_all is_bare bs) (and_parts (not (is_empty (b ∷ bs))) (list_all is_bare (b ∷ bs)) is).1).0 in
    let both : is_bare b ≡ is_bare 34 = ap is_bare same in
    cc

closed : (a r : List ℕ) → (a ++ 34 ∷ []) ++ r ≡ a ++ 34 ∷ r
closed a r = append_assoc a (34 ∷ []) r

name_one : (p q : Bool) (a b r s : List ℕ) → is_word a ≡ p → is_word b ≡ q → Stops is_bare r → Stops is_bare s → name_by p a ++ r ≡ name_by q b ++ s →
    (a ≡ b) × (r ≡ s)
name_one true true a b r s is others stop stops e =
    run_one is_bare a b r s (and_parts (not (is_empty a)) (list_all is_bare a) is).1 (and_parts (not (is_empty b)) (list_all is_bare b) others).1 stop stops e
name_one true false a b r s is others stop stops e = absurd (not_quoted a r ((flat_map quoted_byte b ++ 34 ∷ []) ++ s) is e)
name_one false true a b r s is others stop stops e = absurd (not_quoted b s ((flat_map quoted_byte a ++ 34 ∷ []) ++ r) others (sym e))
name_one false false a b r s is others stop stops e =
    let tails : (flat_map quoted_byte a ++ 34 ∷ []) ++ r ≡ (flat_map quoted_byte b ++ 34 ∷ []) ++ s = cc in
    spelled_one quoted_byte 34 quotes a b r s (sym (closed (flat_map quoted_byte a) r) ∙ (tails ∙ closed (flat_map quoted_byte b) s))

pub symbol_one : (a b r s : List ℕ) → Stops is_bare r → Stops is_bare s → symbol_text a ++ r ≡ symbol_text b ++ s → (a ≡ b) × (r ≡ s)
symbol_one a b r s stop stops e =
    let tails : name_by (is_word a) a ++ r ≡ name_by (is_word b) b ++ s = cc in
    name_one (is_word a) (is_word b) a b r s refl refl stop stops tails
