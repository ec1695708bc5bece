-- Parts of a text that are told apart from what follows them.
use Rattle.std.proofs.Common.{◌≡◌, ℕ, ℤ, pos, negsuc, suc, ◌+◌, ◌%◌, ◌^◌, ◌<◌, ◌≤◌, Bool, true, false, ◌&&◌, nat_le, nat_eq, List, [], ◌∷◌, ◌++◌, refl, sym, ap}
use Rattle.std.proofs.Common.{◌∙◌, append_assoc, arith}
use Rattle.std.specs.List.{flat_map, list_all}
use Rattle.std.specs.Fmt.{decimal, signed_decimal}
use Rattle.std.proofs.lemmas.Bool.{and_parts, and_from, eqb-false}
use Rattle.std.proofs.lemmas.Bool.Decides.{nat_tests}
use Rattle.std.proofs.lemmas.Fmt.{decimal_by_steps, decimal_injective}
use Rattle.std.proofs.lemmas.List.Folds.{list_all-append}
use Rattle.rv64_instr.specs.Form.{IsSigned}

-- two texts with one front
pub front_one : (front r s : List ℕ) → front ++ r ≡ front ++ s → r ≡ s
front_one [] r s e = e
front_one (b ∷ bs) r s e = let tails : bs ++ r ≡ bs ++ s = cc in front_one bs r s tails

-- two texts that begin with different bytes
pub apart : (m n : ℕ) (r s : List ℕ) → nat_eq m n ≡ false → m ∷ r ≡ n ∷ s → ⊥
apart m n r s other e = let same : m ≡ n = cc in eqb-false m n other same

-- the text doesn't go on with a byte of the class
abbrev pub Stops : (ℕ → Bool) → List ℕ → Type 0
Stops p [] = Unit {0}
Stops p (b ∷ bs) = p b ≡ false

-- the longest run of a class of bytes
pub run_one : (p : ℕ → Bool) (a b r s : List ℕ) → list_all p a ≡ true → list_all p b ≡ true → Stops p r → Stops p s → a ++ r ≡ b ++ s → (a ≡ b) × (r ≡ s)
run_one p [] [] r s all others stop stops e = (refl, e)
run_one p [] (y ∷ b) [] s all others stop stops e = absurd cc
run_one p [] (y ∷ b) (x ∷ r) s all others stop stops e =
    let same : x ≡ y = cc in
    let has : p y ≡ true = (and_parts (p y) (list_all p b) others).0 in
    absurd cc
run_one p (x ∷ a) [] r [] all others stop stops e = absurd cc
run_one p (x ∷ a) [] r (y ∷ s) all others stop stops e =
    let same : x ≡ y = cc in
    let has : p x ≡ true = (and_parts (p x) (list_all p a) all).0 in
    absurd cc
run_one p (x ∷ a) (y ∷ b) r s all others stop stops e =
    let same : x ≡ y = cc in
    let tails : a ++ r ≡ b ++ s = cc in
    let rest = run_one p a b r s (and_parts (p x) (list_all p a) all).1 (and_parts (p y) (list_all p b) others).1 stop stops tails in
    (let after : a ≡ b = rest.0 in cc, rest.1)

-- ---- numbers

abbrev pub is_digit : ℕ → Bool
is_digit b = nat_le 48 b && nat_le b 57

digit_is : (n : ℕ) → n < 10 → is_digit (48 + n) ≡ true
digit_is n low = grind (arith, nat_tests)

-- a digit, and digits after it
record Digits (text : List ℕ) : Type 0 where
  first : ℕ
  rest : List ℕ
  parts : text ≡ first ∷ rest
  low : 48 ≤ first
  high : first ≤ 57
  all : list_all is_digit text ≡ true

digits_more : (text : List ℕ) (d : ℕ) → d < 10 → Digits text → Digits (text ++ (48 + d) ∷ [])
digits_more text d small is = record {
  first = is.first;
  rest = is.rest ++ (48 + d) ∷ [];
  parts = ap (λ (t : List ℕ). t ++ (48 + d) ∷ []) is.parts;
  low = is.low;
  high = is.high;
  all = list_all-append is_digit text ((48 + d) ∷ []) ∙ and_from (list_all is_digit text) (is_digit (48 + d) && true) is.all
      (and_from (is_digit (48 + d)) true (digit_is d small) refl);
}

decimal_is : (n : ℕ) → n < 2 ^ 64 → Digits (decimal n)
decimal_is n small = decimal_by_steps (λ m text. Digits text)
    (λ m one. record {
      first = 48 + m;
      rest = [];
      parts = refl;
      low = omega arith;
      high = omega arith;
      all = and_from (is_digit (48 + m)) true
          (digit_is m one) refl;
    })
    (λ m text ten before. digits_more text (m % 10) (omega arith) before)
    n small

pub decimal_one : (m n : ℕ) (r s : List ℕ) → m < 2 ^ 64 → n < 2 ^ 64 → Stops is_digit r → Stops is_digit s → decimal m ++ r ≡ decimal n ++ s → (m ≡ n) × (r ≡ s)
decimal_one m n r s small other stop stops e =
    let found = run_one is_digit (decimal m) (decimal n) r s (decimal_is m small).all (decimal_is n other).all stop stops e in
    (decimal_injective m n small other found.0, found.1)

-- the first byte of a number is a digit
pub decimal_head : (n : ℕ) (r : List ℕ) → n < 2 ^ 64 → (b : ℕ) × (bs : List ℕ) × (decimal n ++ r ≡ b ∷ bs) × (48 ≤ b) × (b ≤ 57)
decimal_head n r small =
    let is = decimal_is n small in
    (is.first, is.rest ++ r, ap (λ (t : List ℕ). t ++ r) is.parts, is.low, is.high)

size : (n : ℕ) → n < 2 ^ 63 → suc n < 2 ^ 64
size n small = omega arith

sizes : (n : ℕ) → n < 2 ^ 63 → n < 2 ^ 64
sizes n small = omega arith

-- the first byte of a signed number is a digit or `-`
pub signed_head : (i : ℤ) (r : List ℕ) → IsSigned i → (b : ℕ) × (bs : List ℕ) × (signed_decimal i ++ r ≡ b ∷ bs) × (45 ≤ b) × (b ≤ 57)
signed_head (pos n) r small = let is = decimal_head n r (sizes n small) in (is.0, is.1, is.2, omega (arith, is.3), is.4)
signed_head (negsuc n) r small = (45, decimal (suc n) ++ r, refl, omega arith, omega arith)

no_sign : (m : ℕ) (r s : List ℕ) → m < 2 ^ 64 → decimal m ++ r ≡ 45 ∷ s → ⊥
no_sign m r s small e =
    let is = decimal_head m r small in
    let both : is.0 ∷ is.1 ≡ 45 ∷ s = sym is.2 ∙ e in
    let same : is.0 ≡ 45 = cc in
    omega (arith, same, is.3)

pub signed_one : (i j : ℤ) (r s : List ℕ) → IsSigned i → IsSigned j → Stops is_digit r → Stops is_digit s → signed_decimal i ++ r ≡ signed_decimal j ++ s →
    (i ≡ j) × (r ≡ s)
signed_one (pos m) (pos n) r s small other stop stops e = let found = decimal_one m n r s (sizes m small) (sizes n other) stop stops e in
    (ap pos found.0, found.1)
signed_one (pos m) (negsuc n) r s small other stop stops e = absurd (no_sign m r (decimal (suc n) ++ s) (sizes m small) e)
signed_one (negsuc m) (pos n) r s small other stop stops e = absurd (no_sign n s (decimal (suc m) ++ r) (sizes n other) (sym e))
signed_one (negsuc m) (negsuc n) r s small other stop stops e =
    let tails : decimal (suc m) ++ r ≡ decimal (suc n) ++ s = cc in
    let found = decimal_one (suc m) (suc n) r s (size m small) (size n other) stop stops tails in
    let same : m ≡ n = omega (arith, found.0) in
    (ap negsuc same, found.1)

-- ---- bytes that are spelled one after the other, up to a byte with which no spelling begins

pub record Spells (spelled : ℕ → List ℕ) (closing : ℕ) : Type 0 where
  pub one : (x y : ℕ) (r s : List ℕ) → spelled x ++ r ≡ spelled y ++ s → (x ≡ y) × (r ≡ s)
  pub begins : (x : ℕ) (r s : List ℕ) → spelled x ++ r ≡ closing ∷ s → ⊥

-- parts of a text, from left to right
regroup : (a b c : List ℕ) → (a ++ b) ++ c ≡ a ++ (b ++ c)
regroup a b c = append_assoc a b c

pub spelled_one : (spelled : ℕ → List ℕ) (closing : ℕ) → Spells spelled closing → (a b r s : List ℕ) →
    flat_map spelled a ++ closing ∷ r ≡ flat_map spelled b ++ closing ∷ s → (a ≡ b) × (r ≡ s)
spelled_one spelled closing is [] [] r s e = (refl, (let tails : r ≡ s = cc in tails))
spelled_one spelled closing is [] (y ∷ b) r s e = absurd (is.begins y (flat_map spelled b ++ closing ∷ s) r
    (sym (e ∙ regroup (spelled y) (flat_map spelled b) (closing ∷ s))))
spelled_one spelled closing is (x ∷ a) [] r s e = absurd (is.begins x (flat_map spelled a ++ closing ∷ r) s
    (sym (regroup (spelled x) (flat_map spelled a) (closing ∷ r)) ∙ e))
spelled_one spelled closing is (x ∷ a) (y ∷ b) r s e =
    let first = is.one x y (flat_map spelled a ++ closing ∷ r) (flat_map spelled b ++ closing ∷ s)
    (sym (regroup (spelled x) (flat_map spelled a) (closing ∷ r)) ∙ (e ∙ regroup (spelled y) (flat_map spelled b) (closing ∷ s))) in
    let rest = spelled_one spelled closing is a b r s first.1 in
    (let head : x ≡ y = first.0 in let tail : a ≡ b = rest.0 in cc, rest.1)
