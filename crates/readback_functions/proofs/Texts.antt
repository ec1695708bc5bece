-- Texts of printable ASCII, by what they end in.
use Rattle.std.proofs.Common.{◌≡◌, ℕ, ℤ, pos, negsuc, suc, ◌+◌, ◌/◌, ◌%◌, ◌^◌, ◌<◌, Bool, true, false, cond, not, ◌&&◌, ◌||◌, eqb, List, [], ◌∷◌}
use Rattle.std.proofs.Common.{◌++◌, All}
use Rattle.std.proofs.Common.{refl, sym, ap, subst, ◌∙◌, arith}
use Rattle.std.specs.Prelude.{nat_le, nat_eq}
use Rattle.std.specs.Char.{is_ascii_digit}
use Rattle.std.specs.Fmt.{decimal, signed_decimal}
use Rattle.std.specs.List.{list_all, flat_map}
use Rattle.std.proofs.lemmas.Bool.{and_parts, and_from}
use Rattle.std.proofs.lemmas.Bool.Decides.{nat_tests}
use Rattle.std.proofs.lemmas.List.Elements.{All-head, All-tail}
use Rattle.std.proofs.lemmas.List.Folds.{list_all-append}
use Rattle.rv64_instr.specs.Form.{IsSigned}
use Rattle.mir_printer.specs.Spelling.{upper_hex_digit, quoted_byte}
use Rattle.readback_items.proofs.Numbers.{decimal_of}
use Rattle.readback_items.proofs.Registers.{all_below, below}
use Rattle.readback_functions.specs.Document.{is_printed, ends_visibly, IsLine}

-- printable ASCII
abbrev pub Printed : List ℕ → Type 0
Printed text = list_all is_printed text ≡ true

-- printable ASCII that ends in another byte than a space, and has one
pub record Shows (text : List ℕ) : Type 0 where
  pub printed : Printed text
  pub ends : (so_far : Bool) → ends_visibly so_far text ≡ true

pub printed_both : (xs ys : List ℕ) → Printed xs → Printed ys → Printed (xs ++ ys)
printed_both xs ys p q = list_all-append is_printed xs ys ∙ and_from (list_all is_printed xs) (list_all is_printed ys) p q

ends_append : (so_far : Bool) (xs ys : List ℕ) → ends_visibly so_far (xs ++ ys) ≡ ends_visibly (ends_visibly so_far xs) ys
ends_append so_far [] ys = refl
ends_append so_far (x ∷ xs) ys = ends_append (not (eqb x 32)) xs ys

-- something before a text that shows
pub shows_behind : (xs ys : List ℕ) → Printed xs → Shows ys → Shows (xs ++ ys)
shows_behind xs ys p s = record { printed = printed_both xs ys p s.printed; ends = λ so_far. ends_append so_far xs ys ∙ s.ends (ends_visibly so_far xs) }

-- a text, and another that shows if it is there
pub record MayShow (text : List ℕ) : Type 0 where
  pub printed : Printed text
  pub ends : ends_visibly true text ≡ true

pub shows_before : (xs ys : List ℕ) → Shows xs → MayShow ys → Shows (xs ++ ys)
shows_before xs ys s m = record {
  printed = printed_both xs ys s.printed m.printed;
  ends = λ so_far. ends_append so_far xs ys ∙ (ap (λ (b : Bool). ends_visibly b ys) (s.ends so_far) ∙ m.ends);
}

pub may_show : (text : List ℕ) → Shows text → MayShow text
may_show text s = record { printed = s.printed; ends = s.ends true }

pub line_of : (text : List ℕ) → Shows text → IsLine text
line_of text s = record { printed = s.printed; ends = s.ends true }

-- ---- bytes

abbrev pub is_visible : ℕ → Bool
is_visible b = nat_le 33 b && nat_le b 126

visible_printed : (b : ℕ) → is_visible b ≡ true → (is_printed b ≡ true) × (not (eqb b 32) ≡ true)
visible_printed b is = (grind (arith, nat_tests, is), grind (arith, nat_tests, is))

-- visible bytes, one at least
pub visible_shows : (b : ℕ) (bs : List ℕ) → list_all is_visible (b ∷ bs) ≡ true → Shows (b ∷ bs)
visible_shows b [] all =
    let parts = and_parts (is_visible b) true all in
    let v = visible_printed b parts.0 in
    record { printed = and_from (is_printed b) true v.0 refl; ends = λ so_far. v.1 }
visible_shows b (x ∷ bs) all =
    let parts = and_parts (is_visible b) (list_all is_visible (x ∷ bs)) all in
    let more = visible_shows x bs parts.1 in
    record {
      printed = and_from (is_printed b) (list_all is_printed (x ∷ bs)) (visible_printed b parts.0).0 more.printed;
      ends = λ so_far. more.ends (not (eqb b 32));
    }

pub all_visible : (p : ℕ → Bool) → ((b : ℕ) → p b ≡ true → is_visible b ≡ true) → (bs : List ℕ) → list_all p bs ≡ true → list_all is_visible bs ≡ true
all_visible p each [] all = refl
all_visible p each (b ∷ bs) all =
    let parts = and_parts (p b) (list_all p bs) all in
    and_from (is_visible b) (list_all is_visible bs) (each b parts.0) (all_visible p each bs parts.1)

digit_visible : (b : ℕ) → is_ascii_digit b ≡ true → is_visible b ≡ true
digit_visible b is = grind (arith, nat_tests, is)

pub decimal_shows : (n : ℕ) → n < 2 ^ 64 → Shows (decimal n)
decimal_shows n small =
    let d = decimal_of n small in
    subst Shows (sym d.parts) (visible_shows d.first d.rest (and_from (is_visible d.first) (list_all is_visible d.rest) (digit_visible d.first d.digit)
    (all_visible is_ascii_digit digit_visible d.rest d.digits)))

pub signed_shows : (i : ℤ) → IsSigned i → Shows (signed_decimal i)
signed_shows (pos n) small = decimal_shows n (omega (arith, small))
signed_shows (negsuc n) small = shows_behind (45 ∷ []) (decimal (suc n)) refl (decimal_shows (suc n) (omega (arith, small)))

-- ---- bytes in quotes

digits_are : all_below (λ n. is_printed (upper_hex_digit n)) 16 ≡ true
digits_are = refl

quoted_printed : (name : List ℕ) → All (λ b. b < 256) name → Printed (flat_map quoted_byte name)
quoted_printed [] bytes = refl
quoted_printed (b ∷ name) bytes =
    printed_both (quoted_byte b) (flat_map quoted_byte name) (one (nat_le 32 b && nat_le b 126 && not (nat_eq b 34 || nat_eq b 92)) refl)
    (quoted_printed name (All-tail (λ (x : ℕ). x < 256) b name bytes)) where
      small : b < 256
      small = All-head (λ (x : ℕ). x < 256) b name bytes

      one : (t : Bool) → (nat_le 32 b && nat_le b 126 && not (nat_eq b 34 || nat_eq b 92)) ≡ t →
          Printed (cond t (b ∷ []) (92 ∷ upper_hex_digit (b / 16) ∷ upper_hex_digit (b % 16) ∷ []))
      one true is =
          let parts = and_parts (nat_le 32 b && nat_le b 126) (not (nat_eq b 34 || nat_eq b 92)) is in
          and_from (is_printed b) true parts.0 refl
      one false is =
          let high = below (λ n. is_printed (upper_hex_digit n)) 16 (b / 16) digits_are (omega (arith, small)) in
          let low = below (λ n. is_printed (upper_hex_digit n)) 16 (b % 16) digits_are (omega arith) in
          and_from (is_printed 92) (is_printed (upper_hex_digit (b / 16)) && (is_printed (upper_hex_digit (b % 16)) && true)) refl
          (and_from (is_printed (upper_hex_digit (b / 16))) (is_printed (upper_hex_digit (b % 16)) && true) high
          (and_from (is_printed (upper_hex_digit (b % 16))) true low refl))

-- a name in quotes
pub quoted_shows : (name : List ℕ) → All (λ b. b < 256) name → Shows (34 ∷ (flat_map quoted_byte name ++ 34 ∷ []))
quoted_shows name bytes =
    shows_behind (34 ∷ flat_map quoted_byte name) (34 ∷ []) (and_from (is_printed 34) (list_all is_printed (flat_map quoted_byte name)) refl
    (quoted_printed name bytes)) (record { printed = refl; ends = λ so_far. refl })
