-- A number at the front of bytes: by its first byte, and within the first ten.
use Rattle.std.specs.Prelude.{ℤ, pos, negsuc, ◌+ℤ◌, ◌-ℤ◌, ◌*ℤ◌, ◌≤ℤ◌, ◌<ℤ◌, FitsSigned, Option, Some}
use Rattle.std.specs.Int.{w64}
use Rattle.std.proofs.Common.{◌≡◌, ℕ, zero, suc, ◌+◌, ◌*◌, ◌/◌, ◌%◌, ◌^◌, ◌<◌, ◌≤◌, Bool, List, [], ◌∷◌, ◌++◌, length, take, min, length-append, false, true}
use Rattle.std.proofs.Common.{arith, ap, sym, ◌∙◌, refl, inl, inr}
use Rattle.std.proofs.lemmas.Bool.{cases_lt}
use Rattle.std.proofs.lemmas.Bool.Decides.{nat_tests}
use Rattle.std.proofs.lemmas.Int.{ints, to_z-of_z}
use mir.Val.{to_z, of_z}
use Rattle.dwarf_base.specs.Leb.{groups, uleb_of, sleb_of, IsLeb, unsigned_value, signed_value}
use Rattle.dwarf_base.proofs.LebLemmas.{groups_last, groups_more}
use Rattle.dwarf_base.proofs.LebLaws.{uleb_law, sleb_law, uleb_of-groups, sleb_of-groups}

-- the number that begins with a byte: that byte alone, or the byte and a number
pub data Begun (b : ℕ) (tail : List ℕ) (front rest : List ℕ) : Type 0 where
  one : b < 128 → front ≡ b ∷ [] → tail ≡ rest → Begun b tail front rest
  more : (others : List ℕ) → 128 ≤ b → IsLeb others → front ≡ b ∷ others → tail ≡ others ++ rest → Begun b tail front rest

pub begun : (b : ℕ) (tail front rest : List ℕ) → IsLeb front → b ∷ tail ≡ front ++ rest → Begun b tail front rest
begun b tail [] rest is e = absurd is
begun b tail (c ∷ []) rest is e =
    let same : b ≡ c = cc in
    let others : tail ≡ rest = cc in
    one (omega (arith, same, is)) (let back = sym same in cc) others
begun b tail (c ∷ d ∷ front) rest is e =
    let same : b ≡ c = cc in
    let others : tail ≡ (d ∷ front) ++ rest = cc in
    more (d ∷ front) (omega (arith, same, is.0)) is.2 (let back = sym same in cc) others

pub no_front : (front rest : List ℕ) → IsLeb front → [] ≡ front ++ rest → ⊥
no_front [] rest is e = is
no_front (c ∷ front) rest is e = cc

pub unsigned_more : (b : ℕ) (others : List ℕ) → IsLeb others → unsigned_value (b ∷ others) ≡ b % 128 + 128 * unsigned_value others
unsigned_more b others is = refl

pub signed_more : (b : ℕ) (others : List ℕ) → IsLeb others → signed_value (b ∷ others) ≡ pos (b % 128) +ℤ (pos 128 *ℤ signed_value others)
signed_more b [] is = absurd is
signed_more b (c ∷ others) is = refl

-- a front that fits is in each longer front
pub within : (k : ℕ) (front rest : List ℕ) → length front ≤ k → (further : List ℕ) × (take k (front ++ rest) ≡ front ++ further)
within k [] rest fits = (take k rest, refl)
within zero (b ∷ front) rest fits = absurd (omega arith)
within (suc k) (b ∷ front) rest fits =
    let (further, is) = within k front rest (omega arith) in (further, let tails = is in cc)

pub length-groups : (most limit : ℕ) (complement : Bool) (n : ℕ) → length (groups most limit complement n) ≤ suc most
unfolding groups
length-groups zero limit complement n = omega arith
length-groups (suc most) limit complement n =
    elim (cases_lt n limit) [
      | inl small ↦ rw (groups_last (suc most) limit complement n small) (omega arith)
      | inr large ↦ rw (groups_more most limit complement n large) (let rest = length-groups most limit complement (n / 128) in omega arith)
    ]

-- a number of more than one byte, by its first byte and the number that the others are
pub record UnsignedMore (b : ℕ) (tail front rest : List ℕ) : Type 0 where
  pub others : List ℕ
  pub leb : IsLeb others
  pub tail_is : tail ≡ others ++ rest
  pub small : unsigned_value others < 2 ^ 64
  pub value : unsigned_value front ≡ b % 128 + 128 * unsigned_value others

pub unsigned_byte : (bytes : List ℕ) (b : ℕ) (tail front rest : List ℕ) → bytes ≡ b ∷ tail → b < 128 → IsLeb front → bytes ≡ front ++ rest
    → unsigned_value front ≡ b
unsigned_byte bytes b tail front rest first low is e =
    elim (begun b tail front rest is (sym first ∙ e)) [
      | one small front_is tail_is ↦ ap unsigned_value front_is ∙ omega arith
      | more others high leb front_is tail_is ↦ absurd (omega arith)
    ]

pub unsigned_bytes : (bytes : List ℕ) (b : ℕ) (tail front rest : List ℕ) → bytes ≡ b ∷ tail → 128 ≤ b → IsLeb front → bytes ≡ front ++ rest
    → unsigned_value front < 2 ^ 64 → UnsignedMore b tail front rest
unsigned_bytes bytes b tail front rest first high is e fits =
    elim (begun b tail front rest is (sym first ∙ e)) [
      | one small front_is tail_is ↦ absurd (omega arith)
      | more others above leb front_is tail_is ↦
          let value : unsigned_value front ≡ b % 128 + 128 * unsigned_value others = ap unsigned_value front_is in
          record { others = others; leb = leb; tail_is = tail_is; small = omega arith; value = value }
    ]

-- the same with a sign
pub record SignedMore (b : ℕ) (tail front rest : List ℕ) : Type 0 where
  pub others : List ℕ
  pub leb : IsLeb others
  pub tail_is : tail ≡ others ++ rest
  pub value : signed_value front ≡ pos (b % 128) +ℤ (pos 128 *ℤ signed_value others)
  pub small : FitsSigned w64 (signed_value others)
  pub low : (negsuc 72057594037927935) ≤ℤ signed_value others
  pub high : signed_value others <ℤ pos 72057594037927936

pub signed_byte : (bytes : List ℕ) (b : ℕ) (tail front rest : List ℕ) → bytes ≡ b ∷ tail → b < 128 → IsLeb front → bytes ≡ front ++ rest
    → signed_value front ≡ signed_value (b ∷ [])
signed_byte bytes b tail front rest first low is e =
    elim (begun b tail front rest is (sym first ∙ e)) [
      | one small front_is tail_is ↦ ap signed_value front_is
      | more others high leb front_is tail_is ↦ absurd (omega arith)
    ]

septet_bounds : (b : ℕ) (v z : ℤ) → b < 128 → v ≡ pos b +ℤ (pos 128 *ℤ z) → FitsSigned w64 v
    → FitsSigned w64 z × ((negsuc 72057594037927935) ≤ℤ z) × (z <ℤ pos 72057594037927936)
septet_bounds b v z small e fits = (omega (arith, ints), omega (arith, ints), omega (arith, ints))

pub signed_bytes : (bytes : List ℕ) (b : ℕ) (tail front rest : List ℕ) → bytes ≡ b ∷ tail → 128 ≤ b → IsLeb front → bytes ≡ front ++ rest
    → FitsSigned w64 (signed_value front) → SignedMore b tail front rest
signed_bytes bytes b tail front rest first high is e fits =
    elim (begun b tail front rest is (sym first ∙ e)) [
      | one small front_is tail_is ↦ absurd (omega arith)
      | more others above leb front_is tail_is ↦
          let value : signed_value front ≡ pos (b % 128) +ℤ (pos 128 *ℤ signed_value others) = ap signed_value front_is ∙ signed_more b others leb in
          let bounds = septet_bounds (b % 128) (signed_value front) (signed_value others) (omega arith) value fits in
          record { others = others; leb = leb; tail_is = tail_is; value = value; small = bounds.0; low = bounds.1; high = bounds.2 }
    ]

pub byte_below : (b : ℕ) → b < 64 → to_z w64 b ≡ signed_value (b ∷ [])
byte_below b small = grind (arith, ints, nat_tests)

pub byte_above : (b : ℕ) → 64 ≤ b → b < 128 → to_z w64 (of_z w64 (to_z w64 b -ℤ pos 128)) ≡ signed_value (b ∷ [])
byte_above b large small = grind (arith, ints, nat_tests)

-- the number of a septet and of the ones above it, as the code makes it
pub septet_more : (b : ℕ) (v z : ℤ) → FitsSigned w64 v → FitsSigned w64 z → v ≡ pos (b % 128) +ℤ (pos 128 *ℤ z)
    → to_z w64 (of_z w64 (to_z w64 (b % 128) +ℤ to_z w64 (of_z w64 (pos 128 *ℤ to_z w64 (of_z w64 z))))) ≡ v
septet_more b v z fits fits_z is =
    let same : to_z w64 (of_z w64 z) ≡ z = to_z-of_z w64 z fits_z in
    rw same (omega (arith, ints))

pub length-uleb_of : (n : ℕ) → n < 2 ^ 64 → length (uleb_of n) ≤ 10
length-uleb_of n fits = rw (uleb_of-groups n fits) (length-groups 9 128 false n)

pub length-sleb_of : (v : ℤ) → FitsSigned w64 v → length (sleb_of v) ≤ 10
length-sleb_of (pos n) fits = rw (sleb_of-groups (pos n) false n (record { is = refl; fits = omega (arith, ints) })) (length-groups 9 64 false n)
length-sleb_of (negsuc n) fits = rw (sleb_of-groups (negsuc n) true n (record { is = refl; fits = omega (arith, ints) })) (length-groups 9 64 true n)

-- what a reader of the first ten bytes, or of all, makes of a number at the front
abbrev pub ReadsUnsigned : List ℕ → Option ℕ → Type 0
ReadsUnsigned bytes r = (front rest : List ℕ) → IsLeb front → bytes ≡ front ++ rest → unsigned_value front < 2 ^ 64 → r ≡ Some (unsigned_value front)

abbrev pub ReadsSigned : List ℕ → Option ℤ → Type 0
ReadsSigned bytes r = (front rest : List ℕ) → IsLeb front → bytes ≡ front ++ rest → FitsSigned w64 (signed_value front) → r ≡ Some (signed_value front)

pub reads_uleb : (bytes : List ℕ) (k : ℕ) (r : Option ℕ) (n : ℕ) (rest : List ℕ) → ReadsUnsigned (take k bytes) r → k ≡ min (length bytes) 10 → n < 2 ^ 64
    → bytes ≡ uleb_of n ++ rest → r ≡ Some n
reads_uleb bytes k r n rest reads k_is fits e =
    let (further, is) = within k (uleb_of n) rest (omega (arith, length-uleb_of n fits, ap length e, length-append (uleb_of n) rest)) in
    let value = (uleb_law n).1 in
    reads (uleb_of n) further (uleb_law n).0 (ap (take k) e ∙ is) (omega (arith, value)) ∙ ap Some value

pub reads_sleb : (bytes : List ℕ) (k : ℕ) (r : Option ℤ) (v : ℤ) (rest : List ℕ) → ReadsSigned (take k bytes) r → k ≡ min (length bytes) 10 → FitsSigned w64 v
    → bytes ≡ sleb_of v ++ rest → r ≡ Some v
reads_sleb bytes k r v rest reads k_is fits e =
    let (further, is) = within k (sleb_of v) rest (omega (arith, length-sleb_of v fits, ap length e, length-append (sleb_of v) rest)) in
    let value = (sleb_law v).1 in
    reads (sleb_of v) further (sleb_law v).0 (ap (take k) e ∙ is) (rw value fits) ∙ ap Some value
