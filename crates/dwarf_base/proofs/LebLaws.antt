-- What the groups of a number stand for, and that no shorter bytes do.
use Rattle.std.specs.Prelude.{ℤ, pos, negsuc, ◌+ℤ◌, ◌-ℤ◌, ◌*ℤ◌, FitsSigned}
use Rattle.std.specs.Int.{w64}
use lib.Signed.{lt_z}
use lib.IntN.{nat_abs}
use mir.Val.{to_z, of_z}
use Rattle.std.proofs.Common.{◌≡◌, ℕ, zero, suc, ◌+◌, ◌*◌, ◌/◌, ◌%◌, ◌^◌, ◌<◌, ◌≤◌, Bool, true, false, List, [], ◌∷◌, ◌++◌, length, arith, ap, sym, ◌∙◌, refl}
use Rattle.std.proofs.Common.{inl, inr, pow-suc}
use Rattle.std.proofs.lemmas.Bool.Decides.{nat_tests}
use Rattle.std.proofs.lemmas.Bool.{cases_lt}
use Rattle.std.proofs.lemmas.Int.{ints, to_z-of_z}
use Rattle.dwarf_base.specs.Leb.{groups, group, uleb_of, sleb_of, IsLeb, unsigned_value, signed_value}
use Rattle.dwarf_base.proofs.LebLemmas.{groups_last, groups_more, shorter}

IsLeb-cons : (b : ℕ) (xs : List ℕ) → 128 ≤ b → b < 256 → IsLeb xs → IsLeb (b ∷ xs)
IsLeb-cons b [] high byte is = absurd is
IsLeb-cons b (c ∷ xs) high byte is = (high, byte, is)

group_below : (complement : Bool) (n : ℕ) → n < 128 → group complement n < 128
group_below true n h = omega arith
group_below false n h = h

pub IsLeb-groups : (most limit : ℕ) (complement : Bool) (n : ℕ) → limit ≤ 128 → n < 128 ^ most * limit → IsLeb (groups most limit complement n)
IsLeb-groups zero limit complement n h below =
    let small : n < limit = omega arith in
    rw (groups_last 0 limit complement n small) (group_below complement n (omega arith))
IsLeb-groups (suc most) limit complement n h below =
    elim (cases_lt n limit) [
      | inl small ↦ rw (groups_last (suc most) limit complement n small) (group_below complement n (omega arith))
      | inr large ↦
          let low : group complement (n % 128) < 128 = group_below complement (n % 128) (omega arith) in
          rw (groups_more most limit complement n large)
          (IsLeb-cons (128 + group complement (n % 128)) (groups most limit complement (n / 128)) (omega arith) (omega arith)
          (IsLeb-groups most limit complement (n / 128) h (shorter most limit n below)))
    ]

pub unsigned_value-groups : (most n : ℕ) → n < 128 ^ most * 128 → unsigned_value (groups most 128 false n) ≡ n
unsigned_value-groups zero n below =
    let small : n < 128 = omega arith in
    rw (groups_last 0 128 false n small) (omega arith)
unsigned_value-groups (suc most) n below =
    elim (cases_lt n 128) [
      | inl small ↦ rw (groups_last (suc most) 128 false n small) (omega arith)
      | inr large ↦
          let rest = unsigned_value-groups most (n / 128) (shorter most 128 n below) in
          rw (groups_more most 128 false n large, rest) (omega arith)
    ]

some_byte : (bytes : List ℕ) → IsLeb bytes → 1 ≤ length bytes
some_byte [] is = absurd is
some_byte (b ∷ bytes) is = omega arith

one_group : (most limit : ℕ) (complement : Bool) (n : ℕ) → n < limit → length (groups most limit complement n) ≡ 1
one_group most limit complement n small = rw (groups_last most limit complement n small) refl

more_groups : (most limit : ℕ) (complement : Bool) (n : ℕ) → limit ≤ n → length (groups (suc most) limit complement n)
    ≡ 1 + length (groups most limit complement (n / 128))
more_groups most limit complement n large = rw (groups_more most limit complement n large) (omega arith)

zero_groups : (limit : ℕ) (complement : Bool) (n : ℕ) → length (groups 0 limit complement n) ≡ 1
unfolding groups
zero_groups limit complement n = refl

pub shortest_unsigned : (most n : ℕ) (bytes : List ℕ) → IsLeb bytes → unsigned_value bytes ≡ n → length (groups most 128 false n) ≤ length bytes
shortest_unsigned zero n bytes is e = omega (arith, zero_groups 128 false n, some_byte bytes is)
shortest_unsigned (suc most) n [] is e = absurd is
shortest_unsigned (suc most) n (b ∷ []) is e = omega (arith, one_group (suc most) 128 false n (omega arith))
shortest_unsigned (suc most) n (b ∷ c ∷ bytes) is e =
    elim (cases_lt n 128) [
      | inl small ↦ omega (arith, one_group (suc most) 128 false n small)
      | inr large ↦
          let rest : unsigned_value (c ∷ bytes) ≡ n / 128 = omega arith in
          omega (arith, more_groups most 128 false n large, shortest_unsigned most (n / 128) (c ∷ bytes) is.2 rest)
    ]

signed_value-cons : (b : ℕ) (xs : List ℕ) → IsLeb xs → signed_value (b ∷ xs) ≡ pos (b % 128) +ℤ (pos 128 *ℤ signed_value xs)
signed_value-cons b [] is = absurd is
signed_value-cons b (c ∷ xs) is = refl

-- the number whose bits, or whose complement's bits, are those of n
abbrev pub signed_of : (complement : Bool) → ℕ → ℤ
signed_of false n = pos n
signed_of true n = negsuc n

last_group : (complement : Bool) (n : ℕ) → n < 64 → signed_value (group complement n ∷ []) ≡ signed_of complement n
last_group false n small = grind (arith, ints, nat_tests)
last_group true n small = grind (arith, ints, nat_tests)

signed_step : (complement : Bool) (n : ℕ) → pos ((128 + group complement (n % 128)) % 128) +ℤ (pos 128 *ℤ signed_of complement (n / 128))
    ≡ signed_of complement n
signed_step false n = omega (arith, ints)
signed_step true n = omega (arith, ints)

pub signed_value-groups : (most : ℕ) (complement : Bool) (n : ℕ) → n < 128 ^ most * 64 → signed_value (groups most 64 complement n) ≡ signed_of complement n
signed_value-groups zero complement n below =
    let small : n < 64 = omega arith in
    rw (groups_last 0 64 complement n small) (last_group complement n small)
signed_value-groups (suc most) complement n below =
    elim (cases_lt n 64) [
      | inl small ↦ rw (groups_last (suc most) 64 complement n small) (last_group complement n small)
      | inr large ↦
          let short = shorter most 64 n below in
          rw (
            groups_more most 64 complement n large,
            signed_value-cons (128 + group complement (n % 128)) (groups most 64 complement (n / 128))
                (IsLeb-groups most 64 complement (n / 128) (omega arith) short),
            signed_value-groups most complement (n / 128) short,
          ) (signed_step complement n)
    ]

-- one byte spells -64 to 63
one_byte : (complement : Bool) (n b : ℕ) → signed_value (b ∷ []) ≡ signed_of complement n → n < 64
one_byte false n b e = grind (arith, ints, nat_tests)
one_byte true n b e = grind (arith, ints, nat_tests)

-- what follows the first byte stands for the rest
rest_value : (complement : Bool) (n r : ℕ) (z : ℤ) → r < 128 → pos r +ℤ (pos 128 *ℤ z) ≡ signed_of complement n → z ≡ signed_of complement (n / 128)
rest_value false n r z h e = omega (arith, ints)
rest_value true n r z h e = omega (arith, ints)

pub shortest_signed : (most : ℕ) (complement : Bool) (n : ℕ) (bytes : List ℕ) → IsLeb bytes → signed_value bytes ≡ signed_of complement n
    → length (groups most 64 complement n) ≤ length bytes
shortest_signed zero complement n bytes is e = omega (arith, zero_groups 64 complement n, some_byte bytes is)
shortest_signed (suc most) complement n [] is e = absurd is
shortest_signed (suc most) complement n (b ∷ []) is e = omega (arith, one_group (suc most) 64 complement n (one_byte complement n b e))
shortest_signed (suc most) complement n (b ∷ c ∷ bytes) is e =
    elim (cases_lt n 64) [
      | inl small ↦ omega (arith, one_group (suc most) 64 complement n small)
      | inr large ↦
          let rest = rest_value complement n (b % 128) (signed_value (c ∷ bytes)) (omega arith) e in
          omega (arith, more_groups most 64 complement n large, shortest_signed most complement (n / 128) (c ∷ bytes) is.2 rest)
    ]

-- no number in LEB128 begins another one
pub no_prefix : (a b x y : List ℕ) → IsLeb a → IsLeb b → a ++ x ≡ b ++ y → (a ≡ b) × (x ≡ y)
no_prefix [] b x y ia ib e = absurd ia
no_prefix (m ∷ a) [] x y ia ib e = absurd ib
no_prefix (m ∷ []) (n ∷ []) x y ia ib e = (cc, cc)
no_prefix (m ∷ []) (n ∷ d ∷ b) x y ia ib e =
    let same : m ≡ n = cc in absurd (omega arith)
no_prefix (m ∷ c ∷ a) (n ∷ []) x y ia ib e =
    let same : m ≡ n = cc in absurd (omega arith)
no_prefix (m ∷ c ∷ a) (n ∷ d ∷ b) x y ia ib e =
    let same : m ≡ n = cc in
    let rest : (c ∷ a) ++ x ≡ (d ∷ b) ++ y = cc in
    let found = no_prefix (c ∷ a) (d ∷ b) x y ia.2 ib.2 rest in
    (let tails = found.0 in cc, found.1)

-- n groups are enough for n
enough : (limit n : ℕ) → 64 ≤ limit → n < 128 ^ n * limit
enough limit zero h = omega arith
enough limit (suc n) h =
    let e : 128 ^ suc n * limit ≡ 128 ^ n * limit * 128 = rw (pow-suc 128 n) (swapped (128 ^ n) limit) in
    rw e (grown (128 ^ n * limit) n (enough limit n h))
  where
    swapped : (a b : ℕ) → a * 128 * b ≡ a * b * 128
    swapped a b = omega arith

    grown : (m n : ℕ) → n < m → suc n < m * 128
    grown m n h = omega arith

-- more groups than are enough change nothing
same_groups : (j k limit : ℕ) (complement : Bool) (n : ℕ) → n < 128 ^ j * limit → n < 128 ^ k * limit → groups j limit complement n
    ≡ groups k limit complement n
same_groups zero k limit complement n below_j below_k =
    let small : n < limit = omega arith in
    groups_last 0 limit complement n small ∙ sym (groups_last k limit complement n small)
same_groups (suc j) zero limit complement n below_j below_k =
    let small : n < limit = omega arith in
    groups_last (suc j) limit complement n small ∙ sym (groups_last 0 limit complement n small)
same_groups (suc j) (suc k) limit complement n below_j below_k =
    elim (cases_lt n limit) [
      | inl small ↦ groups_last (suc j) limit complement n small ∙ sym (groups_last (suc k) limit complement n small)
      | inr large ↦
          groups_more j limit complement n large
          ∙ ap (λ ys. (128 + group complement (n % 128)) ∷ ys) (same_groups j k limit complement (n / 128) (shorter j limit n below_j) (shorter k limit n
          below_k))
          ∙ sym (groups_more k limit complement n large)
    ]

pub uleb_of-groups : (n : ℕ) → n < 2 ^ 64 → uleb_of n ≡ groups 9 128 false n
unfolding uleb_of
uleb_of-groups n fits = same_groups n 9 128 false n (enough 128 n (omega arith)) (omega arith)

-- what the spellings stand for
pub uleb_law : (n : ℕ) → IsLeb (uleb_of n) × unsigned_value (uleb_of n) ≡ n
unfolding uleb_of
uleb_law n =
    let room : n < 128 ^ n * 128 = enough 128 n (omega arith) in
    (IsLeb-groups n 128 false n (omega arith) room, unsigned_value-groups n n room)

pub sleb_law : (v : ℤ) → IsLeb (sleb_of v) × signed_value (sleb_of v) ≡ v
unfolding sleb_of
sleb_law (pos n) =
    let room : n < 128 ^ n * 64 = enough 64 n (omega arith) in
    (IsLeb-groups n 64 false n (omega arith) room, signed_value-groups n false n room)
sleb_law (negsuc n) =
    let room : n < 128 ^ n * 64 = enough 64 n (omega arith) in
    (IsLeb-groups n 64 true n (omega arith) room, signed_value-groups n true n room)

pub uleb_shortest : (n : ℕ) (bytes : List ℕ) → IsLeb bytes → unsigned_value bytes ≡ n → length (uleb_of n) ≤ length bytes
unfolding uleb_of
uleb_shortest n bytes is e = shortest_unsigned n n bytes is e

pub sleb_shortest : (v : ℤ) (bytes : List ℕ) → IsLeb bytes → signed_value bytes ≡ v → length (sleb_of v) ≤ length bytes
unfolding sleb_of
sleb_shortest (pos n) bytes is e = shortest_signed n false n bytes is e
sleb_shortest (negsuc n) bytes is e = shortest_signed n true n bytes is e

-- the number's bits, or its complement's
pub record HasBits (v : ℤ) (complement : Bool) (n : ℕ) : Type 0 where
  pub is : v ≡ signed_of complement n
  pub fits : n < 2 ^ 63

pub sleb_of-groups : (v : ℤ) (complement : Bool) (n : ℕ) → HasBits v complement n → sleb_of v ≡ groups 9 64 complement n
unfolding sleb_of
sleb_of-groups v false n bits = rw bits.is (same_groups n 9 64 false n (enough 64 n (omega arith)) (omega (arith, bits.fits)))
sleb_of-groups v true n bits = rw bits.is (same_groups n 9 64 true n (enough 64 n (omega arith)) (omega (arith, bits.fits)))

complemented : (v : ℤ) → lt_z v (pos 0) ≡ true → v ≡ signed_of true (nat_abs (negsuc 0 -ℤ v))
complemented (pos n) neg = absurd (omega (arith, ints))
complemented (negsuc n) neg = omega (arith, ints)

as_is : (v : ℤ) → lt_z v (pos 0) ≡ false → v ≡ signed_of false (nat_abs v)
as_is (pos n) neg = refl
as_is (negsuc n) neg = absurd (omega (arith, ints))

fits_abs : (v : ℤ) → FitsSigned w64 v → lt_z v (pos 0) ≡ false → nat_abs v < 2 ^ 63
fits_abs (pos n) fits neg = omega (arith, ints)
fits_abs (negsuc n) fits neg = absurd (omega (arith, ints))

fits_complement : (v : ℤ) → FitsSigned w64 v → lt_z v (pos 0) ≡ true → nat_abs (negsuc 0 -ℤ v) < 2 ^ 63
fits_complement (pos n) fits neg = absurd (omega (arith, ints))
fits_complement (negsuc n) fits neg = omega (arith, ints)

pub negative_bits : (v : ℤ) → FitsSigned w64 v → lt_z (to_z w64 (of_z w64 v)) (pos 0) ≡ true
    → HasBits v true (nat_abs (to_z w64 (of_z w64 (negsuc 0 -ℤ to_z w64 (of_z w64 v)))))
negative_bits v fits neg =
    let same : to_z w64 (of_z w64 v) ≡ v = to_z-of_z w64 v fits in
    let below : lt_z v (pos 0) ≡ true = rw same at neg in
    let other : to_z w64 (of_z w64 (negsuc 0 -ℤ v)) ≡ negsuc 0 -ℤ v = omega (arith, ints) in
    rw (same, other) (record { is = complemented v below; fits = fits_complement v fits below })

pub other_bits : (v : ℤ) → FitsSigned w64 v → lt_z (to_z w64 (of_z w64 v)) (pos 0) ≡ false
    → HasBits v false (nat_abs (to_z w64 (of_z w64 v)))
other_bits v fits neg =
    let same : to_z w64 (of_z w64 v) ≡ v = to_z-of_z w64 v fits in
    let above : lt_z v (pos 0) ≡ false = rw same at neg in
    rw same (record { is = as_is v above; fits = fits_abs v fits above })
