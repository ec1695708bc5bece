-- The number that digits spell only grows.
use Rattle.std.proofs.Common.{◌≡◌, ℕ, ◌+◌, ◌*◌, ◌^◌, ◌<◌, ◌≤◌, List, [], length, get_or, drop, Some, None, Bool, true}
use Rattle.std.proofs.Common.{false, cond, min, refl, sym, ap, ◌∙◌, arith}
use Rattle.std.specs.Prelude.{nat_lt}
use Rattle.std.specs.Char.{digit_value}
use Rattle.std.proofs.lemmas.Bool.{lt-ltb, le-ltb, ltb-false}
use Rattle.std.proofs.lemmas.List.{drop_more, drop_all}
use Rattle.read_metadata.specs.Number.{value_behind}
use Rattle.read_metadata.proofs.Numbers.{grows}
use Rattle.read_token.specs.Number.{BEYOND, narrow_value, value_of, limited}

-- one more digit
pub one_digit : (base n d : ℕ) (ds : List ℕ) (i : ℕ) → i < length ds → d ≡ digit_value (get_or ds i 0) → value_behind base n (drop i ds) ≡ value_of base ds
    → value_behind base (n * base + d) (drop (i + 1) ds) ≡ value_of base ds
one_digit base n d ds i lt digit read =
    ap (λ (k : ℕ). value_behind base (n * base + k) (drop (i + 1) ds)) digit ∙ ap (value_behind base n) (sym (drop_more ds i 0 lt)) ∙ read

-- a number that is 2^128 or more already
pub wide : (base n d : ℕ) (ds : List ℕ) (i : ℕ) → 0 < base → i < length ds → d ≡ digit_value (get_or ds i 0) → 2 ^ 128 ≤ n * base + d
    → value_behind base n (drop i ds) ≡ value_of base ds → None ≡ narrow_value base ds
unfolding narrow_value
wide base n d ds i positive lt digit large read =
    let step = one_digit base n d ds i lt digit read in
    let more = grows base (n * base + d) (drop (i + 1) ds) positive in
    let over : 2 ^ 128 ≤ value_of base ds = omega (arith, step, more, large) in
    ap (λ (z : Bool). cond z (Some (value_of base ds)) None) (sym (le-ltb (value_of base ds) (2 ^ 128) over))

-- all digits are read
pub all_read : (base n : ℕ) (ds : List ℕ) (i : ℕ) → length ds ≤ i → n < 2 ^ 128 → value_behind base n (drop i ds) ≡ value_of base ds →
    Some n ≡ narrow_value base ds
unfolding narrow_value
all_read base n ds i all small read =
    let same : n ≡ value_of base ds = ap (value_behind base n) (sym (drop_all i ds all)) ∙ read in
    rw (← same, lt-ltb n (2 ^ 128) small) refl

-- a number below 2^128
pub limits : (digits : List ℕ) (n : ℕ) → Some n ≡ narrow_value 10 digits → min n BEYOND ≡ limited digits
unfolding narrow_value limited
limits digits n is = by_size (nat_lt (value_of 10 digits) (2 ^ 128)) is
  where
    by_size : (b : Bool) → Some n ≡ cond b (Some (value_of 10 digits)) None → min n BEYOND ≡ min (value_of 10 digits) BEYOND
    by_size true e = let same : n ≡ value_of 10 digits = cc in ap (λ (k : ℕ). min k BEYOND) same
    by_size false e = absurd cc

-- a number of 2^128 or more
pub all_beyond : (digits : List ℕ) → None ≡ narrow_value 10 digits → BEYOND ≡ limited digits
unfolding narrow_value limited
all_beyond digits is = by_size (nat_lt (value_of 10 digits) (2 ^ 128)) refl is
  where
    by_size : (b : Bool) → nat_lt (value_of 10 digits) (2 ^ 128) ≡ b → None ≡ cond b (Some (value_of 10 digits)) None → BEYOND ≡ min (value_of 10 digits) BEYOND
    by_size true e none = absurd cc
    by_size false e none = omega (arith, ltb-false (value_of 10 digits) (2 ^ 128) e)
