-- The number that digits spell only grows.
use Rattle.std.proofs.Common.{◌≡◌, ℕ, ◌+◌, ◌*◌, ◌<◌, ◌≤◌, List, [], ◌∷◌, length, get_or, drop, Some, None, Bool, cond, refl, sym, ap, ◌∙◌, arith}
use Rattle.std.specs.Char.{digit_value}
use Rattle.std.proofs.Math.Nat.{mul-le-mul_left}
use Rattle.std.proofs.lemmas.Bool.{lt-leb, le-leb}
use Rattle.std.proofs.lemmas.List.{drop_more, drop_all}
use Rattle.read_metadata.specs.Number.{value_behind, spelled}
use Rattle.base_ids.specs.Limits.{MAX_NUMBER}

pub grows : (base n : ℕ) (ds : List ℕ) → 0 < base → n ≤ value_behind base n ds
grows base n [] positive = omega arith
grows base n (d ∷ ds) positive =
    let more = grows base (n * base + digit_value d) ds positive in
    let times : n * 1 ≤ n * base = mul-le-mul_left n (omega arith) in
    omega (arith, more, times)

-- a number that is above the limit already
pub above : (base n d : ℕ) (ds : List ℕ) (i : ℕ) → 0 < base → i < length ds → d ≡ digit_value (get_or ds i 0) → MAX_NUMBER < n * base + d
    → value_behind base n (drop i ds) ≡ value_behind base 0 ds → None ≡ spelled base ds
unfolding spelled
above base n d ds i positive lt digit large read =
    let step : value_behind base (n * base + digit_value (get_or ds i 0)) (drop (i + 1) ds) ≡ value_behind base 0 ds =
    ap (value_behind base n) (sym (drop_more ds i 0 lt)) ∙ read in
    let more = grows base (n * base + digit_value (get_or ds i 0)) (drop (i + 1) ds) positive in
    let over : MAX_NUMBER < value_behind base 0 ds = omega (arith, step, more, digit, large) in
    ap (λ (z : Bool). cond z (Some (value_behind base 0 ds)) None) (sym (lt-leb (value_behind base 0 ds) MAX_NUMBER over))

-- all digits are read
pub all_read : (base n : ℕ) (ds : List ℕ) (i : ℕ) → length ds ≤ i → n ≤ MAX_NUMBER → value_behind base n (drop i ds) ≡ value_behind base 0 ds →
    Some n ≡ spelled base ds
unfolding spelled
all_read base n ds i all small read =
    let same : n ≡ value_behind base 0 ds = ap (value_behind base n) (sym (drop_all i ds all)) ∙ read in
    rw (← same, le-leb n MAX_NUMBER small) refl
