-- The number that digits spell only grows.
use Rattle.std.proofs.Common.{◌≡◌, ℕ, ◌+◌, ◌*◌, ◌<◌, ◌≤◌, List, length, refl, get_or, drop, Some, None, Bool, cond, sym, ap, ◌∙◌, arith}
use Rattle.std.specs.Char.{digit_value}
use Rattle.std.proofs.lemmas.Bool.{lt-leb, le-leb}
use Rattle.std.proofs.lemmas.List.{drop_more, drop_all}
use Rattle.read_metadata.specs.Number.{value_behind}
use Rattle.read_metadata.proofs.Numbers.{grows}
use Rattle.read_debug_nodes.specs.Number.{spelled_within}

-- a number that is above the limit already
pub above : (base most n d : ℕ) (ds : List ℕ) (i : ℕ) → 0 < base → i < length ds → d ≡ digit_value (get_or ds i 0) → most < n * base + d
    → value_behind base n (drop i ds) ≡ value_behind base 0 ds → None ≡ spelled_within base most ds
unfolding spelled_within
above base most n d ds i positive lt digit large read =
    let step : value_behind base (n * base + digit_value (get_or ds i 0)) (drop (i + 1) ds) ≡ value_behind base 0 ds =
    ap (value_behind base n) (sym (drop_more ds i 0 lt)) ∙ read in
    let more = grows base (n * base + digit_value (get_or ds i 0)) (drop (i + 1) ds) positive in
    let over : most < value_behind base 0 ds = omega (arith, step, more, digit, large) in
    ap (λ (z : Bool). cond z (Some (value_behind base 0 ds)) None) (sym (lt-leb (value_behind base 0 ds) most over))

-- all digits are read
pub all_read : (base most n : ℕ) (ds : List ℕ) (i : ℕ) → length ds ≤ i → n ≤ most → value_behind base n (drop i ds) ≡ value_behind base 0 ds →
    Some n ≡ spelled_within base most ds
unfolding spelled_within
all_read base most n ds i all small read =
    let same : n ≡ value_behind base 0 ds = ap (value_behind base n) (sym (drop_all i ds all)) ∙ read in
    rw (← same, le-leb n most small) refl
