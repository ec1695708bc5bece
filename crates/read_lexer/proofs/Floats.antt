-- Floating-point literals: what is read as one is one, and no longer text is.
use Rattle.std.proofs.Common.{◌≡◌, ℕ, zero, suc, ◌+◌, ◌-◌, ◌<◌, ◌≤◌, ◌==◌, ◌&&◌, ◌||◌, Bool, true, false, not, cond, List, [], ◌∷◌, length, take, drop}
use Rattle.std.proofs.Common.{refl, sym, ap, subst, ◌∙◌, arith, inl, inr, ◌⊎◌}
use Rattle.std.specs.List.{prefix_len, list_all}
use Rattle.std.specs.Char.{is_ascii_digit}
use Rattle.std.proofs.lemmas.Bool.{eqb-false, ne_eqb}
use Rattle.std.proofs.lemmas.List.{drop-take, length-drop, length-take-le}
use Rattle.std.proofs.lemmas.List.Sums.{prefix_len-le-length}
use Rattle.read_lexer.specs.Bytes.{with_digits, sign_len, exponent_len, with_exponent, fraction_len}
use Rattle.read_lexer.specs.Spelling.{is_run, is_exponent, is_digits_and, is_fraction, is_float}

-- ---- lengths

with_digits-le : (len : ℕ) (bs : List ℕ) → with_digits len bs ≤ len + prefix_len is_ascii_digit bs
with_digits-le len bs = elim (prefix_len is_ascii_digit bs == 0) as (λ z. cond z 0 (len + prefix_len is_ascii_digit bs) ≤ len + prefix_len is_ascii_digit bs) [
  | true ↦ omega arith
  | false ↦ omega arith
]

sign_len-le : (bs : List ℕ) → sign_len bs ≤ length bs
sign_len-le [] = omega arith
sign_len-le (b ∷ bs) = elim (b == 43 || b == 45) as (λ z. cond z 1 0 ≤ suc (length bs)) [ true ↦ omega arith | false ↦ omega arith ]

exponent_len-le : (bs : List ℕ) → exponent_len bs ≤ length bs
exponent_len-le [] = omega arith
exponent_len-le (b ∷ bs) =
    let s = sign_len-le bs in
    let left = length-drop (sign_len bs) bs in
    let d = prefix_len-le-length is_ascii_digit (drop (sign_len bs) bs) in
    let w = with_digits-le (1 + sign_len bs) (drop (sign_len bs) bs) in
    elim (b == 101) as (λ z. cond z (with_digits (1 + sign_len bs) (drop (sign_len bs) bs)) 0 ≤ suc (length bs)) [ true ↦ omega arith | false ↦ omega arith ]

with_exponent-le : (len : ℕ) (behind : List ℕ) (n : ℕ) → len + exponent_len behind ≤ n → with_exponent len behind ≤ n
with_exponent-le len behind n le = elim (len == 0) as (λ z. cond z 0 (len + exponent_len behind) ≤ n) [ true ↦ omega arith | false ↦ le ]

pub fraction_len-le : (bs : List ℕ) → fraction_len bs ≤ length bs
fraction_len-le [] = omega arith
fraction_len-le (b ∷ bs) =
    let d = prefix_len-le-length is_ascii_digit bs in
    let left = length-drop (prefix_len is_ascii_digit bs) bs in
    let e = exponent_len-le (drop (prefix_len is_ascii_digit bs) bs) in
    let w = with_digits-le 1 bs in
    elim (b == 46) as (λ z. cond z (with_exponent (with_digits 1 bs) (drop (prefix_len is_ascii_digit bs) bs)) 0 ≤ suc (length bs)) [
      | true ↦ with_exponent-le (with_digits 1 bs) (drop (prefix_len is_ascii_digit bs) bs) (suc (length bs)) (omega arith)
      | false ↦ omega arith
    ]

-- ---- the front of a text

-- the run at the front of a front that has it whole
take-step : (here : Bool) (q r n : ℕ) → (q ≤ n → r ≡ q) → cond here (1 + q) 0 ≤ suc n → cond here (1 + r) 0 ≡ cond here (1 + q) 0
take-step true q r n later le = ap (λ (m : ℕ). 1 + m) (later (omega arith))
take-step false q r n later le = refl

take-none : (here : Bool) (q : ℕ) → cond here (1 + q) 0 ≤ 0 → 0 ≡ cond here (1 + q) 0
take-none true q le = absurd (omega arith)
take-none false q le = refl

prefix-take : (p : ℕ → Bool) (xs : List ℕ) (n : ℕ) → prefix_len p xs ≤ n → prefix_len p (take n xs) ≡ prefix_len p xs
prefix-take p [] zero le = refl
prefix-take p [] (suc n) le = refl
prefix-take p (x ∷ xs) zero le = take-none (p x) (prefix_len p xs) le
prefix-take p (x ∷ xs) (suc n) le = take-step (p x) (prefix_len p xs) (prefix_len p (take n xs)) n (prefix-take p xs n) le

sign-none : (here : Bool) → cond here 1 0 ≤ 0 → ◌≡◌ {A = ℕ} 0 (cond here 1 0)
sign-none true le = absurd (omega arith)
sign-none false le = refl

sign-take : (bs : List ℕ) (n : ℕ) → sign_len bs ≤ n → sign_len (take n bs) ≡ sign_len bs
sign-take [] zero le = refl
sign-take [] (suc n) le = refl
sign-take (b ∷ bs) zero le = sign-none (b == 43 || b == 45) le
sign-take (b ∷ bs) (suc n) le = refl

all-step : (here : Bool) (k : ℕ) (x : ℕ) (xs : List ℕ) (p : ℕ → Bool) → p x ≡ here → list_all p (take k xs) ≡ true →
    list_all p (take (cond here (1 + k) 0) (x ∷ xs)) ≡ true
all-step true k x xs p is rest = let e : 1 + k ≡ suc k = omega arith in rw (e, is) rest
all-step false k x xs p is rest = refl

all-take : (p : ℕ → Bool) (xs : List ℕ) → list_all p (take (prefix_len p xs) xs) ≡ true
all-take p [] = refl
all-take p (x ∷ xs) = all-step (p x) (prefix_len p xs) x xs p refl (all-take p xs)

run-of : (p : ℕ → Bool) (xs : List ℕ) → 0 < length xs → list_all p xs ≡ true → is_run p xs ≡ true
run-of p [] some all = absurd (omega arith)
run-of p (x ∷ xs) some all = all

run-take : (p : ℕ → Bool) (xs : List ℕ) → (prefix_len p xs == 0) ≡ false → is_run p (take (prefix_len p xs) xs) ≡ true
run-take p xs some =
    let len = length-take-le (prefix_len p xs) xs (prefix_len-le-length p xs) in
    run-of p (take (prefix_len p xs) xs) (omega (arith, eqb-false _ _ some)) (all-take p xs)

-- ---- what is read is a literal

digits_and-take : (passes : List ℕ → Bool) (k : ℕ) (xs : List ℕ) → (prefix_len is_ascii_digit xs == 0) ≡ false →
    passes (take k (drop (prefix_len is_ascii_digit xs) xs)) ≡ true → is_digits_and passes (take (prefix_len is_ascii_digit xs + k) xs) ≡ true
digits_and-take passes k xs some is =
    let same = prefix-take is_ascii_digit xs (prefix_len is_ascii_digit xs + k) (omega arith) in
    rw (same, some, drop-take (prefix_len is_ascii_digit xs) k xs) is

exponent-take : (xs : List ℕ) → is_exponent (take (exponent_len xs) xs) ≡ true
exponent-take [] = refl
exponent-take (b ∷ bs) = by (b == 101) refl
  where
    digits_are : (b == 101) ≡ true → (z : Bool) → (prefix_len is_ascii_digit (drop (sign_len bs) bs) == 0) ≡ z →
        is_exponent (take (cond z 0 (1 + sign_len bs + prefix_len is_ascii_digit (drop (sign_len bs) bs))) (b ∷ bs)) ≡ true
    digits_are is true none = refl
    digits_are is false some =
        let d = prefix_len is_ascii_digit (drop (sign_len bs) bs) in
        let e : 1 + sign_len bs + d ≡ suc (sign_len bs + d) = omega arith in
        rw (e, is, sign-take bs (sign_len bs + d) (omega arith), drop-take (sign_len bs) d bs) (run-take is_ascii_digit (drop (sign_len bs) bs) some)

    by : (e : Bool) → (b == 101) ≡ e → is_exponent (take (cond e (with_digits (1 + sign_len bs) (drop (sign_len bs) bs)) 0) (b ∷ bs)) ≡ true
    by false is = refl
    by true is = digits_are is (prefix_len is_ascii_digit (drop (sign_len bs) bs) == 0) refl

pub fraction-take : (xs : List ℕ) → (fraction_len xs == 0) ≡ false → is_fraction (take (fraction_len xs) xs) ≡ true
fraction-take [] some = absurd cc
fraction-take (b ∷ bs) some = by (b == 46) refl some
  where
    digits_are : (b == 46) ≡ true → (z : Bool) → (prefix_len is_ascii_digit bs == 0) ≡ z →
        (with_exponent (cond z 0 (1 + prefix_len is_ascii_digit bs)) (drop (prefix_len is_ascii_digit bs) bs) == 0) ≡ false →
        is_fraction (take (with_exponent (cond z 0 (1 + prefix_len is_ascii_digit bs)) (drop (prefix_len is_ascii_digit bs) bs)) (b ∷ bs)) ≡ true
    digits_are is true none more = absurd cc
    digits_are is false z more =
        let d = prefix_len is_ascii_digit bs in
        let apart : 1 + d ≡ 0 → ⊥ = λ e. omega arith in
        let len : 1 + d + exponent_len (drop (prefix_len is_ascii_digit bs) bs) ≡ suc (d + exponent_len (drop (prefix_len is_ascii_digit bs) bs)) = omega arith in
        rw (ne_eqb (1 + d) 0 apart, len, is) (digits_and-take is_exponent (exponent_len (drop (prefix_len is_ascii_digit bs) bs)) bs z (exponent-take (drop (prefix_len is_ascii_digit bs) bs)))

    by : (e : Bool) → (b == 46) ≡ e → (cond e (with_exponent (with_digits 1 bs) (drop (prefix_len is_ascii_digit bs) bs)) 0 == 0) ≡ false →
        is_fraction (take (cond e (with_exponent (with_digits 1 bs) (drop (prefix_len is_ascii_digit bs) bs)) 0) (b ∷ bs)) ≡ true
    by false is more = absurd cc
    by true is more = digits_are is (prefix_len is_ascii_digit bs == 0) refl more

-- what is read behind a sign
pub float-take : (xs : List ℕ) → (prefix_len is_ascii_digit xs == 0) ≡ false → (fraction_len (drop (prefix_len is_ascii_digit xs) xs) == 0) ≡ false →
    is_float (take (prefix_len is_ascii_digit xs + fraction_len (drop (prefix_len is_ascii_digit xs) xs)) xs) ≡ true
float-take xs some more =
    digits_and-take is_fraction (fraction_len (drop (prefix_len is_ascii_digit xs) xs)) xs some (fraction-take (drop (prefix_len is_ascii_digit xs) xs) more)

-- what is read from its first digit on
pub float-first : (first : ℕ) (after : List ℕ) → is_ascii_digit first ≡ true → (fraction_len (drop (prefix_len is_ascii_digit after) after) == 0) ≡ false →
    is_float (first ∷ take (prefix_len is_ascii_digit after + fraction_len (drop (prefix_len is_ascii_digit after) after)) after) ≡ true
float-first first after digit more =
    let d = prefix_len is_ascii_digit after in
    let f = fraction_len (drop d after) in
    let same = prefix-take is_ascii_digit after (d + f) (omega arith) in
    let e : 1 + d ≡ suc d = omega arith in
    let apart : suc d ≡ 0 → ⊥ = λ z. omega arith in
    rw (digit, same, e, ne_eqb (suc d) 0 apart, drop-take d f after) (fraction-take (drop d after) more)

-- ---- no longer text is a literal

both : (a b : Bool) → (a && b) ≡ true → (a ≡ true) × (b ≡ true)
both true true e = (refl, refl)
both true false e = absurd cc
both false b e = absurd cc

is_false : (b : Bool) → not b ≡ true → b ≡ false
is_false true e = absurd cc
is_false false e = refl

-- a run that ends within a front is the run of the whole
stop-step : (here : Bool) (q r n : ℕ) → (r < n → q ≡ r) → cond here (1 + r) 0 < suc n → cond here (1 + q) 0 ≡ cond here (1 + r) 0
stop-step true q r n later lt = ap (λ (m : ℕ). 1 + m) (later (omega arith))
stop-step false q r n later lt = refl

prefix-stop : (p : ℕ → Bool) (xs : List ℕ) (n : ℕ) → n ≤ length xs → prefix_len p (take n xs) < n → prefix_len p xs ≡ prefix_len p (take n xs)
prefix-stop p xs zero le lt = absurd (omega arith)
prefix-stop p [] (suc n) le lt = absurd (omega arith)
prefix-stop p (x ∷ xs) (suc n) le lt = stop-step (p x) (prefix_len p xs) (prefix_len p (take n xs)) n (prefix-stop p xs n (omega arith)) lt

-- what is behind that run in the front
behind-stop : (p : ℕ → Bool) (xs : List ℕ) (n : ℕ) → n ≤ length xs → prefix_len p (take n xs) < n →
    drop (prefix_len p (take n xs)) (take n xs) ≡ take (n - prefix_len p xs) (drop (prefix_len p xs) xs)
behind-stop p xs n le lt =
    let same = prefix-stop p xs n le lt in
    let e : n ≡ prefix_len p xs + (n - prefix_len p xs) = omega arith in
    ap (λ (m : ℕ). drop m (take n xs)) (sym same) ∙ ap (λ (m : ℕ). drop (prefix_len p xs) (take m xs)) e
    ∙ drop-take (prefix_len p xs) (n - prefix_len p xs) xs

all-le-step : (here : Bool) (all : Bool) (n run : ℕ) → (all ≡ true → n ≤ run) → (here && all) ≡ true → suc n ≤ cond here (1 + run) 0
all-le-step true all n run later is = let h = later is in omega arith
all-le-step false all n run later is = absurd cc

all-le : (p : ℕ → Bool) (xs : List ℕ) (n : ℕ) → n ≤ length xs → list_all p (take n xs) ≡ true → n ≤ prefix_len p xs
all-le p xs zero le all = omega arith
all-le p [] (suc n) le all = absurd (omega arith)
all-le p (x ∷ xs) (suc n) le all = all-le-step (p x) (list_all p (take n xs)) n (prefix_len p xs) (λ rest. all-le p xs n (omega arith) rest) all

run-le : (p : ℕ → Bool) (xs : List ℕ) (n : ℕ) → n ≤ length xs → is_run p (take n xs) ≡ true → (0 < n) × (n ≤ prefix_len p xs)
run-le p xs zero le all = absurd cc
run-le p [] (suc n) le all = absurd (omega arith)
run-le p (x ∷ xs) (suc n) le all = (omega arith, all-le p (x ∷ xs) (suc n) le all)

run-some : (p : ℕ → Bool) (xs : List ℕ) → is_run p xs ≡ true → 0 < length xs
run-some p [] is = absurd cc
run-some p (x ∷ xs) is = omega arith

fraction-some : (xs : List ℕ) → is_fraction xs ≡ true → 0 < length xs
fraction-some [] is = absurd cc
fraction-some (x ∷ xs) is = omega arith

-- an exponent that is there is no longer than the one that is read
exponent-le : (xs : List ℕ) (n : ℕ) → n ≤ length xs → 0 < n → is_exponent (take n xs) ≡ true → n ≤ exponent_len xs
exponent-le xs zero le more is = absurd (omega arith)
exponent-le [] (suc n) le more is = absurd (omega arith)
exponent-le (b ∷ bs) (suc n) le more is =
    let w = both (b == 101) (is_run is_ascii_digit (drop (sign_len (take n bs)) (take n bs))) is in
    let some = run-some is_ascii_digit (drop (sign_len (take n bs)) (take n bs)) w.1 in
    let left = length-drop (sign_len (take n bs)) (take n bs) in
    let len = length-take-le n bs (omega arith) in
    let s : sign_len (take n bs) ≡ sign_len bs = sign-same bs n (omega (arith, some, left, len)) in
    let e : n ≡ sign_len bs + (n - sign_len bs) = omega (arith, some, left, len, s) in
    let parts : drop (sign_len (take n bs)) (take n bs) ≡ take (n - sign_len bs) (drop (sign_len bs) bs) =
    ap (λ (m : ℕ). drop m (take n bs)) s ∙ ap (λ (m : ℕ). drop (sign_len bs) (take m bs)) e ∙ drop-take (sign_len bs) (n - sign_len bs) bs in
    let all = length-drop (sign_len bs) bs in
    let h = run-le is_ascii_digit (drop (sign_len bs) bs) (n - sign_len bs) (omega arith)
    (subst (λ (t : List ℕ). is_run is_ascii_digit t ≡ true) parts w.1) in
    let apart : prefix_len is_ascii_digit (drop (sign_len bs) bs) ≡ 0 → ⊥ = λ z. omega (arith, h.0, h.1, z) in
    rw (w.0, ne_eqb (prefix_len is_ascii_digit (drop (sign_len bs) bs)) 0 apart) (omega (arith, h.0, h.1, e))
  where
    sign-same : (cs : List ℕ) (k : ℕ) → 0 < k → sign_len (take k cs) ≡ sign_len cs
    sign-same cs zero some = absurd (omega arith)
    sign-same [] (suc k) some = refl
    sign-same (c ∷ cs) (suc k) some = refl

-- a fraction that is there is no longer than the one that is read
fraction-le : (xs : List ℕ) (n : ℕ) → n ≤ length xs → is_fraction (take n xs) ≡ true → (0 < fraction_len xs) × (n ≤ fraction_len xs)
fraction-le xs zero le is = absurd cc
fraction-le [] (suc n) le is = absurd (omega arith)
fraction-le (b ∷ bs) (suc n) le is =
    let w = both (b == 46) (is_digits_and is_exponent (take n bs)) is in
    let d = prefix_len is_ascii_digit (take n bs) in
    let v = both (not (d == 0)) (is_exponent (drop d (take n bs))) w.1 in
    let some = eqb-false d 0 (is_false (d == 0) v.0) in
    let len = length-take-le n bs (omega arith) in
    let within = prefix_len-le-length is_ascii_digit (take n bs) in
    let rest = drop (prefix_len is_ascii_digit bs) bs in
    let left = length-drop (prefix_len is_ascii_digit bs) bs in
    let far = prefix-le is_ascii_digit bs n in
    let apart : prefix_len is_ascii_digit bs ≡ 0 → ⊥ = λ z. some (omega (arith, far, z)) in
    let more : 1 + prefix_len is_ascii_digit bs ≡ 0 → ⊥ = λ z. omega (arith, z) in
    rw (w.0, ne_eqb (prefix_len is_ascii_digit bs) 0 apart, ne_eqb (1 + prefix_len is_ascii_digit bs) 0 more) (
      omega arith,
      elim (order d n) [
        | inl lt ↦
            let same = prefix-stop is_ascii_digit bs n (omega arith) lt in
            let tail = exponent-le rest (n - prefix_len is_ascii_digit bs) (omega arith) (omega (arith, lt, same))
            (subst (λ (t : List ℕ). is_exponent t ≡ true) (behind-stop is_ascii_digit bs n (omega arith) lt) v.1) in
            omega (arith, tail, lt, same)
        | inr ge ↦ omega (arith, ge, far)
      ],
    )
  where
    order : (a c : ℕ) → (a < c) ⊎ (c ≤ a)
    order a zero = inr (omega arith)
    order zero (suc c) = inl (omega arith)
    order (suc a) (suc c) = elim (order a c) [ inl lt ↦ inl (omega (arith, lt)) | inr ge ↦ inr (omega (arith, ge)) ]

    le-step : (here : Bool) (q r : ℕ) → r ≤ q → cond here (1 + r) 0 ≤ cond here (1 + q) 0
    le-step true q r le = omega (arith, le)
    le-step false q r le = omega arith

    prefix-le : (p : ℕ → Bool) (cs : List ℕ) (k : ℕ) → prefix_len p (take k cs) ≤ prefix_len p cs
    prefix-le p cs zero = omega arith
    prefix-le p [] (suc k) = omega arith
    prefix-le p (c ∷ cs) (suc k) = le-step (p c) (prefix_len p cs) (prefix_len p (take k cs)) (prefix-le p cs k)

-- a literal that is there has digits and a fraction, and is no longer than those that are read
pub float-le : (xs : List ℕ) (n : ℕ) → n ≤ length xs → is_float (take n xs) ≡ true →
    (0 < prefix_len is_ascii_digit xs) × (0 < fraction_len (drop (prefix_len is_ascii_digit xs) xs))
    × (n ≤ prefix_len is_ascii_digit xs + fraction_len (drop (prefix_len is_ascii_digit xs) xs))
float-le xs n le is =
    let d = prefix_len is_ascii_digit (take n xs) in
    let v = both (not (d == 0)) (is_fraction (drop d (take n xs))) is in
    let some = eqb-false d 0 (is_false (d == 0) v.0) in
    let len = length-take-le n xs le in
    let left = length-drop d (take n xs) in
    let tail = fraction-some (drop d (take n xs)) v.1 in
    let lt : d < n = omega (arith, len, left, tail) in
    let same = prefix-stop is_ascii_digit xs n le lt in
    let rest = length-drop (prefix_len is_ascii_digit xs) xs in
    let h = fraction-le (drop (prefix_len is_ascii_digit xs) xs) (n - prefix_len is_ascii_digit xs) (omega (arith, rest, le))
    (subst (λ (t : List ℕ). is_fraction t ≡ true) (behind-stop is_ascii_digit xs n le lt) v.1) in
    let more : 0 < d = positive d some in
    (omega (arith, same, more), h.0, omega (arith, h.1))
  where
    positive : (m : ℕ) → (m ≡ 0 → ⊥) → 0 < m
    positive zero no_way = absurd (no_way refl)
    positive (suc m) no_way = omega arith
