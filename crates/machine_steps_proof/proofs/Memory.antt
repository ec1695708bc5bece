-- Bytes of memory: what is spelled where something is stored, and elsewhere; and the frame's bytes.
use Rattle.std.proofs.Common.{◌≡◌, ℕ, zero, suc, ◌+◌, ◌-◌, ◌*◌, ◌/◌, ◌%◌, ◌^◌, ◌<◌, ◌≤◌, List, length, Bool, true, false}
use Rattle.std.proofs.Common.{nat_lt, nat_le, ◌&&◌, ◌||◌, refl, ap, ◌∙◌, subst, pow-suc, lt-ltb, le-ltb, le-leb, inl, inr, arith}
use Rattle.std.proofs.lemmas.Bool.{cases_lt, lt-leb}
use Rattle.mir_func.specs.Limits.{FRAME_ROOM}
use Rattle.sem_mir.specs.State.{updated, spelled, low_bytes, stored, in_frame, touches_frame}
use Rattle.sem_mir.proofs.Places.{updated_same, stored_other}

-- the same bytes spell the same number
pub spelled_alike : (m m' : ℕ → ℕ) (n a : ℕ) → ((j : ℕ) → j < n → m ((a + j) % 2 ^ 64) ≡ m' ((a + j) % 2 ^ 64)) → spelled m a n ≡ spelled m' a n
spelled_alike m m' zero a h = refl
spelled_alike m m' (suc n) a h =
    let z : a + 0 ≡ a = omega arith in
    let first : m (a % 2 ^ 64) ≡ m' (a % 2 ^ 64) = subst (λ (k : ℕ). m (k % 2 ^ 64) ≡ m' (k % 2 ^ 64)) z (h 0 (omega arith)) in
    let next : (j : ℕ) → a + suc j ≡ (a + 1) + j = λ j. omega arith in
    let rest = spelled_alike m m' n (a + 1) (λ j lt. subst (λ (k : ℕ). m (k % 2 ^ 64) ≡ m' (k % 2 ^ 64)) (next j) (h (suc j) (omega (arith, lt)))) in
    ap (λ (x : ℕ). x + 256 * spelled m (a + 1) n) first ∙ ap (λ (x : ℕ). m' (a % 2 ^ 64) + 256 * x) rest

pub length_low : (n v : ℕ) → length (low_bytes n v) ≡ n
length_low zero v = refl
length_low (suc n) v = let k = length_low n (v / 256) in omega (arith, k)

-- what is stored is spelled there
pub stored_spelled : (m : ℕ → ℕ) (n a v : ℕ) → a + n ≤ 2 ^ 64 → v < 256 ^ n → spelled (stored m a (low_bytes n v)) a n ≡ v
stored_spelled m zero a v le lt = let e : 256 ^ 0 ≡ 1 = refl in let lt1 = rw e at lt in omega (arith, lt1)
stored_spelled m (suc n) a v le lt =
    let e : 256 ^ suc n ≡ 256 ^ n * 256 = pow-suc 256 n in
    let lt1 = rw e at lt in
    let small : v / 256 < 256 ^ n = omega (arith, lt1) in
    let m1 = updated (a % 2 ^ 64) (v % 256) m in
    let rest = stored_spelled m1 n (a + 1) (v / 256) (omega (arith, le)) small in
    let here : stored m1 (a + 1) (low_bytes n (v / 256)) (a % 2 ^ 64) ≡ v % 256 =
    stored_other (low_bytes n (v / 256)) m1 (a + 1) (a % 2 ^ 64)
    (λ j jl q. let l = length_low n (v / 256) in let jn : j < n = rw l at jl in omega (arith, jn, q, le)) ∙ updated_same (a % 2 ^ 64) (v % 256) m in
    ap (λ (x : ℕ). x + 256 * spelled (stored m1 (a + 1) (low_bytes n (v / 256))) (a + 1) n) here
    ∙ ap (λ (x : ℕ). v % 256 + 256 * x) rest ∙ (let k : v % 256 + 256 * (v / 256) ≡ v = omega arith in k)

-- and elsewhere what was there
pub stored_elsewhere : (m : ℕ → ℕ) (bytes : List ℕ) (a n b : ℕ) →
    ((i j : ℕ) → i < n → j < length bytes → (b + i) % 2 ^ 64 ≡ (a + j) % 2 ^ 64 → ⊥) → spelled (stored m a bytes) b n ≡ spelled m b n
stored_elsewhere m bytes a n b apart =
    spelled_alike (stored m a bytes) m n b (λ i lt. stored_other bytes m a ((b + i) % 2 ^ 64) (λ j jl e. apart i j lt jl e))

neither : (a b : Bool) → (a || b) ≡ false → (a ≡ false) × (b ≡ false)
neither false b e = (refl, e)
neither true b e = cc

-- none of the bytes of an access that doesn't touch the frame is one of the frame's
pub untouched : (entry area : ℕ) (n a : ℕ) → touches_frame entry area a n ≡ false → (j : ℕ) → j < n → in_frame entry area ((a + j) % 2 ^ 64) ≡ false
untouched entry area zero a e j lt = absurd (omega (arith, lt))
untouched entry area (suc n) a e zero lt =
    let k = neither (in_frame entry area (a % 2 ^ 64)) (touches_frame entry area (a + 1) n) e in
    let z : a + 0 ≡ a = omega arith in
    ap (λ (x : ℕ). in_frame entry area (x % 2 ^ 64)) z ∙ k.0
untouched entry area (suc n) a e (suc j) lt =
    let k = neither (in_frame entry area (a % 2 ^ 64)) (touches_frame entry area (a + 1) n) e in
    let z : a + suc j ≡ (a + 1) + j = omega arith in
    ap (λ (x : ℕ). in_frame entry area (x % 2 ^ 64)) z ∙ untouched entry area n (a + 1) k.1 j (omega (arith, lt))

pub either_right : (a b : Bool) → a ≡ false → b ≡ false → (a || b) ≡ false
either_right a b e f = ap (λ (x : Bool). x || b) e ∙ f

pub not_touched : (entry area : ℕ) (n a : ℕ) → ((j : ℕ) → j < n → in_frame entry area ((a + j) % 2 ^ 64) ≡ false) → touches_frame entry area a n ≡ false
not_touched entry area zero a h = refl
not_touched entry area (suc n) a h =
    let z : a + 0 ≡ a = omega arith in
    let next : (j : ℕ) → a + suc j ≡ (a + 1) + j = λ j. omega arith in
    either_right (in_frame entry area (a % 2 ^ 64)) (touches_frame entry area (a + 1) n)
    (subst (λ (x : ℕ). in_frame entry area (x % 2 ^ 64) ≡ false) z (h 0 (omega arith)))
    (not_touched entry area n (a + 1) (λ j lt. subst (λ (x : ℕ). in_frame entry area (x % 2 ^ 64) ≡ false) (next j) (h (suc j) (omega (arith, lt)))))

and_true : (a b : Bool) → a ≡ true → b ≡ true → (a && b) ≡ true
and_true a b e f = ap (λ (x : Bool). x && b) e ∙ f

and_false : (a b : Bool) → b ≡ false → (a && b) ≡ false
and_false true b e = e
and_false false b e = refl

first_false : (a b : Bool) → a ≡ false → (a && b) ≡ false
first_false a b e = ap (λ (x : Bool). x && b) e

-- a byte of the frame, and one of a stack object
pub is_in_frame : (entry area a : ℕ) → entry ≤ a + FRAME_ROOM → a + area < entry → in_frame entry area a ≡ true
is_in_frame entry area a lo hi = and_true (nat_le entry (a + FRAME_ROOM)) (nat_lt (a + area) entry) (le-leb entry (a + FRAME_ROOM) lo) (lt-ltb (a + area)
    entry hi)

pub is_above : (entry area a : ℕ) → entry ≤ a + area → in_frame entry area a ≡ false
is_above entry area a lo = and_false (nat_le entry (a + FRAME_ROOM)) (nat_lt (a + area) entry) (le-ltb (a + area) entry lo)

or_true : (a b : Bool) → a ≡ true → (a || b) ≡ true
or_true a b e = ap (λ (x : Bool). x || b) e

pub is_below : (entry area a : ℕ) → a + FRAME_ROOM < entry → in_frame entry area a ≡ false
is_below entry area a lt = first_false (nat_le entry (a + FRAME_ROOM)) (nat_lt (a + area) entry) (lt-leb entry (a + FRAME_ROOM) lt)

-- less than 2 ^ 11 bytes above the start of the area, which isn't above the stack pointer at entry, no byte is the frame's: it is above the frame, or, where
-- the sum is above 2 ^ 64, far below it
pub beyond_area : (entry area at offset j : ℕ) → FRAME_ROOM ≤ entry → entry < 2 ^ 64 → area ≤ 2032 → at + offset + j < 2032 →
    in_frame entry area ((((entry + (2 ^ 64 - area) + at) % 2 ^ 64 + offset) % 2 ^ 64 + j) % 2 ^ 64) ≡ false
beyond_area entry area at offset j room top small near =
    elim (cases_lt (entry + (at + offset + j)) (2 ^ 64 + area)) [
      | inl lt ↦ is_above entry area _ (let k : entry ≤ (((entry + (2 ^ 64 - area) + at) % 2 ^ 64 + offset) % 2 ^ 64 + j) % 2 ^ 64 + area =
          omega (arith, room, top, small, near, lt) in k)
      | inr le ↦ is_below entry area _ (let k : (((entry + (2 ^ 64 - area) + at) % 2 ^ 64 + offset) % 2 ^ 64 + j) % 2 ^ 64 + 2048 < entry =
          omega (arith, room, top, small, near, le) in k)
    ]

pub touched : (entry area n a : ℕ) → in_frame entry area (a % 2 ^ 64) ≡ true → touches_frame entry area a (suc n) ≡ true
touched entry area n a e = or_true (in_frame entry area (a % 2 ^ 64)) (touches_frame entry area (a + 1) n) e
