-- Numbers of 32 bits, sign-extended to 64.
use Rattle.std.proofs.Common.{◌≡◌, ℕ, ◌+◌, ◌-◌, ◌%◌, ◌^◌, ◌<◌, ◌≤◌, lt-ltb, le-ltb, arith}
use Rattle.rv64_instr.specs.Arithmetic.{extend32}

pub extend_low : (k : ℕ) → k < 2 ^ 31 → extend32 k ≡ k
extend_low k h =
    let e : k % 2 ^ 32 ≡ k = omega (arith, h) in
    rw (e, lt-ltb k (2 ^ 31) h) (omega (arith, h))

pub extend_high : (k : ℕ) → 2 ^ 31 ≤ k → k < 2 ^ 32 → extend32 k ≡ 2 ^ 64 - 2 ^ 32 + k
extend_high k h lt =
    let e : k % 2 ^ 32 ≡ k = omega (arith, lt) in
    rw (e, le-ltb k (2 ^ 31) h) (omega (arith, h, lt))
