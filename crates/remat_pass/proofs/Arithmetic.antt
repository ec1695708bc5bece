-- Numbers of constant definitions, as signed numbers and as upper parts.
use Rattle.std.proofs.Common.{◌≡◌, inl, inr, ℕ, suc, ◌-◌, ◌*◌, ◌^◌, ◌<◌, ◌≤◌, ℤ, pos, negsuc, true, refl, ap, ◌∙◌, lt-ltb, le-ltb, arith}
use Rattle.std.specs.Prelude.{◌*ℤ◌}
use Rattle.std.proofs.lemmas.Bool.{cases_lt}
use Rattle.std.proofs.lemmas.Bool.Decides.{nat_tests}
use Rattle.rv64_instr.specs.Arithmetic.{word, signed, extend32}
use Rattle.rv64_instr.specs.Form.{has_12_bits}
use Rattle.rv64_instr.proofs.SignExtension.{extend_low, extend_high}
use Rattle.remat_pass.specs.Remat.{upper_part}

pub word_signed : (n : ℕ) → n < 2 ^ 64 → word (signed n) ≡ n
word_signed n lt =
    elim (cases_lt n (2 ^ 63)) as (λ z. word (signed n) ≡ n) [
      | inl h ↦ rw (lt-ltb n (2 ^ 63) h) (omega (arith, h, lt))
      | inr h ↦ rw (le-ltb n (2 ^ 63) h) (omega (arith, h, lt))
    ]

signed_low : (n : ℕ) → n < 2 ^ 63 → signed n ≡ pos n
signed_low n h = rw (lt-ltb n (2 ^ 63) h) refl

signed_high : (n : ℕ) → 2 ^ 63 ≤ n → signed n ≡ negsuc (2 ^ 64 - suc n)
signed_high n h = rw (le-ltb n (2 ^ 63) h) refl

pub signed_word : (z : ℤ) → has_12_bits z ≡ true → signed (word z) ≡ z
signed_word (pos n) h =
    let small : n ≤ 2047 = grind (arith, nat_tests) in
    let e : word (pos n) ≡ n = omega (arith, small) in
    signed_low (word (pos n)) (omega (arith, small)) ∙ ap pos e
signed_word (negsuc n) h =
    let small : n ≤ 2047 = grind (arith, nat_tests) in
    let e : 2 ^ 64 - suc (word (negsuc n)) ≡ n = omega (arith, small) in
    signed_high (word (negsuc n)) (omega (arith, small)) ∙ ap negsuc e

-- the upper part of what an upper part sets is that upper part
pub upper_again : (m : ℕ) → m ≤ 1048575 → upper_part (extend32 (word (pos m *ℤ pos 4096))) ≡ m
upper_again m le =
    let e : word (pos m *ℤ pos 4096) ≡ m * 4096 = omega (arith, le) in
    ap (λ (k : ℕ). upper_part (extend32 k)) e ∙ (elim (cases_lt (m * 4096) (2 ^ 31)) as (λ z. upper_part (extend32 (m * 4096)) ≡ m) [
      | inl h ↦ (ap upper_part (extend_low (m * 4096) h) ∙ omega (arith, le))
      | inr h ↦ (ap upper_part (extend_high (m * 4096) h (omega (arith, le))) ∙ omega (arith, le))
    ])
