-- Registers, slots and values stay below 2^64, and memory keeps bytes.
use Rattle.std.proofs.Common.{◌≡◌, ℕ, ℤ, pos, negsuc, suc, ◌+◌, ◌-◌, ◌*◌, ◌/◌, ◌%◌, ◌^◌, ◌<◌, Bool, true, false, nat_lt, int_lt, refl, ◌∙◌, inl, inr, w8, w16}
use Rattle.std.proofs.Common.{w32, lt_of_le_of_lt, lt-ltb, le-ltb, div-le_self, arith}
use Rattle.std.specs.Int.{cast_signed, int_shr, from_bool}
use Rattle.std.proofs.lemmas.Bool.{cases_lt}
use Rattle.std.proofs.lemmas.Nat.{or_lt, xor_lt, and_le_l}
use Rattle.mir_func.specs.rv64_instr.declared.op.RegisterOp.{RegisterOp}
use Rattle.mir_func.specs.rv64_instr.declared.op.LoadOp.{LoadOp}
use Rattle.mir_func.specs.rv64_instr.declared.op.LoadOp.TheVariants.{Lb, Lh, Lw}
use Rattle.mir_func.specs.rv64_instr.declared.op.RegisterOp.TheVariants.{Add, Sub, Sll, Slt, Sltu, Xor, Srl, Sra, Or, And, Addw, Subw, Sllw, Srlw, Sraw}
use Rattle.mir_func.specs.rv64_instr.declared.symbol.Symbol.{Symbol}
use Rattle.mir_func.specs.rv64_instr.declared.symbol.LinkedAddress.{LinkedAddress}
use Rattle.mir_func.specs.rv64_instr.declared.symbol.Half.{Half}
use Rattle.mir_func.specs.rv64_instr.declared.symbol.Half.TheVariants.{Upper, Lower}
use Rattle.mir_func.specs.rv64_instr.Linked.{linked_value}
use Rattle.mir_func.specs.rv64_instr.Arithmetic.{word, unsigned, signed, extend32, computed, extended}

-- 64 bits
abbrev pub IsWord : ℕ → Type 0
IsWord n = n < 2 ^ 64

pub reduced : (n : ℕ) → n % 2 ^ 64 < 2 ^ 64
reduced n = omega arith

pub word_in_range : (z : ℤ) → IsWord (word z)
word_in_range (pos n) = reduced n
word_in_range (negsuc n) = let h = reduced n in omega (arith, h)

-- a signed number as 64 bits
unsigned_in_range : (z : ℤ) → ((n : ℕ) → z ≡ pos n → IsWord n) → IsWord (unsigned z)
unsigned_in_range (pos n) h = h n refl
unsigned_in_range (negsuc n) h = omega arith

signed_64 : (n : ℕ) → IsWord n → (m : ℕ) → signed n ≡ pos m → IsWord m
signed_64 n lt m e =
    elim (cases_lt n (2 ^ 63)) as (λ z. IsWord m) [
      | inl h ↦ (let k : pos n ≡ pos m = (rw (lt-ltb n (2 ^ 63) h) refl) ∙ e in let w : n ≡ m = cc in omega (arith, w, lt))
      | inr h ↦ (let k : negsuc (2 ^ 64 - suc n) ≡ pos m = (rw (le-ltb n (2 ^ 63) h) refl) ∙ e in cc)
    ]

signed_32 : (n : ℕ) → IsWord (unsigned (cast_signed w32 n))
signed_32 n =
    elim (cases_lt n (2 ^ 31)) as (λ z. IsWord (unsigned (cast_signed w32 n))) [
      | inl h ↦ rw (lt-ltb n (2 ^ 31) h) (omega (arith, h))
      | inr h ↦ rw (le-ltb n (2 ^ 31) h) (omega arith)
    ]

signed_16 : (n : ℕ) → IsWord (unsigned (cast_signed w16 n))
signed_16 n =
    elim (cases_lt n (2 ^ 15)) as (λ z. IsWord (unsigned (cast_signed w16 n))) [
      | inl h ↦ rw (lt-ltb n (2 ^ 15) h) (omega (arith, h))
      | inr h ↦ rw (le-ltb n (2 ^ 15) h) (omega arith)
    ]

signed_8 : (n : ℕ) → IsWord (unsigned (cast_signed w8 n))
signed_8 n =
    elim (cases_lt n (2 ^ 7)) as (λ z. IsWord (unsigned (cast_signed w8 n))) [
      | inl h ↦ rw (lt-ltb n (2 ^ 7) h) (omega (arith, h))
      | inr h ↦ rw (le-ltb n (2 ^ 7) h) (omega arith)
    ]

quotient : (n k : ℕ) → IsWord n → IsWord (n / k)
quotient n k h = lt_of_le_of_lt (div-le_self n k) h

shifted : (z : ℤ) (k : ℕ) → ((n : ℕ) → z ≡ pos n → IsWord n) → IsWord (unsigned (int_shr z k))
shifted (pos n) k h = quotient n (2 ^ k) (h n refl)
shifted (negsuc n) k h = omega arith

signed_32_64 : (n : ℕ) → n < 2 ^ 32 → (m : ℕ) → cast_signed w32 n ≡ pos m → IsWord m
signed_32_64 n lt m e =
    elim (cases_lt n (2 ^ 31)) as (λ z. IsWord m) [
      | inl h ↦ (let k : pos n ≡ pos m = (rw (lt-ltb n (2 ^ 31) h) refl) ∙ e in let w : n ≡ m = cc in omega (arith, w, lt))
      | inr h ↦ (let k : negsuc (2 ^ 32 - suc n) ≡ pos m = (rw (le-ltb n (2 ^ 31) h) refl) ∙ e in cc)
    ]

truth : (b : Bool) → IsWord (from_bool b)
truth true = omega arith
truth false = omega arith

pub extend32_in_range : (n : ℕ) → IsWord (extend32 n)
extend32_in_range n = signed_32 (n % 2 ^ 32)

pub linked_in_range : (symbols : Symbol → ℕ) (half : Half) (y : LinkedAddress) → IsWord (linked_value symbols half y)
unfolding linked_value
linked_in_range symbols Upper y = extend32_in_range _
linked_in_range symbols Lower y = word_in_range _

pub computed_in_range : (op : RegisterOp) (a b : ℕ) → IsWord a → IsWord b → IsWord (computed op a b)
unfolding computed
computed_in_range Add a b x y = reduced (a + b)
computed_in_range Sub a b x y = reduced (a + (2 ^ 64 - b))
computed_in_range Sll a b x y = reduced (a * 2 ^ (b % 64))
computed_in_range Slt a b x y = truth (int_lt (signed a) (signed b))
computed_in_range Sltu a b x y = truth (nat_lt a b)
computed_in_range Xor a b x y = xor_lt 64 a b x y
computed_in_range Srl a b x y = quotient a (2 ^ (b % 64)) x
computed_in_range Sra a b x y = shifted (signed a) (b % 64) (signed_64 a x)
computed_in_range Or a b x y = or_lt 64 a b x y
computed_in_range And a b x y = lt_of_le_of_lt (and_le_l a b) x
computed_in_range Addw a b x y = extend32_in_range (a + b)
computed_in_range Subw a b x y = extend32_in_range (a + (2 ^ 64 - b))
computed_in_range Sllw a b x y = extend32_in_range (a * 2 ^ (b % 32))
computed_in_range Srlw a b x y = extend32_in_range ((a % 2 ^ 32) / 2 ^ (b % 32))
computed_in_range Sraw a b x y = shifted (cast_signed w32 (a % 2 ^ 32)) (b % 32) (signed_32_64 (a % 2 ^ 32) (omega arith))

pub extended_in_range : (op : LoadOp) (n : ℕ) → IsWord n → IsWord (extended op n)
unfolding extended
extended_in_range Lb n h = signed_8 n
extended_in_range Lh n h = signed_16 n
extended_in_range Lw n h = signed_32 n
extended_in_range _ n h = h
