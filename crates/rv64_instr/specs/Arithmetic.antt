-- The arithmetic of RV64I's operations on numbers below 2^64 (RISC-V Unprivileged ISA, RV64I).
use Rattle.std.specs.Prelude.{ℕ, ℤ, pos, negsuc, ◌+◌, ◌-◌, ◌*◌, ◌/◌, ◌%◌, ◌^◌, Bool, not, nat_eq, nat_lt, int_lt, bit_and, bit_or, bit_xor}
use Rattle.std.specs.Int.{w8, w16, w32, w64, cast_unsigned, cast_signed, int_shr, from_bool}
use Rattle.rv64_instr.specs.declared.op.RegisterOp.{RegisterOp}
use Rattle.rv64_instr.specs.declared.op.BranchOp.{BranchOp}
use Rattle.rv64_instr.specs.declared.op.LoadOp.{LoadOp}
use Rattle.rv64_instr.specs.declared.op.StoreOp.{StoreOp}
use Rattle.rv64_instr.specs.declared.op.RegisterOp.TheVariants.{Add, Sub, Sll, Slt, Sltu, Xor, Srl, Sra, Or, And, Addw, Subw, Sllw, Srlw, Sraw}
use Rattle.rv64_instr.specs.declared.op.BranchOp.TheVariants.{Beq, Bne, Blt, Bge, Bltu, Bgeu}
use Rattle.rv64_instr.specs.declared.op.LoadOp.TheVariants.{Lb, Lh, Lw, Ld, Lbu, Lhu, Lwu}
use Rattle.rv64_instr.specs.declared.op.StoreOp.TheVariants.{Sb, Sh, Sw, Sd}

-- a signed number modulo 2^64
abbrev pub word : ℤ → ℕ
word (pos n) = n % 2 ^ 64
word (negsuc n) = 2 ^ 64 - 1 - n % 2 ^ 64

-- the 64 bits of a signed number of 64 bits
abbrev pub unsigned : ℤ → ℕ
unsigned z = cast_unsigned w64 z

-- the two's complement number of 64 bits
abbrev pub signed : ℕ → ℤ
signed n = cast_signed w64 n

-- the low 32 bits, sign-extended to 64
abbrev pub extend32 : ℕ → ℕ
extend32 n = unsigned (cast_signed w32 (n % 2 ^ 32))

-- the result of an operation on two registers. Shifts use the low 6 bits of the second, those of words the low
-- 5
unfoldable pub computed : RegisterOp → ℕ → ℕ → ℕ
computed Add a b = (a + b) % 2 ^ 64
computed Sub a b = (a + (2 ^ 64 - b)) % 2 ^ 64
computed Sll a b = (a * 2 ^ (b % 64)) % 2 ^ 64
computed Slt a b = from_bool (int_lt (signed a) (signed b))
computed Sltu a b = from_bool (nat_lt a b)
computed Xor a b = bit_xor a b
computed Srl a b = a / 2 ^ (b % 64)
computed Sra a b = unsigned (int_shr (signed a) (b % 64))
computed Or a b = bit_or a b
computed And a b = bit_and a b
computed Addw a b = extend32 (a + b)
computed Subw a b = extend32 (a + (2 ^ 64 - b))
computed Sllw a b = extend32 (a * 2 ^ (b % 32))
computed Srlw a b = extend32 ((a % 2 ^ 32) / 2 ^ (b % 32))
computed Sraw a b = unsigned (int_shr (cast_signed w32 (a % 2 ^ 32)) (b % 32))

-- whether a conditional branch is taken
unfoldable pub taken : BranchOp → ℕ → ℕ → Bool
taken Beq a b = nat_eq a b
taken Bne a b = not (nat_eq a b)
taken Blt a b = int_lt (signed a) (signed b)
taken Bge a b = not (int_lt (signed a) (signed b))
taken Bltu a b = nat_lt a b
taken Bgeu a b = not (nat_lt a b)

-- how many bytes a load moves
abbrev pub load_width : LoadOp → ℕ
load_width Lb = 1
load_width Lh = 2
load_width Lw = 4
load_width Ld = 8
load_width Lbu = 1
load_width Lhu = 2
load_width Lwu = 4

-- how many bytes a store moves
abbrev pub store_width : StoreOp → ℕ
store_width Sb = 1
store_width Sh = 2
store_width Sw = 4
store_width Sd = 8

-- the result of a load from the number of its bytes: sign-extended, except for the unsigned loads
unfoldable pub extended : LoadOp → ℕ → ℕ
extended Lb n = unsigned (cast_signed w8 n)
extended Lh n = unsigned (cast_signed w16 n)
extended Lw n = unsigned (cast_signed w32 n)
extended Ld n = n
extended Lbu n = n
extended Lhu n = n
extended Lwu n = n
