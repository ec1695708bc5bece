-- Addresses that are known when a program is linked, and their halves, as instructions have them.
use Rattle.std.specs.Prelude.{ℕ, ℤ, pos, ◌*ℤ◌, ◌-ℤ◌, ◌+◌, ◌*◌, ◌/◌, ◌%◌, ◌^◌, Bool, false, cond, nat_eq, nat_lt, List, [], ◌∷◌, codes}
use Rattle.std.specs.Fmt.{decimal}
use Rattle.std.specs.Str.{bytes_eq}
use Rattle.rv64_instr.specs.declared.symbol.Symbol.{Symbol}
use Rattle.rv64_instr.specs.declared.symbol.Symbol.TheVariants.{Global, Constant}
use Rattle.rv64_instr.specs.declared.symbol.LinkedAddress.{LinkedAddress}
use Rattle.rv64_instr.specs.declared.symbol.Half.{Half}
use Rattle.rv64_instr.specs.declared.symbol.Half.TheVariants.{Upper, Lower}
use Rattle.rv64_instr.specs.Arithmetic.{word, extend32}

-- the address of a symbol plus a number of bytes, modulo 2^64, where this gives each symbol's address
unfoldable pub linked_address : (symbols : Symbol → ℕ) → LinkedAddress → ℕ
linked_address symbols y = (symbols y.symbol + word y.addend) % 2 ^ 64

-- the immediate that stands in an instruction's word for a half of an address: 20 bits, with 1 added where the lower half is negative, or the
-- low 12 bits as a signed number (RISC-V ELF psABI, "Absolute Addresses": R_RISCV_HI20, R_RISCV_LO12_I, R_RISCV_LO12_S)
unfoldable pub half_immediate : Half → (address : ℕ) → ℤ
half_immediate Upper v = pos ((v + 2048) / 4096 % 2 ^ 20)
half_immediate Lower v = cond (nat_lt (v % 4096) 2048) (pos (v % 4096)) (pos (v % 4096) -ℤ pos 4096)

-- the value of such an immediate: that to which `LUI` sets a register, or the sign-extended number
abbrev pub immediate_value : Half → ℤ → ℕ
immediate_value Upper i = extend32 (word (i *ℤ pos 4096))
immediate_value Lower i = word i

-- the immediate of a half of an address that is known when the program is linked, and its value
abbrev pub linked_immediate : (symbols : Symbol → ℕ) → Half → LinkedAddress → ℤ
linked_immediate symbols half y = half_immediate half (linked_address symbols y)

unfoldable pub linked_value : (symbols : Symbol → ℕ) → Half → LinkedAddress → ℕ
linked_value symbols half y = immediate_value half (linked_immediate symbols half y)

-- the two are one symbol
abbrev pub is_same_symbol : Symbol → Symbol → Bool
is_same_symbol (Global a) (Global b) = bytes_eq a b
is_same_symbol (Constant a) (Constant b) = nat_eq a b
is_same_symbol _ _ = false

-- a fold of bytes, modulo 2^32
abbrev pub folded : (start : ℕ) → List ℕ → ℕ
folded start [] = start
folded start (b ∷ bs) = folded ((31 * start + b) % 2 ^ 32) bs

-- the fold of a symbol's name: constant N of a pool is named `constN`
abbrev pub folded_name : Symbol → ℕ
folded_name (Global name) = folded 0 name
folded_name (Constant n) = folded (folded 0 (codes "const")) (decimal n)

-- the address that a symbol has by its name: one of 4,096, at a distance of 64 KiB, from 2^28 on
abbrev pub default_address : Symbol → ℕ
default_address y = 268435456 + 65536 * (folded_name y % 4096)

-- the address that pairs of a symbol and its address give a symbol: that of its first pair, and its default address if it has none
abbrev pub addresses_in : List (Symbol × ℕ) → Symbol → ℕ
addresses_in [] y = default_address y
addresses_in (p ∷ rest) y = cond (is_same_symbol p.0 y) p.1 (addresses_in rest y)
