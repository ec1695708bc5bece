-- The numbers of relocations of code by absolute addresses (RISC-V ELF psABI, "Relocations"), under their names there.
use Rattle.std.specs.Prelude.{ℕ}

-- the upper half of an address, in the immediate of the U format
abbrev pub R_RISCV_HI20 : ℕ
R_RISCV_HI20 = 26

-- the lower half, in the immediate of the I format
abbrev pub R_RISCV_LO12_I : ℕ
R_RISCV_LO12_I = 27

-- the lower half, in the immediate of the S format
abbrev pub R_RISCV_LO12_S : ℕ
R_RISCV_LO12_S = 28
