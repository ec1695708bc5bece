-- The kinds of relocations by their numbers.
use Rattle.std.specs.Prelude.{ℕ, Option, Some, None, if◌then◌else◌, ◌==◌}
use Rattle.elf_object.specs.Standard.{R_RISCV_32, R_RISCV_64, R_RISCV_CALL_PLT}
use Rattle.elf_relocation.specs.declared.kind.RelocationKind.{RelocationKind}
use Rattle.elf_relocation.specs.declared.kind.RelocationKind.TheVariants.{Address32, Address64, Call, Upper, Lower, StoreLower}
use Rattle.elf_relocation.specs.Standard.{R_RISCV_HI20, R_RISCV_LO12_I, R_RISCV_LO12_S}

-- the number of a kind
abbrev pub number_of : RelocationKind → ℕ
number_of Address32 = R_RISCV_32
number_of Address64 = R_RISCV_64
number_of Call = R_RISCV_CALL_PLT
number_of Upper = R_RISCV_HI20
number_of Lower = R_RISCV_LO12_I
number_of StoreLower = R_RISCV_LO12_S

-- the kind of a number, if it is one of these
abbrev pub kind_of : ℕ → Option RelocationKind
kind_of n =
    if n == R_RISCV_32 then Some Address32 else (
    if n == R_RISCV_64 then Some Address64 else (
    if n == R_RISCV_CALL_PLT then Some Call else (
    if n == R_RISCV_HI20 then Some Upper else (
    if n == R_RISCV_LO12_I then Some Lower else (
    if n == R_RISCV_LO12_S then Some StoreLower else (
    None))))))
