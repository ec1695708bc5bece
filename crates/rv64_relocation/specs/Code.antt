-- The relocations of instructions that have a half of an address (RISC-V ELF psABI, "Relocations": R_RISCV_HI20, R_RISCV_LO12_I, R_RISCV_LO12_S).
use Rattle.std.specs.Prelude.{Option, Some, None}
use Rattle.rv64_instr.specs.declared.symbol.Half.{Half}
use Rattle.rv64_instr.specs.declared.symbol.Half.TheVariants as half
use Rattle.rv64_instr.specs.declared.symbol.LinkedAddress.{LinkedAddress}
use Rattle.rv64_instr.specs.LocationEffects.{part_named}
use Rattle.rv64_instr.specs.Row.{Row}
use Rattle.rv64_instr.specs.View.{Class, class_of}
use Rattle.rv64_instr.specs.View as class
use Rattle.elf_relocation.specs.declared.kind.RelocationKind.{RelocationKind}
use Rattle.elf_relocation.specs.declared.kind.RelocationKind.TheVariants.{Upper, Lower, StoreLower}

-- the kind of the relocation of a half of an address in code of a class: a store has its number in the S format, other code in the I format
abbrev pub half_kind : Half → Class → RelocationKind
half_kind half.Upper c = Upper
half_kind half.Lower class.Store = StoreLower
half_kind half.Lower class.Branch = Lower
half_kind half.Lower class.Call = Lower
half_kind half.Lower class.Return = Lower
half_kind half.Lower class.Plain = Lower
half_kind half.Lower class.Odd = Lower

-- the kind for the half that is named, if one is
abbrev pub kind_by : Class → Option (Half × LinkedAddress) → Option RelocationKind
kind_by c None = None
kind_by c (Some p) = Some (half_kind p.0 c)

-- the kind of the relocation of code of a row: none if it names no half of an address
abbrev pub relocation_kind : Row → Option RelocationKind
relocation_kind row = kind_by (class_of row) (part_named row)
