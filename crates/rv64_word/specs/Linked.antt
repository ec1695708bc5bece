-- The word of an instruction as it is when the program is linked: the immediate that stands for a half of an address is in its place (RISC-V ELF psABI,
-- "Relocations": R_RISCV_HI20, R_RISCV_LO12_I, R_RISCV_LO12_S).
use Rattle.std.specs.Prelude.{ℕ, ℤ, pos, Option, Some, None}
use Rattle.rv64_instr.specs.declared.symbol.Symbol.{Symbol}
use Rattle.rv64_instr.specs.declared.symbol.LinkedAddress.{LinkedAddress}
use Rattle.rv64_instr.specs.declared.symbol.Half.{Half}
use Rattle.rv64_instr.specs.declared.symbol.Half.TheVariants.{Upper, Lower}
use Rattle.rv64_instr.specs.Arithmetic.{word}
use Rattle.rv64_instr.specs.Linked.{linked_immediate}
use Rattle.rv64_instr.specs.LocationEffects.{part_named}
use Rattle.rv64_instr.specs.Row.{Row}
use Rattle.rv64_instr.specs.View.{Class, Branch, Call, Return, Store, Plain, Odd, class_of}
use Rattle.rv64_word.specs.declared.format.EncodingField.{EncodingField}
use Rattle.rv64_word.specs.declared.format.EncodingField.TheVariants.{Opcode, Rd, Funct3, Rs1, Rs2, Funct7, Imm}
use Rattle.rv64_word.specs.declared.format.Format.{Format}
use Rattle.rv64_word.specs.declared.format.Format.TheVariants as format
use Rattle.rv64_word.specs.Format.{slices_of, spelled, shown}

-- the fields of a word of a format, but with another immediate
abbrev pub refilled : Format → (immediate word : ℕ) → EncodingField → ℕ
refilled f n w Imm = n
refilled f n w Opcode = shown (slices_of f) Opcode w
refilled f n w Rd = shown (slices_of f) Rd w
refilled f n w Funct3 = shown (slices_of f) Funct3 w
refilled f n w Rs1 = shown (slices_of f) Rs1 w
refilled f n w Rs2 = shown (slices_of f) Rs2 w
refilled f n w Funct7 = shown (slices_of f) Funct7 w

-- a word of a format with another immediate in it
unfoldable pub with_immediate : Format → ℤ → (word : ℕ) → ℕ
with_immediate f i w = spelled (slices_of f) (refilled f (word i) w)

-- the format of code of a class that has a half of an address: U for the upper half, S for the lower one of a store, and I for any other lower one
abbrev pub part_format : Half → Class → Format
part_format Upper class = format.Upper
part_format Lower Store = format.Store
part_format Lower Plain = format.Immediate
part_format Lower Branch = format.Immediate
part_format Lower Call = format.Immediate
part_format Lower Return = format.Immediate
part_format Lower Odd = format.Immediate

-- the immediate of a half of an address, and 0 where there is none
abbrev pub immediate_by : (symbols : Symbol → ℕ) → Option (Half × LinkedAddress) → ℤ
immediate_by symbols None = pos 0
immediate_by symbols (Some p) = linked_immediate symbols p.0 p.1

-- the immediate of the half of an address that code of this row names
abbrev pub immediate_of : (symbols : Symbol → ℕ) → Row → ℤ
immediate_of symbols row = immediate_by symbols (part_named row)

-- a word of code of this class, with this half of an address
abbrev pub linked_by : (symbols : Symbol → ℕ) → Class → Option (Half × LinkedAddress) → (word : ℕ) → ℕ
linked_by symbols class None w = w
linked_by symbols class (Some p) w = with_immediate (part_format p.0 class) (linked_immediate symbols p.0 p.1) w

-- the word of code of this row when the program is linked, where this gives each symbol's address: itself if the row names no half of an address
abbrev pub linked_word : (symbols : Symbol → ℕ) → Row → (word : ℕ) → ℕ
linked_word symbols row w = linked_by symbols (class_of row) (part_named row) w
