-- Machine operations and their words.
use Rattle.std.specs.Prelude.{ℕ, ◌%◌, ℤ, pos, negsuc, Bool, ◌&&◌, nat_lt, nat_eq}
use Rattle.rv64_instr.specs.Arithmetic.{word}
use Rattle.rv64_instr.specs.Form.{is_within}
use Rattle.rv64_word.specs.declared.format.EncodingField.{EncodingField}
use Rattle.rv64_word.specs.declared.format.EncodingField.TheVariants.{Opcode, Rd, Funct3, Rs1, Rs2, Funct7, Imm}
use Rattle.rv64_word.specs.declared.format.Format.{Format}
use Rattle.rv64_word.specs.declared.format.Format.TheVariants.{Register, Immediate, Shift, WordShift, Store, Branch, Upper, Jump}
use Rattle.rv64_word.specs.declared.machine_op.MachineOp.{MachineOp}
use Rattle.rv64_word.specs.declared.word_op.WordOp.{WordOp}
use Rattle.rv64_word.specs.Format.{slices_of, spelled, shown, number_of}
use Rattle.rv64_word.specs.Operation.{encoding_of}

-- the value of a field, the immediate in two's complement
abbrev pub value_of : MachineOp → EncodingField → ℕ
value_of m Opcode = (encoding_of m.op).opcode
value_of m Rd = m.rd
value_of m Funct3 = (encoding_of m.op).funct3
value_of m Rs1 = m.rs1
value_of m Rs2 = m.rs2
value_of m Funct7 = (encoding_of m.op).funct7
value_of m Imm = word m.imm

-- the word of a machine operation
unfoldable pub word_of : MachineOp → ℕ
word_of m = spelled (slices_of (encoding_of m.op).format) (value_of m)

-- the operation with the fields that a word has in the operation's format
abbrev pub read_as : WordOp → ℕ → MachineOp
read_as op word =
    let format = (encoding_of op).format in
    let slices = slices_of format in
    record { op = op; rd = shown slices Rd word; rs1 = shown slices Rs1 word; rs2 = shown slices Rs2 word; imm = number_of format (shown slices Imm word) }

-- the number of a physical register
abbrev pub is_register : ℕ → Bool
is_register r = nat_lt r 32

-- an even number, as the offsets of branches are
abbrev pub is_even : ℤ → Bool
is_even i = nat_eq (word i % 2) 0

-- the fields fit a format: registers below 32, the immediate in its range, and 0 in each field that the format lacks
abbrev pub fits : Format → MachineOp → Bool
fits Register m = is_register m.rd && is_register m.rs1 && is_register m.rs2 && is_within (pos 0) (pos 0) m.imm
fits Immediate m = is_register m.rd && is_register m.rs1 && nat_eq m.rs2 0 && is_within (negsuc 2047) (pos 2047) m.imm
fits Shift m = is_register m.rd && is_register m.rs1 && nat_eq m.rs2 0 && is_within (pos 0) (pos 63) m.imm
fits WordShift m = is_register m.rd && is_register m.rs1 && nat_eq m.rs2 0 && is_within (pos 0) (pos 31) m.imm
fits Store m = nat_eq m.rd 0 && is_register m.rs1 && is_register m.rs2 && is_within (negsuc 2047) (pos 2047) m.imm
fits Branch m = nat_eq m.rd 0 && is_register m.rs1 && is_register m.rs2 && is_within (negsuc 4095) (pos 4094) m.imm && is_even m.imm
fits Upper m = is_register m.rd && nat_eq m.rs1 0 && nat_eq m.rs2 0 && is_within (pos 0) (pos 1048575) m.imm
fits Jump m = is_register m.rd && nat_eq m.rs1 0 && nat_eq m.rs2 0 && is_within (negsuc 1048575) (pos 1048574) m.imm && is_even m.imm

-- the fields fit the format of the operation
abbrev pub is_encodable : MachineOp → Bool
is_encodable m = fits (encoding_of m.op).format m
