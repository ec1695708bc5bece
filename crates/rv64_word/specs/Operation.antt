-- The encodings of operations (RISC-V Unprivileged ISA, "RV32/64G Instruction Set Listings").
use Rattle.std.specs.Prelude.{ℕ}
use Rattle.rv64_instr.specs.declared.op.RegisterOp.{RegisterOp}
use Rattle.rv64_instr.specs.declared.op.RegisterOp.TheVariants.{Add, Sub, Sll, Slt, Sltu, Xor, Srl, Sra, Or, And, Addw, Subw, Sllw, Srlw, Sraw}
use Rattle.rv64_instr.specs.declared.op.ImmediateOp.{ImmediateOp}
use Rattle.rv64_instr.specs.declared.op.ImmediateOp.TheVariants.{Addi, Slti, Sltiu, Xori, Ori, Andi, Slli, Srli, Srai, Addiw, Slliw, Srliw, Sraiw}
use Rattle.rv64_instr.specs.declared.op.BranchOp.{BranchOp}
use Rattle.rv64_instr.specs.declared.op.BranchOp.TheVariants.{Beq, Bne, Blt, Bge, Bltu, Bgeu}
use Rattle.rv64_instr.specs.declared.op.LoadOp.{LoadOp}
use Rattle.rv64_instr.specs.declared.op.LoadOp.TheVariants.{Lb, Lh, Lw, Ld, Lbu, Lhu, Lwu}
use Rattle.rv64_instr.specs.declared.op.StoreOp.{StoreOp}
use Rattle.rv64_instr.specs.declared.op.StoreOp.TheVariants.{Sb, Sh, Sw, Sd}
use Rattle.rv64_word.specs.declared.format.Format.{Format}
use Rattle.rv64_word.specs.declared.format.Format.TheVariants.{Register, Immediate, Shift, WordShift, Store, Branch, Upper, Jump}
use Rattle.rv64_word.specs.declared.word_op.Encoding.{Encoding}
use Rattle.rv64_word.specs.declared.word_op.WordOp.{WordOp}
use Rattle.rv64_word.specs.declared.word_op.WordOp.TheVariants as op

-- a row of the listing: a format, opcode, funct3 and funct7. The last two are 0 if the format lacks them
abbrev pub listed : Format → (opcode funct3 funct7 : ℕ) → Encoding
listed format opcode funct3 funct7 = record { format = format; opcode = opcode; funct3 = funct3; funct7 = funct7 }

-- the rows of operations on two registers
abbrev pub register_encoding : RegisterOp → Encoding
register_encoding Add = listed Register 0x33 0 0
register_encoding Sub = listed Register 0x33 0 32
register_encoding Sll = listed Register 0x33 1 0
register_encoding Slt = listed Register 0x33 2 0
register_encoding Sltu = listed Register 0x33 3 0
register_encoding Xor = listed Register 0x33 4 0
register_encoding Srl = listed Register 0x33 5 0
register_encoding Sra = listed Register 0x33 5 32
register_encoding Or = listed Register 0x33 6 0
register_encoding And = listed Register 0x33 7 0
register_encoding Addw = listed Register 0x3b 0 0
register_encoding Subw = listed Register 0x3b 0 32
register_encoding Sllw = listed Register 0x3b 1 0
register_encoding Srlw = listed Register 0x3b 5 0
register_encoding Sraw = listed Register 0x3b 5 32

-- the rows of operations on a register and a number
abbrev pub immediate_encoding : ImmediateOp → Encoding
immediate_encoding Addi = listed Immediate 0x13 0 0
immediate_encoding Slti = listed Immediate 0x13 2 0
immediate_encoding Sltiu = listed Immediate 0x13 3 0
immediate_encoding Xori = listed Immediate 0x13 4 0
immediate_encoding Ori = listed Immediate 0x13 6 0
immediate_encoding Andi = listed Immediate 0x13 7 0
immediate_encoding Slli = listed Shift 0x13 1 0
immediate_encoding Srli = listed Shift 0x13 5 0
immediate_encoding Srai = listed Shift 0x13 5 32
immediate_encoding Addiw = listed Immediate 0x1b 0 0
immediate_encoding Slliw = listed WordShift 0x1b 1 0
immediate_encoding Srliw = listed WordShift 0x1b 5 0
immediate_encoding Sraiw = listed WordShift 0x1b 5 32

-- the rows of conditional branches
abbrev pub branch_encoding : BranchOp → Encoding
branch_encoding Beq = listed Branch 0x63 0 0
branch_encoding Bne = listed Branch 0x63 1 0
branch_encoding Blt = listed Branch 0x63 4 0
branch_encoding Bge = listed Branch 0x63 5 0
branch_encoding Bltu = listed Branch 0x63 6 0
branch_encoding Bgeu = listed Branch 0x63 7 0

-- the rows of loads
abbrev pub load_encoding : LoadOp → Encoding
load_encoding Lb = listed Immediate 0x03 0 0
load_encoding Lh = listed Immediate 0x03 1 0
load_encoding Lw = listed Immediate 0x03 2 0
load_encoding Ld = listed Immediate 0x03 3 0
load_encoding Lbu = listed Immediate 0x03 4 0
load_encoding Lhu = listed Immediate 0x03 5 0
load_encoding Lwu = listed Immediate 0x03 6 0

-- the rows of stores
abbrev pub store_encoding : StoreOp → Encoding
store_encoding Sb = listed Store 0x23 0 0
store_encoding Sh = listed Store 0x23 1 0
store_encoding Sw = listed Store 0x23 2 0
store_encoding Sd = listed Store 0x23 3 0

-- the row of an operation
abbrev pub encoding_of : WordOp → Encoding
encoding_of (op.Registers o) = register_encoding o
encoding_of (op.Immediate o) = immediate_encoding o
encoding_of op.Lui = listed Upper 0x37 0 0
encoding_of (op.Branch o) = branch_encoding o
encoding_of (op.Load o) = load_encoding o
encoding_of (op.Store o) = store_encoding o
encoding_of op.Jal = listed Jump 0x6f 0 0
encoding_of op.Jalr = listed Immediate 0x67 0 0
