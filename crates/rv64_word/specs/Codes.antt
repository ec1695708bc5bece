-- The operations by opcode, funct3 and funct7 (RISC-V Unprivileged ISA, "RV32/64G Instruction Set Listings").
use Rattle.std.specs.Prelude.{ℕ, ◌/◌, Option, Some, None, if◌then◌else◌, ◌==◌}
use Rattle.std.specs.Option.{option_map}
use Rattle.rv64_instr.specs.declared.op.RegisterOp.{RegisterOp}
use Rattle.rv64_instr.specs.declared.op.RegisterOp.TheVariants.{Add, Sub, Sll, Slt, Sltu, Xor, Srl, Sra, Or, And, Addw, Subw, Sllw, Srlw, Sraw}
use Rattle.rv64_instr.specs.declared.op.ImmediateOp.{ImmediateOp}
use Rattle.rv64_instr.specs.declared.op.ImmediateOp.TheVariants.{Addi, Slti, Sltiu, Xori, Ori, Andi, Slli, Srli, Srai, Addiw, Slliw, Srliw, Sraiw}
use Rattle.rv64_instr.specs.declared.op.BranchOp.{BranchOp}
use Rattle.rv64_instr.specs.declared.op.BranchOp.TheVariants.{Beq, Bne, Blt, Bge, Bltu, Bgeu}
use Rattle.rv64_instr.specs.declared.op.LoadOp.{LoadOp}
use Rattle.rv64_instr.specs.declared.op.LoadOp.TheVariants.{Lb, Lh, Lw, Ld, Lbu, Lhu, Lwu}
use Rattle.rv64_instr.specs.declared.op.StoreOp.{StoreOp}
use Rattle.rv64_instr.specs.declared.op.StoreOp.TheVariants.{Sb, Sh, Sw, Sd}
use Rattle.rv64_word.specs.declared.word_op.WordOp.{WordOp}
use Rattle.rv64_word.specs.declared.word_op.WordOp.TheVariants as op

-- conditional branches
abbrev pub branch_of : (funct3 : ℕ) → Option BranchOp
branch_of funct3 =
    if funct3 == 0 then Some Beq else (
    if funct3 == 1 then Some Bne else (
    if funct3 == 4 then Some Blt else (
    if funct3 == 5 then Some Bge else (
    if funct3 == 6 then Some Bltu else (
    if funct3 == 7 then Some Bgeu else (
    None))))))

-- loads
abbrev pub load_of : (funct3 : ℕ) → Option LoadOp
load_of funct3 =
    if funct3 == 0 then Some Lb else (
    if funct3 == 1 then Some Lh else (
    if funct3 == 2 then Some Lw else (
    if funct3 == 3 then Some Ld else (
    if funct3 == 4 then Some Lbu else (
    if funct3 == 5 then Some Lhu else (
    if funct3 == 6 then Some Lwu else (
    None)))))))

-- stores
abbrev pub store_of : (funct3 : ℕ) → Option StoreOp
store_of funct3 =
    if funct3 == 0 then Some Sb else (
    if funct3 == 1 then Some Sh else (
    if funct3 == 2 then Some Sw else (
    if funct3 == 3 then Some Sd else (
    None))))

-- 64-bit operations with an immediate; a shift has an immediate of six bits, and the upper six bits of funct7
abbrev pub immediate_of : (funct3 funct7 : ℕ) → Option ImmediateOp
immediate_of funct3 funct7 =
    if funct3 == 0 then Some Addi else (
    if funct3 == 1 then (if (funct7 / 2) == 0 then Some Slli else None) else (
    if funct3 == 2 then Some Slti else (
    if funct3 == 3 then Some Sltiu else (
    if funct3 == 4 then Some Xori else (
    if funct3 == 5 then (if (funct7 / 2) == 0 then Some Srli else (if (funct7 / 2) == 16 then Some Srai else None)) else (
    if funct3 == 6 then Some Ori else (
    if funct3 == 7 then Some Andi else (
    None))))))))

-- 64-bit operations on registers
abbrev pub register_of : (funct3 funct7 : ℕ) → Option RegisterOp
register_of funct3 funct7 =
    if funct3 == 0 then (if funct7 == 0 then Some Add else (if funct7 == 32 then Some Sub else None)) else (
    if funct3 == 1 then (if funct7 == 0 then Some Sll else None) else (
    if funct3 == 2 then (if funct7 == 0 then Some Slt else None) else (
    if funct3 == 3 then (if funct7 == 0 then Some Sltu else None) else (
    if funct3 == 4 then (if funct7 == 0 then Some Xor else None) else (
    if funct3 == 5 then (if funct7 == 0 then Some Srl else (if funct7 == 32 then Some Sra else None)) else (
    if funct3 == 6 then (if funct7 == 0 then Some Or else None) else (
    if funct3 == 7 then (if funct7 == 0 then Some And else None) else (
    None))))))))

-- 32-bit operations with an immediate
abbrev pub word_immediate_of : (funct3 funct7 : ℕ) → Option ImmediateOp
word_immediate_of funct3 funct7 =
    if funct3 == 0 then Some Addiw else (
    if funct3 == 1 then (if funct7 == 0 then Some Slliw else None) else (
    if funct3 == 5 then (if funct7 == 0 then Some Srliw else (if funct7 == 32 then Some Sraiw else None)) else (
    None)))

-- 32-bit operations on registers
abbrev pub word_register_of : (funct3 funct7 : ℕ) → Option RegisterOp
word_register_of funct3 funct7 =
    if funct3 == 0 then (if funct7 == 0 then Some Addw else (if funct7 == 32 then Some Subw else None)) else (
    if funct3 == 1 then (if funct7 == 0 then Some Sllw else None) else (
    if funct3 == 5 then (if funct7 == 0 then Some Srlw else (if funct7 == 32 then Some Sraw else None)) else (
    None)))

-- the operation of an opcode, a funct3 and a funct7, if the listings have one. A format without funct3 or
-- funct7 disregards it
unfoldable pub operation_of : (opcode funct3 funct7 : ℕ) → Option WordOp
operation_of opcode funct3 funct7 =
    if opcode == 0x37 then Some op.Lui else (
    if opcode == 0x6f then Some op.Jal else (
    if opcode == 0x67 then (if funct3 == 0 then Some op.Jalr else None) else (
    if opcode == 0x63 then option_map (λ o. op.Branch o) (branch_of funct3) else (
    if opcode == 0x03 then option_map (λ o. op.Load o) (load_of funct3) else (
    if opcode == 0x23 then option_map (λ o. op.Store o) (store_of funct3) else (
    if opcode == 0x13 then option_map (λ o. op.Immediate o) (immediate_of funct3 funct7) else (
    if opcode == 0x33 then option_map (λ o. op.Registers o) (register_of funct3 funct7) else (
    if opcode == 0x1b then option_map (λ o. op.Immediate o) (word_immediate_of funct3 funct7) else (
    if opcode == 0x3b then option_map (λ o. op.Registers o) (word_register_of funct3 funct7) else (
    None))))))))))
