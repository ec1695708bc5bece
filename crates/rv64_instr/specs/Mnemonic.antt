-- The names of opcodes (LLVM, Machine IR (MIR) Format Reference Manual, "Instructions").
use Rattle.std.specs.Prelude.{◌≡◌, ℕ, List, Option, Some, None, codes}
use Rattle.rv64_instr.specs.declared.op.Op.{Op}
use Rattle.rv64_instr.specs.declared.op.Op.TheVariants.{Registers, Immediate, Lui, Branch, Load, Store, Copy}
use Rattle.rv64_instr.specs.declared.op.Op.TheVariants.{PseudoBr, PseudoCall, PseudoRet, PseudoCallIndirect}
use Rattle.rv64_instr.specs.declared.op.Op.TheVariants.{PseudoTail, PseudoTailIndirect, NoReturnCall, NoReturnCallIndirect}
use Rattle.rv64_instr.specs.declared.op.RegisterOp.{RegisterOp}
use Rattle.rv64_instr.specs.declared.op.RegisterOp.TheVariants.{Add, Sub, Sll, Slt, Sltu, Xor, Srl, Sra, Or, And, Addw, Subw, Sllw, Srlw, Sraw}
use Rattle.rv64_instr.specs.declared.op.ImmediateOp.{ImmediateOp}
use Rattle.rv64_instr.specs.declared.op.ImmediateOp.TheVariants.{Addi, Slti, Sltiu, Xori, Ori, Andi, Slli, Srli, Srai, Addiw, Slliw, Srliw, Sraiw}
use Rattle.rv64_instr.specs.declared.op.BranchOp.{BranchOp}
use Rattle.rv64_instr.specs.declared.op.BranchOp.TheVariants.{Beq, Bne, Blt, Bge, Bltu, Bgeu}
use Rattle.rv64_instr.specs.declared.op.LoadOp.{LoadOp}
use Rattle.rv64_instr.specs.declared.op.LoadOp.TheVariants.{Lb, Lh, Lw, Ld, Lbu, Lhu, Lwu}
use Rattle.rv64_instr.specs.declared.op.StoreOp.{StoreOp}
use Rattle.rv64_instr.specs.declared.op.StoreOp.TheVariants.{Sb, Sh, Sw, Sd}

-- the name of an operation on two registers
abbrev pub register_name : RegisterOp → List ℕ
register_name Add = codes "ADD"
register_name Sub = codes "SUB"
register_name Sll = codes "SLL"
register_name Slt = codes "SLT"
register_name Sltu = codes "SLTU"
register_name Xor = codes "XOR"
register_name Srl = codes "SRL"
register_name Sra = codes "SRA"
register_name Or = codes "OR"
register_name And = codes "AND"
register_name Addw = codes "ADDW"
register_name Subw = codes "SUBW"
register_name Sllw = codes "SLLW"
register_name Srlw = codes "SRLW"
register_name Sraw = codes "SRAW"

-- the name of an operation on a register and a number
abbrev pub immediate_name : ImmediateOp → List ℕ
immediate_name Addi = codes "ADDI"
immediate_name Slti = codes "SLTI"
immediate_name Sltiu = codes "SLTIU"
immediate_name Xori = codes "XORI"
immediate_name Ori = codes "ORI"
immediate_name Andi = codes "ANDI"
immediate_name Slli = codes "SLLI"
immediate_name Srli = codes "SRLI"
immediate_name Srai = codes "SRAI"
immediate_name Addiw = codes "ADDIW"
immediate_name Slliw = codes "SLLIW"
immediate_name Srliw = codes "SRLIW"
immediate_name Sraiw = codes "SRAIW"

-- the name of a conditional branch
abbrev pub branch_name : BranchOp → List ℕ
branch_name Beq = codes "BEQ"
branch_name Bne = codes "BNE"
branch_name Blt = codes "BLT"
branch_name Bge = codes "BGE"
branch_name Bltu = codes "BLTU"
branch_name Bgeu = codes "BGEU"

-- the name of a load
abbrev pub load_name : LoadOp → List ℕ
load_name Lb = codes "LB"
load_name Lh = codes "LH"
load_name Lw = codes "LW"
load_name Ld = codes "LD"
load_name Lbu = codes "LBU"
load_name Lhu = codes "LHU"
load_name Lwu = codes "LWU"

-- the name of a store
abbrev pub store_name : StoreOp → List ℕ
store_name Sb = codes "SB"
store_name Sh = codes "SH"
store_name Sw = codes "SW"
store_name Sd = codes "SD"

-- the opcode's name in MIR. A call that doesn't return has the flag `noreturn` before its opcode
abbrev pub mnemonic_of : Op → List ℕ
mnemonic_of (Registers op) = register_name op
mnemonic_of (Immediate op) = immediate_name op
mnemonic_of (Branch op) = branch_name op
mnemonic_of (Load op) = load_name op
mnemonic_of (Store op) = store_name op
mnemonic_of Lui = codes "LUI"
mnemonic_of Copy = codes "COPY"
mnemonic_of PseudoBr = codes "PseudoBR"
mnemonic_of PseudoCall = codes "PseudoCALL"
mnemonic_of PseudoRet = codes "PseudoRET"
mnemonic_of PseudoCallIndirect = codes "PseudoCALLIndirect"
mnemonic_of PseudoTail = codes "PseudoTAIL"
mnemonic_of PseudoTailIndirect = codes "PseudoTAILIndirect"
mnemonic_of NoReturnCall = codes "noreturn PseudoCALL"
mnemonic_of NoReturnCallIndirect = codes "noreturn PseudoCALLIndirect"

-- the text is the opcode's name; without an opcode it is no opcode's name
abbrev pub Names : List ℕ → Option Op → Type 0
Names text (Some op) = text ≡ mnemonic_of op
Names text None = (op : Op) → text ≡ mnemonic_of op → ⊥

-- the text is the opcode's name; without an opcode it is no name of a branch, a load or a store
abbrev pub NamesByPlace : List ℕ → Option Op → Type 0
NamesByPlace text (Some op) = text ≡ mnemonic_of op
NamesByPlace text None =
    ((op : BranchOp) → text ≡ branch_name op → ⊥) × ((op : LoadOp) → text ≡ load_name op → ⊥) × ((op : StoreOp) → text ≡ store_name op → ⊥)

-- the text is the opcode's name; without an opcode it is no name of any other than a branch, a load
-- or a store
abbrev pub NamesElsewhere : List ℕ → Option Op → Type 0
NamesElsewhere text (Some op) = text ≡ mnemonic_of op
NamesElsewhere text None =
    ((op : RegisterOp) → text ≡ register_name op → ⊥) × ((op : ImmediateOp) → text ≡ immediate_name op → ⊥) × (text ≡ mnemonic_of Lui → ⊥) ×
    (text ≡ mnemonic_of Copy → ⊥) × (text ≡ mnemonic_of PseudoBr → ⊥) × (text ≡ mnemonic_of PseudoCall → ⊥) × (text ≡ mnemonic_of PseudoRet → ⊥) ×
    (text ≡ mnemonic_of PseudoCallIndirect → ⊥) × (text ≡ mnemonic_of PseudoTail → ⊥) × (text ≡ mnemonic_of PseudoTailIndirect → ⊥) ×
    (text ≡ mnemonic_of NoReturnCall → ⊥) × (text ≡ mnemonic_of NoReturnCallIndirect → ⊥)
