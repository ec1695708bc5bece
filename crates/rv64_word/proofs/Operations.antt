-- The operation whose opcode, funct3 and funct7 a word has.
use Rattle.std.proofs.Common.{◌≡◌, ℕ, ◌/◌, ◌%◌, Some, refl}
use Rattle.rv64_instr.specs.declared.op.RegisterOp.TheVariants.{Add, Sub, Sll, Slt, Sltu, Xor, Srl, Sra, Or, And, Addw, Subw, Sllw, Srlw, Sraw}
use Rattle.rv64_instr.specs.declared.op.ImmediateOp.TheVariants.{Addi, Slti, Sltiu, Xori, Ori, Andi, Slli, Srli, Srai, Addiw, Slliw, Srliw, Sraiw}
use Rattle.rv64_instr.specs.declared.op.BranchOp.TheVariants.{Beq, Bne, Blt, Bge, Bltu, Bgeu}
use Rattle.rv64_instr.specs.declared.op.LoadOp.TheVariants.{Lb, Lh, Lw, Ld, Lbu, Lhu, Lwu}
use Rattle.rv64_instr.specs.declared.op.StoreOp.TheVariants.{Sb, Sh, Sw, Sd}
use Rattle.rv64_word.specs.declared.format.Format.{Format}
use Rattle.rv64_word.specs.declared.format.Format.TheVariants.{Register, Immediate, Shift, WordShift, Store, Branch}
use Rattle.rv64_word.specs.declared.word_op.Encoding.{Encoding}
use Rattle.rv64_word.specs.declared.word_op.WordOp.{WordOp}
use Rattle.rv64_word.specs.declared.word_op.WordOp.TheVariants as op
use Rattle.rv64_word.specs.Operation.{encoding_of}
use Rattle.rv64_word.specs.Codes.{operation_of}

-- a word's funct3 and funct7 are those of the operation, as far as the format has them
abbrev pub Matches : Format → Encoding → (funct3 funct7 : ℕ) → Type 0
Matches Register e funct3 funct7 = (funct3 ≡ e.funct3 % 8) × (funct7 ≡ e.funct7 % 128)
Matches WordShift e funct3 funct7 = (funct3 ≡ e.funct3 % 8) × (funct7 ≡ e.funct7 % 128)
Matches Shift e funct3 funct7 = (funct3 ≡ e.funct3 % 8) × (funct7 / 2 ≡ e.funct7 / 2 % 64)
Matches Immediate e funct3 funct7 = funct3 ≡ e.funct3 % 8
Matches Store e funct3 funct7 = funct3 ≡ e.funct3 % 8
Matches Branch e funct3 funct7 = funct3 ≡ e.funct3 % 8
Matches _ e funct3 funct7 = Unit {0}

pub listed : (op : WordOp) (funct3 funct7 : ℕ) → Matches (encoding_of op).format (encoding_of op) funct3 funct7 →
    operation_of ((encoding_of op).opcode % 128) funct3 funct7 ≡ Some op
unfolding operation_of
listed op.Lui funct3 funct7 h = refl
listed op.Jal funct3 funct7 h = refl
listed op.Jalr funct3 funct7 h = rw h refl
listed (op.Branch Beq) funct3 funct7 h = rw h refl
listed (op.Branch Bne) funct3 funct7 h = rw h refl
listed (op.Branch Blt) funct3 funct7 h = rw h refl
listed (op.Branch Bge) funct3 funct7 h = rw h refl
listed (op.Branch Bltu) funct3 funct7 h = rw h refl
listed (op.Branch Bgeu) funct3 funct7 h = rw h refl
listed (op.Load Lb) funct3 funct7 h = rw h refl
listed (op.Load Lh) funct3 funct7 h = rw h refl
listed (op.Load Lw) funct3 funct7 h = rw h refl
listed (op.Load Ld) funct3 funct7 h = rw h refl
listed (op.Load Lbu) funct3 funct7 h = rw h refl
listed (op.Load Lhu) funct3 funct7 h = rw h refl
listed (op.Load Lwu) funct3 funct7 h = rw h refl
listed (op.Store Sb) funct3 funct7 h = rw h refl
listed (op.Store Sh) funct3 funct7 h = rw h refl
listed (op.Store Sw) funct3 funct7 h = rw h refl
listed (op.Store Sd) funct3 funct7 h = rw h refl
listed (op.Immediate Addi) funct3 funct7 h = rw h refl
listed (op.Immediate Slti) funct3 funct7 h = rw h refl
listed (op.Immediate Sltiu) funct3 funct7 h = rw h refl
listed (op.Immediate Xori) funct3 funct7 h = rw h refl
listed (op.Immediate Ori) funct3 funct7 h = rw h refl
listed (op.Immediate Andi) funct3 funct7 h = rw h refl
listed (op.Immediate Slli) funct3 funct7 (a, b) = rw (a, b) refl
listed (op.Immediate Srli) funct3 funct7 (a, b) = rw (a, b) refl
listed (op.Immediate Srai) funct3 funct7 (a, b) = rw (a, b) refl
listed (op.Registers Add) funct3 funct7 (a, b) = rw (a, b) refl
listed (op.Registers Sub) funct3 funct7 (a, b) = rw (a, b) refl
listed (op.Registers Sll) funct3 funct7 (a, b) = rw (a, b) refl
listed (op.Registers Slt) funct3 funct7 (a, b) = rw (a, b) refl
listed (op.Registers Sltu) funct3 funct7 (a, b) = rw (a, b) refl
listed (op.Registers Xor) funct3 funct7 (a, b) = rw (a, b) refl
listed (op.Registers Srl) funct3 funct7 (a, b) = rw (a, b) refl
listed (op.Registers Sra) funct3 funct7 (a, b) = rw (a, b) refl
listed (op.Registers Or) funct3 funct7 (a, b) = rw (a, b) refl
listed (op.Registers And) funct3 funct7 (a, b) = rw (a, b) refl
listed (op.Immediate Addiw) funct3 funct7 h = rw h refl
listed (op.Immediate Slliw) funct3 funct7 (a, b) = rw (a, b) refl
listed (op.Immediate Srliw) funct3 funct7 (a, b) = rw (a, b) refl
listed (op.Immediate Sraiw) funct3 funct7 (a, b) = rw (a, b) refl
listed (op.Registers Addw) funct3 funct7 (a, b) = rw (a, b) refl
listed (op.Registers Subw) funct3 funct7 (a, b) = rw (a, b) refl
listed (op.Registers Sllw) funct3 funct7 (a, b) = rw (a, b) refl
listed (op.Registers Srlw) funct3 funct7 (a, b) = rw (a, b) refl
listed (op.Registers Sraw) funct3 funct7 (a, b) = rw (a, b) refl
