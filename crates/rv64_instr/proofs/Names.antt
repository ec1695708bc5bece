-- No two opcodes have one name.
use Rattle.std.proofs.Common.{◌≡◌, ℕ, List, [], ◌∷◌, Option, Some, refl, sym, ap, ◌∙◌}
use Rattle.std.specs.List.{find}
use Rattle.std.specs.Str.{bytes_eq}
use Rattle.rv64_instr.specs.declared.op.Op.{Op}
use Rattle.rv64_instr.specs.declared.op.Op.TheVariants.{Registers, Immediate, Lui, Branch, Load, Store, Copy}
use Rattle.rv64_instr.specs.declared.op.Op.TheVariants.{PseudoBr, PseudoCall, PseudoRet, PseudoCallIndirect}
use Rattle.rv64_instr.specs.declared.op.Op.TheVariants.{PseudoTail, PseudoTailIndirect, NoReturnCall, NoReturnCallIndirect}
use Rattle.rv64_instr.specs.declared.op.RegisterOp.TheVariants.{Add, Sub, Sll, Slt, Sltu, Xor, Srl, Sra, Or, And, Addw, Subw, Sllw, Srlw, Sraw}
use Rattle.rv64_instr.specs.declared.op.ImmediateOp.TheVariants.{Addi, Slti, Sltiu, Xori, Ori, Andi, Slli, Srli, Srai, Addiw, Slliw, Srliw, Sraiw}
use Rattle.rv64_instr.specs.declared.op.BranchOp.TheVariants.{Beq, Bne, Blt, Bge, Bltu, Bgeu}
use Rattle.rv64_instr.specs.declared.op.LoadOp.TheVariants.{Lb, Lh, Lw, Ld, Lbu, Lhu, Lwu}
use Rattle.rv64_instr.specs.declared.op.StoreOp.TheVariants.{Sb, Sh, Sw, Sd}
use Rattle.rv64_instr.specs.Mnemonic.{mnemonic_of}

opcodes : List Op
opcodes = Registers Add ∷ Registers Sub ∷ Registers Sll ∷ Registers Slt ∷ Registers Sltu ∷ Registers Xor ∷
    Registers Srl ∷ Registers Sra ∷ Registers Or ∷ Registers And ∷ Registers Addw ∷ Registers Subw ∷ Registers Sllw ∷
    Registers Srlw ∷ Registers Sraw ∷ Immediate Addi ∷ Immediate Slti ∷ Immediate Sltiu ∷ Immediate Xori ∷
    Immediate Ori ∷ Immediate Andi ∷ Immediate Slli ∷ Immediate Srli ∷ Immediate Srai ∷ Immediate Addiw ∷
    Immediate Slliw ∷ Immediate Srliw ∷ Immediate Sraiw ∷ Branch Beq ∷ Branch Bne ∷ Branch Blt ∷ Branch Bge ∷
    Branch Bltu ∷ Branch Bgeu ∷ Load Lb ∷ Load Lh ∷ Load Lw ∷ Load Ld ∷ Load Lbu ∷ Load Lhu ∷ Load Lwu ∷ Store Sb ∷
    Store Sh ∷ Store Sw ∷ Store Sd ∷ Lui ∷ Copy ∷ PseudoBr ∷ PseudoCall ∷ PseudoRet ∷ PseudoCallIndirect ∷
    PseudoTail ∷ PseudoTailIndirect ∷ NoReturnCall ∷ NoReturnCallIndirect ∷ []

-- the first opcode of a name
abbrev first_named : List ℕ → Option Op
first_named text = find (λ op. bytes_eq (mnemonic_of op) text) opcodes

found : (op : Op) → first_named (mnemonic_of op) ≡ Some op
unfolding opcodes
found (Registers Add) = refl
found (Registers Sub) = refl
found (Registers Sll) = refl
found (Registers Slt) = refl
found (Registers Sltu) = refl
found (Registers Xor) = refl
found (Registers Srl) = refl
found (Registers Sra) = refl
found (Registers Or) = refl
found (Registers And) = refl
found (Registers Addw) = refl
found (Registers Subw) = refl
found (Registers Sllw) = refl
found (Registers Srlw) = refl
found (Registers Sraw) = refl
found (Immediate Addi) = refl
found (Immediate Slti) = refl
found (Immediate Sltiu) = refl
found (Immediate Xori) = refl
found (Immediate Ori) = refl
found (Immediate Andi) = refl
found (Immediate Slli) = refl
found (Immediate Srli) = refl
found (Immediate Srai) = refl
found (Immediate Addiw) = refl
found (Immediate Slliw) = refl
found (Immediate Srliw) = refl
found (Immediate Sraiw) = refl
found (Branch Beq) = refl
found (Branch Bne) = refl
found (Branch Blt) = refl
found (Branch Bge) = refl
found (Branch Bltu) = refl
found (Branch Bgeu) = refl
found (Load Lb) = refl
found (Load Lh) = refl
found (Load Lw) = refl
found (Load Ld) = refl
found (Load Lbu) = refl
found (Load Lhu) = refl
found (Load Lwu) = refl
found (Store Sb) = refl
found (Store Sh) = refl
found (Store Sw) = refl
found (Store Sd) = refl
found _ = refl

same : (a b : Op) → Some a ≡ Some b → a ≡ b
same a b e = cc

pub mnemonic_of-injective : (a b : Op) → mnemonic_of a ≡ mnemonic_of b → a ≡ b
mnemonic_of-injective a b e = same a b (sym (found a) ∙ ap first_named e ∙ found b)
