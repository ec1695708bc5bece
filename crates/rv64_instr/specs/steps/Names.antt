-- The names of opcodes, in two parts: those that are told by their bytes, and those of calls other than by name.
use Rattle.std.specs.Prelude.{◌≡◌, ℕ, List, Option, Some, None, codes, cond}
use Rattle.std.specs.Str.{bytes_eq}
use Rattle.rv64_instr.specs.declared.op.Op.{Op}
use Rattle.rv64_instr.specs.declared.op.Op.TheVariants.{Lui, Copy, PseudoBr, PseudoCall, PseudoRet, PseudoCallIndirect}
use Rattle.rv64_instr.specs.declared.op.Op.TheVariants.{PseudoTail, PseudoTailIndirect, NoReturnCall, NoReturnCallIndirect}
use Rattle.rv64_instr.specs.declared.op.RegisterOp.{RegisterOp}
use Rattle.rv64_instr.specs.declared.op.ImmediateOp.{ImmediateOp}
use Rattle.rv64_instr.specs.Mnemonic.{mnemonic_of, register_name, immediate_name}

-- the text is the opcode's name; without an opcode it is no name of an operation on registers, a call by name, a return or a branch that is always taken
abbrev pub NamesByValue : List ℕ → Option Op → Type 0
NamesByValue text (Some op) = text ≡ mnemonic_of op
NamesByValue text None =
    ((op : RegisterOp) → text ≡ register_name op → ⊥) × ((op : ImmediateOp) → text ≡ immediate_name op → ⊥) × (text ≡ mnemonic_of Lui → ⊥) ×
    (text ≡ mnemonic_of Copy → ⊥) × (text ≡ mnemonic_of PseudoBr → ⊥) × (text ≡ mnemonic_of PseudoCall → ⊥) × (text ≡ mnemonic_of PseudoRet → ⊥)

-- the opcode of a call by a register, in tail position or that doesn't return
abbrev pub callee_named : List ℕ → Option Op
callee_named text =
    cond (bytes_eq text (codes "PseudoCALLIndirect")) (Some PseudoCallIndirect)
    (cond (bytes_eq text (codes "PseudoTAIL")) (Some PseudoTail)
    (cond (bytes_eq text (codes "PseudoTAILIndirect")) (Some PseudoTailIndirect)
    (cond (bytes_eq text (codes "noreturn PseudoCALL")) (Some NoReturnCall)
    (cond (bytes_eq text (codes "noreturn PseudoCALLIndirect")) (Some NoReturnCallIndirect) None))))
