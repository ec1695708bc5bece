-- The opcodes of item lines (LLVM, Machine IR (MIR) Format Reference Manual; LLVM, "Source Level Debugging with LLVM").
use Rattle.std.specs.Prelude.{ℕ, Bool, true, ◌&&◌, ◌||◌, if◌then◌else◌, codes, List, [], ◌∷◌, ◌++◌, Option, Some, None}
use Rattle.std.specs.List.{find}
use Rattle.std.specs.Str.{bytes_eq}
use Rattle.rv64_instr.specs.declared.op.Op.{Op}
use Rattle.rv64_instr.specs.declared.op.Op.TheVariants.{Registers, Immediate, Lui, Branch, Load, Store, Copy}
use Rattle.rv64_instr.specs.declared.op.Op.TheVariants.{PseudoBr, PseudoCall, PseudoRet, PseudoCallIndirect}
use Rattle.rv64_instr.specs.declared.op.Op.TheVariants.{PseudoTail, PseudoTailIndirect, NoReturnCall, NoReturnCallIndirect}
use Rattle.rv64_instr.specs.declared.op.RegisterOp.TheVariants.{Add, Sub, Sll, Slt, Sltu, Xor, Srl, Sra, Or, And, Addw, Subw, Sllw, Srlw, Sraw}
use Rattle.rv64_instr.specs.declared.op.ImmediateOp.TheVariants.{Addi, Slti, Sltiu, Xori, Ori, Andi, Slli, Srli, Srai, Addiw, Slliw, Srliw, Sraiw}
use Rattle.rv64_instr.specs.declared.op.BranchOp.TheVariants.{Beq, Bne, Blt, Bge, Bltu, Bgeu}
use Rattle.rv64_instr.specs.declared.op.LoadOp.TheVariants.{Lb, Lh, Lw, Ld, Lbu, Lhu, Lwu}
use Rattle.rv64_instr.specs.declared.op.StoreOp.TheVariants.{Sb, Sh, Sw, Sd}
use Rattle.rv64_instr.specs.Mnemonic.{mnemonic_of}
use Rattle.read_item.specs.declared.opcode.Opcode.{Opcode}
use Rattle.read_item.specs.declared.opcode.Opcode.TheVariants.{Code, Address, Debug, Label, Pseudo, CallFrame}
use Rattle.read_item.specs.declared.opcode.DebugOpcode.TheVariants.{Value, InstrRef, ValueList, Phi}

-- the opcodes of instructions that are read in any language
unfoldable pub ops : List Op
ops = Registers Add ∷ Registers Sub ∷ Registers Sll ∷ Registers Slt ∷ Registers Sltu ∷ Registers Xor ∷ Registers Srl ∷ Registers Sra ∷
    Registers Or ∷ Registers And ∷ Registers Addw ∷ Registers Subw ∷ Registers Sllw ∷ Registers Srlw ∷ Registers Sraw ∷
    Immediate Addi ∷ Immediate Slti ∷ Immediate Sltiu ∷ Immediate Xori ∷ Immediate Ori ∷ Immediate Andi ∷ Immediate Slli ∷ Immediate Srli ∷
    Immediate Srai ∷ Immediate Addiw ∷ Immediate Slliw ∷ Immediate Srliw ∷ Immediate Sraiw ∷
    Branch Beq ∷ Branch Bne ∷ Branch Blt ∷ Branch Bge ∷ Branch Bltu ∷ Branch Bgeu ∷
    Load Lb ∷ Load Lh ∷ Load Lw ∷ Load Ld ∷ Load Lbu ∷ Load Lhu ∷ Load Lwu ∷ Store Sb ∷ Store Sh ∷ Store Sw ∷ Store Sd ∷
    Lui ∷ Copy ∷ PseudoBr ∷ PseudoCall ∷ PseudoRet ∷ []

-- the opcodes of calls by a register, in tail position, or that don't return: those of the linked language alone
unfoldable pub callee_ops : List Op
callee_ops = PseudoCallIndirect ∷ PseudoTail ∷ PseudoTailIndirect ∷ NoReturnCall ∷ NoReturnCallIndirect ∷ []

-- the opcodes of instructions that are read
abbrev pub ops_of : (linked : Bool) → List Op
ops_of linked = ops ++ (if linked then callee_ops else [])

-- an opcode that is read: a call by a register, in tail position, or that doesn't return is one of the linked language
abbrev pub is_read : (linked : Bool) → Op → Bool
is_read linked PseudoCallIndirect = linked
is_read linked PseudoTail = linked
is_read linked PseudoTailIndirect = linked
is_read linked NoReturnCall = linked
is_read linked NoReturnCallIndirect = linked
is_read linked _ = true

-- the opcode, if it is read
abbrev pub if_read : (linked : Bool) → Option Op → Option Op
if_read linked None = None
if_read linked (Some op) = if is_read linked op then Some op else None

-- the opcode of an instruction with this mnemonic that is read, if there is one
unfoldable pub op_named : (linked : Bool) → List ℕ → Option Op
op_named linked name = find (λ op. bytes_eq (mnemonic_of op) name) (ops_of linked)

-- the opcode of a call with the word `noreturn` before it
abbrev pub without_return : Op → Op
without_return PseudoCall = NoReturnCall
without_return PseudoCallIndirect = NoReturnCallIndirect
without_return op = op

-- the opcode of a line of code: the word `noreturn` counts in the linked language alone
abbrev pub returning : (linked no_return : Bool) → Op → Op
returning linked no_return op = if linked && no_return then without_return op else op

-- the debug or ignored opcode with this name, if there is one
unfoldable pub debug_opcode_of : List ℕ → Option Opcode
debug_opcode_of name =
    if bytes_eq name (codes "DBG_VALUE") then Some (Debug Value)
    else (if bytes_eq name (codes "DBG_INSTR_REF") then Some (Debug InstrRef)
    else (if bytes_eq name (codes "DBG_VALUE_LIST") then Some (Debug ValueList)
    else (if bytes_eq name (codes "DBG_PHI") then Some (Debug Phi)
    else (if bytes_eq name (codes "DBG_LABEL") then Some Label
    else (if bytes_eq name (codes "KILL") || bytes_eq name (codes "IMPLICIT_DEF") then Some Pseudo
    else (if bytes_eq name (codes "ADJCALLSTACKDOWN") || bytes_eq name (codes "ADJCALLSTACKUP") then Some CallFrame
    else None))))))

-- the opcode of an instruction, if the name is one, and else the other opcode
abbrev pub opcode_or : Option Op → Option Opcode → Option Opcode
opcode_or (Some op) other = Some (Code op)
opcode_or None other = other

-- the opcode with this name that isn't one of an instruction: `PseudoMovAddr`, two instructions of the linked language, a debug or an ignored one
abbrev pub other_opcode_of : (linked : Bool) → List ℕ → Option Opcode
other_opcode_of linked name = if linked && bytes_eq name (codes "PseudoMovAddr") then Some Address else debug_opcode_of name

-- the opcode with this name, if there is one; `linked` is whether those of the linked language are read
unfoldable pub opcode_of : (linked : Bool) → List ℕ → Option Opcode
opcode_of linked name = opcode_or (op_named linked name) (other_opcode_of linked name)
