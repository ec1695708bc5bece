-- The operands that an opcode takes (RISC-V Unprivileged ISA, RV64I; LLVM, Machine IR (MIR) Format Reference Manual).
use Rattle.std.specs.Prelude.{ℕ, ◌<◌, ◌^◌, ℤ, pos, negsuc, Bool, true, false, not, ◌&&◌, ◌||◌, List, ◌∷◌, int_le, nat_le, nat_lt, nat_eq}
use Rattle.std.specs.List.{list_all}
use Rattle.rv64_instr.specs.declared.op.Op.{Op}
use Rattle.rv64_instr.specs.declared.op.ImmediateOp.{ImmediateOp}
use Rattle.rv64_instr.specs.declared.op.LoadOp.{LoadOp}
use Rattle.rv64_instr.specs.declared.op.StoreOp.{StoreOp}
use Rattle.rv64_instr.specs.declared.op.Op.TheVariants.{Registers, Immediate, Lui, Branch, Load, Store, Copy}
use Rattle.rv64_instr.specs.declared.op.Op.TheVariants.{PseudoBr, PseudoCall, PseudoRet, PseudoCallIndirect}
use Rattle.rv64_instr.specs.declared.op.Op.TheVariants.{PseudoTail, PseudoTailIndirect, NoReturnCall, NoReturnCallIndirect}
use Rattle.rv64_instr.specs.declared.op.ImmediateOp.TheVariants.{Addi, Slti, Sltiu, Xori, Ori, Andi, Slli, Srli, Srai, Addiw, Slliw, Srliw, Sraiw}
use Rattle.rv64_instr.specs.declared.operand.Operand.{Operand}
use Rattle.rv64_instr.specs.declared.operand.Operand.TheVariants.{Def, Use, ImplicitDef, ImplicitUse, Imm, Slot, Object, Part, Block, Symbol, Mask, Outgoing, GlobalRegisters}
use Rattle.rv64_instr.specs.declared.symbol.Half.TheVariants.{Upper, Lower}
use Rattle.rv64_instr.specs.Arithmetic.{load_width, store_width}

-- the number is between the two, both included
abbrev pub is_within : ℤ → ℤ → ℤ → Bool
is_within low high i = int_le low i && int_le i high

-- a signed number of 64 bits
abbrev pub IsSigned : ℤ → Type 0
IsSigned (pos n) = n < 2 ^ 63
IsSigned (negsuc n) = n < 2 ^ 63

-- a signed number of 12 bits
abbrev pub has_12_bits : ℤ → Bool
has_12_bits i = is_within (negsuc 2047) (pos 2047) i

-- the number is in the operation's range: shifts have 6 bits, those of words 5, and all others 12 signed ones
abbrev pub is_immediate : ImmediateOp → ℤ → Bool
is_immediate Addi i = has_12_bits i
is_immediate Slti i = has_12_bits i
is_immediate Sltiu i = has_12_bits i
is_immediate Xori i = has_12_bits i
is_immediate Ori i = has_12_bits i
is_immediate Andi i = has_12_bits i
is_immediate Slli i = is_within (pos 0) (pos 63) i
is_immediate Srli i = is_within (pos 0) (pos 63) i
is_immediate Srai i = is_within (pos 0) (pos 63) i
is_immediate Addiw i = has_12_bits i
is_immediate Slliw i = is_within (pos 0) (pos 31) i
is_immediate Srliw i = is_within (pos 0) (pos 31) i
is_immediate Sraiw i = is_within (pos 0) (pos 31) i

-- `ADDI`, the only operation that adds a number to a stack object's address, and that has a half of an address as its number
abbrev pub is_addi : ImmediateOp → Bool
is_addi Addi = true
is_addi _ = false

-- an access of so many bytes may be of a frame slot, with this immediate: a slot has eight bytes, and the immediate
-- is 0
abbrev pub moves_slot : (width : ℕ) → ℤ → Bool
moves_slot width i = nat_eq width 8 && is_within (pos 0) (pos 0) i

-- an implicit operand, which is physical
abbrev pub is_implicit : Operand → Bool
is_implicit (ImplicitDef r) = nat_lt r 32
is_implicit (ImplicitUse r) = nat_lt r 32
is_implicit _ = false

-- the registers that a call may name as set: the caller-saved ones, x0 and x2 (RISC-V ELF psABI)
abbrev pub is_clobbered : ℕ → Bool
is_clobbered r = nat_le r 2 || (nat_le 5 r && nat_le r 7) || (nat_le 10 r && nat_le r 17) || (nat_le 28 r && nat_le r 31)

-- an implicit operand of a call: a use of any physical register, a definition of such a register, a slot that it passes, or the global registers
abbrev pub is_argument : Operand → Bool
is_argument (ImplicitDef r) = is_clobbered r
is_argument (ImplicitUse r) = nat_lt r 32
is_argument (Outgoing n) = true
is_argument GlobalRegisters = true
is_argument _ = false

-- that of a call that doesn't return: it passes no slot, since the end of a run shows registers alone
abbrev pub is_last_argument : Operand → Bool
is_last_argument (ImplicitDef r) = is_clobbered r
is_last_argument (ImplicitUse r) = nat_lt r 32
is_last_argument GlobalRegisters = true
is_last_argument _ = false

-- a register by which a call that doesn't return may name its callee: any but x2
abbrev pub is_call_register : ℕ → Bool
is_call_register r = not (nat_eq r 2) && nat_lt r 32

-- an implicit operand of a return: a use of x10 to x17, or the global registers
abbrev pub is_result : Operand → Bool
is_result (ImplicitUse r) = nat_le 10 r && nat_le r 17
is_result GlobalRegisters = true
is_result _ = false

-- a register that may hold an argument of a call in tail position, and that neither the epilogue sets nor the first word of a call by a name:
-- x7, x10 to x17 and x28 to x31
abbrev pub is_tail_register : ℕ → Bool
is_tail_register r = nat_eq r 7 || ((nat_le 10 r && nat_le r 17) || (nat_le 28 r && nat_le r 31))

-- by a register, it may be x6 too, as the callee's
abbrev pub is_held_tail_register : ℕ → Bool
is_held_tail_register r = nat_eq r 6 || is_tail_register r

-- an implicit operand of a call in tail position: a use of x2 or of such a register, or the global registers
abbrev pub is_tail_use : Operand → Bool
is_tail_use (ImplicitUse r) = nat_eq r 2 || is_tail_register r
is_tail_use GlobalRegisters = true
is_tail_use _ = false

abbrev pub is_held_tail_use : Operand → Bool
is_held_tail_use (ImplicitUse r) = nat_eq r 2 || is_held_tail_register r
is_held_tail_use GlobalRegisters = true
is_held_tail_use _ = false

-- an opcode whose first operand is the callee's register and an implicit use. Passes rename explicit uses alone: in tail position the callee stays in
-- a register that the epilogue doesn't set, and whatever leaves a function reads physical registers alone
abbrev pub has_implicit_callee : Op → Bool
has_implicit_callee PseudoTailIndirect = true
has_implicit_callee NoReturnCallIndirect = true
has_implicit_callee _ = false

-- `rd = OP rs1, rs2`
abbrev pub fits_registers : List Operand → Bool
fits_registers (Def rd ∷ Use rs1 ∷ Use rs2 ∷ rest) = list_all is_implicit rest
fits_registers _ = false

-- `rd = OP rs1, imm`, `rd = ADDI %stack.N, imm` of a stack object, or `rd = ADDI rs1, lower half`
abbrev pub fits_immediate : ImmediateOp → List Operand → Bool
fits_immediate op (Def rd ∷ Use rs1 ∷ Imm i ∷ rest) = is_immediate op i && list_all is_implicit rest
fits_immediate op (Def rd ∷ Object n ∷ Imm i ∷ rest) = is_addi op && is_immediate op i && list_all is_implicit rest
fits_immediate op (Def rd ∷ Use rs1 ∷ Part Lower y ∷ rest) = is_addi op && list_all is_implicit rest
fits_immediate op _ = false

-- `rd = LUI imm`, with 20 bits, or `rd = LUI upper half`
abbrev pub fits_upper : List Operand → Bool
fits_upper (Def rd ∷ Imm i ∷ rest) = is_within (pos 0) (pos 1048575) i && list_all is_implicit rest
fits_upper (Def rd ∷ Part Upper y ∷ rest) = list_all is_implicit rest
fits_upper _ = false

-- `OP rs1, rs2, %bb.N`
abbrev pub fits_branch : List Operand → Bool
fits_branch (Use rs1 ∷ Use rs2 ∷ Block n ∷ rest) = list_all is_implicit rest
fits_branch _ = false

-- `rd = OP rs1, imm`, `rd = LD %stack.N, 0` of a slot, `rd = OP %stack.N, imm` of a stack object, or `rd = OP rs1, lower half`
abbrev pub fits_load : LoadOp → List Operand → Bool
fits_load op (Def rd ∷ Use rs1 ∷ Imm i ∷ rest) = has_12_bits i && list_all is_implicit rest
fits_load op (Def rd ∷ Slot n ∷ Imm i ∷ rest) = moves_slot (load_width op) i && list_all is_implicit rest
fits_load op (Def rd ∷ Object n ∷ Imm i ∷ rest) = has_12_bits i && list_all is_implicit rest
fits_load op (Def rd ∷ Use rs1 ∷ Part Lower y ∷ rest) = list_all is_implicit rest
fits_load op _ = false

-- `OP rs2, rs1, imm`, `SD rs2, %stack.N, 0` of a slot, `OP rs2, %stack.N, imm` of a stack object, or `OP rs2, rs1, lower half`
abbrev pub fits_store : StoreOp → List Operand → Bool
fits_store op (Use rs2 ∷ Use rs1 ∷ Imm i ∷ rest) = has_12_bits i && list_all is_implicit rest
fits_store op (Use rs2 ∷ Slot n ∷ Imm i ∷ rest) = moves_slot (store_width op) i && list_all is_implicit rest
fits_store op (Use rs2 ∷ Object n ∷ Imm i ∷ rest) = has_12_bits i && list_all is_implicit rest
fits_store op (Use rs2 ∷ Use rs1 ∷ Part Lower y ∷ rest) = list_all is_implicit rest
fits_store op _ = false

-- `rd = COPY rs`
abbrev pub fits_copy : List Operand → Bool
fits_copy (Def rd ∷ Use rs ∷ rest) = list_all is_implicit rest
fits_copy _ = false

-- `PseudoBR %bb.N`
abbrev pub fits_jump : List Operand → Bool
fits_jump (Block n ∷ rest) = list_all is_implicit rest
fits_jump _ = false

-- `PseudoCALL symbol, mask`
abbrev pub fits_call : List Operand → Bool
fits_call (Symbol name ∷ Mask ∷ rest) = list_all is_argument rest
fits_call _ = false

-- `PseudoCALLIndirect rs, mask`
abbrev pub fits_held_call : List Operand → Bool
fits_held_call (Use r ∷ Mask ∷ rest) = list_all is_argument rest
fits_held_call _ = false

-- `PseudoCALL symbol, mask` of a function that doesn't return, and the same by a register, which is the first implicit use
abbrev pub fits_gone : List Operand → Bool
fits_gone (Symbol name ∷ Mask ∷ rest) = list_all is_last_argument rest
fits_gone _ = false

abbrev pub fits_held_gone : List Operand → Bool
fits_held_gone (ImplicitUse r ∷ Mask ∷ rest) = is_call_register r && list_all is_last_argument rest
fits_held_gone _ = false

-- `PseudoTAIL symbol`
abbrev pub fits_tail : List Operand → Bool
fits_tail (Symbol name ∷ rest) = list_all is_tail_use rest
fits_tail _ = false

-- `PseudoTAILIndirect rs`: the register is the first implicit use
abbrev pub fits_held_tail : List Operand → Bool
fits_held_tail (ImplicitUse r ∷ rest) = is_held_tail_register r && list_all is_held_tail_use rest
fits_held_tail _ = false

-- the operands have the form of the opcode, with their immediate in range. Implicit operands come last
abbrev pub has_form : Op → List Operand → Bool
has_form (Registers op) operands = fits_registers operands
has_form (Immediate op) operands = fits_immediate op operands
has_form Lui operands = fits_upper operands
has_form (Branch op) operands = fits_branch operands
has_form (Load op) operands = fits_load op operands
has_form (Store op) operands = fits_store op operands
has_form Copy operands = fits_copy operands
has_form PseudoBr operands = fits_jump operands
has_form PseudoCall operands = fits_call operands
has_form PseudoRet operands = list_all is_result operands
has_form PseudoCallIndirect operands = fits_held_call operands
has_form PseudoTail operands = fits_tail operands
has_form PseudoTailIndirect operands = fits_held_tail operands
has_form NoReturnCall operands = fits_gone operands
has_form NoReturnCallIndirect operands = fits_held_gone operands
