-- Rows: what instructions do, decoded from their opcodes and operands.
use Rattle.std.specs.Prelude.{ℕ, zero, suc, ◌*ℤ◌, pos, Bool, true, false, List, [], ◌∷◌, nat_eq, cond}
use Rattle.rv64_instr.specs.declared.op.Op.{Op}
use Rattle.rv64_instr.specs.declared.op.RegisterOp.{RegisterOp}
use Rattle.rv64_instr.specs.declared.op.ImmediateOp.{ImmediateOp}
use Rattle.rv64_instr.specs.declared.op.BranchOp.{BranchOp}
use Rattle.rv64_instr.specs.declared.op.LoadOp.{LoadOp}
use Rattle.rv64_instr.specs.declared.op.StoreOp.{StoreOp}
use Rattle.rv64_instr.specs.declared.op.Op.TheVariants.{Registers, Immediate, Lui, Branch, Load, Store, Copy}
use Rattle.rv64_instr.specs.declared.op.Op.TheVariants.{PseudoBr, PseudoCall, PseudoRet, PseudoCallIndirect}
use Rattle.rv64_instr.specs.declared.op.Op.TheVariants.{PseudoTail, PseudoTailIndirect, NoReturnCall, NoReturnCallIndirect}
use Rattle.rv64_instr.specs.declared.op.RegisterOp.TheVariants.{Add, Sll, Slt, Sltu, Xor, Srl, Sra, Or, And, Addw, Sllw, Srlw, Sraw}
use Rattle.rv64_instr.specs.declared.op.ImmediateOp.TheVariants.{Addi, Slti, Sltiu, Xori, Ori, Andi, Slli, Srli, Srai, Addiw, Slliw, Srliw, Sraiw}
use Rattle.rv64_instr.specs.declared.operand.Operand.{Operand}
use Rattle.rv64_instr.specs.declared.operand.Operand.TheVariants.{Def, Use, ImplicitUse, Imm, Slot, Object, Part, Block, Symbol, Outgoing}
use Rattle.rv64_instr.specs.declared.symbol.LinkedAddress.{LinkedAddress}
use Rattle.rv64_instr.specs.declared.symbol.Half.{Half}
use Rattle.rv64_instr.specs.declared.symbol.Half.TheVariants.{Upper, Lower}
use Rattle.rv64_instr.specs.Instruction.{Instruction}
use Rattle.rv64_instr.specs.Arithmetic.{word, extend32}

-- the second input of an operation: the content of a register, a number, or the value of a half of an address that is known when the
-- program is linked
pub data Input : Type 0 where
  Content : (r : ℕ) → Input
  Number : (n : ℕ) → Input
  PartOf : (half : Half) (address : LinkedAddress) → Input

-- the base of an access's address: the content of a register, the address of a stack object, or the content of a register plus the value of the
-- lower half of an address that is known when the program is linked
pub data Base : Type 0 where
  PointedBy : (r : ℕ) → Base
  ObjectAt : (n : ℕ) → Base
  BesidePart : (r : ℕ) (address : LinkedAddress) → Base

-- the callee of a call: a function by its name, or the code at the address that a register holds (an indirect call)
pub data Callee : Type 0 where
  Named : (name : List ℕ) → Callee
  Held : (r : ℕ) → Callee

-- a call: its callee, the registers whose contents it passes, and the frame slots whose contents it passes on the stack. A slot of
-- index k lies at x2 + 8k, where the callee looks for its k-th argument on the stack (RISC-V ELF psABI, "Integer Calling Convention")
pub record CallSite : Type 0 where
  pub callee : Callee
  pub args : List ℕ
  pub outgoing : List ℕ

-- how control leaves a function: back to its caller, to a callee in its place (a tail call), or to a callee that doesn't return
pub data Way (C : Type 0) : Type 0 where
  Back : Way C
  Tail : (callee : C) → Way C
  Never : (callee : C) → Way C

-- the way leads back to the caller: the function returns, or a callee returns in its place
abbrev pub way_leads_back : {C : Type 0} → Way C → Bool
way_leads_back Back = true
way_leads_back (Tail callee) = true
way_leads_back (Never callee) = false

-- how a function ends: the way, and the values that it passes there. In a row the callee is named by the instruction, and the values
-- are registers; in the result of a run both are what these were
pub record Ending (C : Type 0) : Type 0 where
  pub way : Way C
  pub values : List ℕ

-- what an instruction does. An address is a base plus an offset, modulo 2^64. A target is a block's number
pub data Row : Type 0 where
  -- a constant definition: sets rd to a number
  Fixes : (rd n : ℕ) → Row
  -- a copy: sets rd to the content of rs
  Moves : (rd rs : ℕ) → Row
  -- sets rd to the result of an operation
  Sets : (rd : ℕ) (op : RegisterOp) (a : ℕ) (b : Input) → Row
  -- sets rd to the address of a stack object plus an offset
  Addresses : (rd n offset : ℕ) → Row
  -- sets rd from memory
  Loads : (rd : ℕ) (op : LoadOp) (base : Base) (offset : ℕ) → Row
  -- writes to memory
  Stores : (op : StoreOp) (rs : ℕ) (base : Base) (offset : ℕ) → Row
  -- sets rd from a frame slot, or a frame slot from rs
  LoadsSlot : (rd n : ℕ) → Row
  StoresSlot : (rs n : ℕ) → Row
  -- control goes to a block if the branch is taken, or always
  Branches : (op : BranchOp) (a b target : ℕ) → Row
  Jumps : (target : ℕ) → Row
  -- calls with the contents of registers, or ends the run with them
  Calls : (call : CallSite) → Row
  Returns : (ending : Ending Callee) → Row
  -- an invalid instruction: its operands don't have the opcode's form
  Unfit : Row

-- the implicit uses in text order, x2 left out: the stack pointer is no argument and no result
abbrev pub implicit_uses : List Operand → List ℕ
implicit_uses [] = []
implicit_uses (ImplicitUse r ∷ rest) = cond (nat_eq r 2) (implicit_uses rest) (r ∷ implicit_uses rest)
implicit_uses (_ ∷ rest) = implicit_uses rest

-- the frame slots that operands pass on the stack
abbrev pub outgoing_words : List Operand → List ℕ
outgoing_words [] = []
outgoing_words (Outgoing n ∷ rest) = n ∷ outgoing_words rest
outgoing_words (_ ∷ rest) = outgoing_words rest

-- a copy from x0 sets 0
abbrev pub move_row : (rd rs : ℕ) → Row
move_row rd zero = Fixes rd 0
move_row rd (suc r) = Moves rd (suc r)

-- `ADDI rd, x0, n` sets n, and `ADDI rd, rs, 0` is a copy
abbrev pub add_row : (rd a n : ℕ) → Row
add_row rd zero n = Fixes rd n
add_row rd (suc r) zero = Moves rd (suc r)
add_row rd (suc r) (suc n) = Sets rd Add (suc r) (Number (suc n))

-- the row of an operation with an immediate: the operation on registers, with the number as second input
abbrev pub immediate_row : ImmediateOp → (rd a n : ℕ) → Row
immediate_row Addi rd a n = add_row rd a n
immediate_row Slti rd a n = Sets rd Slt a (Number n)
immediate_row Sltiu rd a n = Sets rd Sltu a (Number n)
immediate_row Xori rd a n = Sets rd Xor a (Number n)
immediate_row Ori rd a n = Sets rd Or a (Number n)
immediate_row Andi rd a n = Sets rd And a (Number n)
immediate_row Slli rd a n = Sets rd Sll a (Number n)
immediate_row Srli rd a n = Sets rd Srl a (Number n)
immediate_row Srai rd a n = Sets rd Sra a (Number n)
immediate_row Addiw rd a n = Sets rd Addw a (Number n)
immediate_row Slliw rd a n = Sets rd Sllw a (Number n)
immediate_row Srliw rd a n = Sets rd Srlw a (Number n)
immediate_row Sraiw rd a n = Sets rd Sraw a (Number n)

-- only `ADDI` may have a stack object: it sets rd to the object's address plus an offset
abbrev pub object_row : ImmediateOp → (rd n offset : ℕ) → Row
object_row Addi rd n offset = Addresses rd n offset
object_row Slti rd n offset = Unfit
object_row Sltiu rd n offset = Unfit
object_row Xori rd n offset = Unfit
object_row Ori rd n offset = Unfit
object_row Andi rd n offset = Unfit
object_row Slli rd n offset = Unfit
object_row Srli rd n offset = Unfit
object_row Srai rd n offset = Unfit
object_row Addiw rd n offset = Unfit
object_row Slliw rd n offset = Unfit
object_row Srliw rd n offset = Unfit
object_row Sraiw rd n offset = Unfit

-- `op rd, rs1, rs2` (RISC-V Unprivileged ISA, "Integer Register-Register Operations")
abbrev pub registers_row : RegisterOp → List Operand → Row
registers_row op (Def rd ∷ Use a ∷ Use b ∷ rest) = Sets rd op a (Content b)
registers_row op _ = Unfit

-- `op rd, rs1, imm`, or `ADDI rd, object, imm` (RISC-V Unprivileged ISA, "Integer Register-Immediate Instructions"). `ADDI` with the lower half of an
-- address, the only half that has its form, is neither a constant definition nor a copy
abbrev pub number_row : ImmediateOp → List Operand → Row
number_row op (Def rd ∷ Use a ∷ Imm i ∷ rest) = immediate_row op rd a (word i)
number_row op (Def rd ∷ Object n ∷ Imm i ∷ rest) = object_row op rd n (word i)
number_row op (Def rd ∷ Use a ∷ Part half y ∷ rest) = Sets rd Add a (PartOf Lower y)
number_row op _ = Unfit

-- `LUI rd, imm` sets bits 31 to 12 to the immediate and the 12 below to 0, sign-extended to 64 bits. With the upper half of an address it adds the
-- half's value to 0: no constant definition, since the address isn't known
abbrev pub upper_row : List Operand → Row
upper_row (Def rd ∷ Imm i ∷ rest) = Fixes rd (extend32 (word (i *ℤ pos 4096)))
upper_row (Def rd ∷ Part half y ∷ rest) = Sets rd Add 0 (PartOf Upper y)
upper_row _ = Unfit

-- `op rs1, rs2, block` (RISC-V Unprivileged ISA, "Conditional Branches")
abbrev pub branch_row : BranchOp → List Operand → Row
branch_row op (Use a ∷ Use b ∷ Block target ∷ rest) = Branches op a b target
branch_row op _ = Unfit

-- a load by a register and an offset, of a frame slot, of a stack object and an offset, or by a register and the lower half of an address
abbrev pub load_row : LoadOp → List Operand → Row
load_row op (Def rd ∷ Use base ∷ Imm i ∷ rest) = Loads rd op (PointedBy base) (word i)
load_row op (Def rd ∷ Slot n ∷ rest) = LoadsSlot rd n
load_row op (Def rd ∷ Object n ∷ Imm i ∷ rest) = Loads rd op (ObjectAt n) (word i)
load_row op (Def rd ∷ Use base ∷ Part half y ∷ rest) = Loads rd op (BesidePart base y) 0
load_row op _ = Unfit

-- a store, with the same four kinds of address
abbrev pub store_row : StoreOp → List Operand → Row
store_row op (Use rs ∷ Use base ∷ Imm i ∷ rest) = Stores op rs (PointedBy base) (word i)
store_row op (Use rs ∷ Slot n ∷ rest) = StoresSlot rs n
store_row op (Use rs ∷ Object n ∷ Imm i ∷ rest) = Stores op rs (ObjectAt n) (word i)
store_row op (Use rs ∷ Use base ∷ Part half y ∷ rest) = Stores op rs (BesidePart base y) 0
store_row op _ = Unfit

-- LLVM's `COPY`, from register to register
abbrev pub copy_row : List Operand → Row
copy_row (Def rd ∷ Use rs ∷ rest) = move_row rd rs
copy_row _ = Unfit

-- LLVM's `PseudoBR`, an unconditional branch
abbrev pub jump_row : List Operand → Row
jump_row (Block target ∷ rest) = Jumps target
jump_row _ = Unfit

-- LLVM's `PseudoCALL`: the arguments are the registers of its implicit uses, and its outgoing words
abbrev pub call_row : List Operand → Row
call_row (Symbol name ∷ rest) = Calls (record { callee = Named name; args = implicit_uses rest; outgoing = outgoing_words rest })
call_row _ = Unfit

-- LLVM's `PseudoCALLIndirect`, a call of the code at the address that a register holds
abbrev pub held_call_row : List Operand → Row
held_call_row (Use r ∷ rest) = Calls (record { callee = Held r; args = implicit_uses rest; outgoing = outgoing_words rest })
held_call_row _ = Unfit

-- LLVM's `PseudoTAIL`: the callee returns in the function's place, and the arguments are the registers of the implicit uses
abbrev pub tail_row : List Operand → Row
tail_row (Symbol name ∷ rest) = Returns (record { way = Tail (Named name); values = implicit_uses rest })
tail_row _ = Unfit

-- a call in tail position by the first of these registers, with the others as arguments
abbrev pub held_tail : List ℕ → Row
held_tail [] = Unfit
held_tail (r ∷ rest) = Returns (record { way = Tail (Held r); values = rest })

-- LLVM's `PseudoTAILIndirect`. Its register, and that of a call that doesn't return, is the first implicit use: passes rename explicit uses alone
abbrev pub held_tail_row : List Operand → Row
held_tail_row operands = held_tail (implicit_uses operands)

-- a call of a function that doesn't return
abbrev pub gone_row : List Operand → Row
gone_row (Symbol name ∷ rest) = Returns (record { way = Never (Named name); values = implicit_uses rest })
gone_row _ = Unfit

-- such a call by a register
abbrev pub held_gone : List ℕ → Row
held_gone [] = Unfit
held_gone (r ∷ rest) = Returns (record { way = Never (Held r); values = rest })

abbrev pub held_gone_row : List Operand → Row
held_gone_row operands = held_gone (implicit_uses operands)

-- LLVM's `PseudoRET`: the results are the registers of its implicit uses
abbrev pub return_row : List Operand → Row
return_row operands = Returns (record { way = Back; values = implicit_uses operands })

-- the row of an opcode with these operands
abbrev pub row_by : Op → List Operand → Row
row_by (Registers op) operands = registers_row op operands
row_by (Immediate op) operands = number_row op operands
row_by Lui operands = upper_row operands
row_by (Branch op) operands = branch_row op operands
row_by (Load op) operands = load_row op operands
row_by (Store op) operands = store_row op operands
row_by Copy operands = copy_row operands
row_by PseudoBr operands = jump_row operands
row_by PseudoCall operands = call_row operands
row_by PseudoRet operands = return_row operands
row_by PseudoCallIndirect operands = held_call_row operands
row_by PseudoTail operands = tail_row operands
row_by PseudoTailIndirect operands = held_tail_row operands
row_by NoReturnCall operands = gone_row operands
row_by NoReturnCallIndirect operands = held_gone_row operands

-- the row of an instruction
abbrev pub row_of : Instruction → Row
row_of i = row_by i.op i.operands
