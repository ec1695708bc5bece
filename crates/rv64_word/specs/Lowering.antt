-- Lowering of an instruction that has one word to its machine operation.
use Rattle.std.specs.Prelude.{ℕ, ℤ, pos, ◌+ℤ◌, List, ◌∷◌, Option, Some, None, if◌then◌else◌, option_and_then, []}
use Rattle.rv64_instr.specs.declared.op.Op.{Op}
use Rattle.rv64_instr.specs.declared.op.Op.TheVariants as source
use Rattle.rv64_instr.specs.declared.op.RegisterOp.{RegisterOp}
use Rattle.rv64_instr.specs.declared.op.ImmediateOp.{ImmediateOp}
use Rattle.rv64_instr.specs.declared.op.ImmediateOp.TheVariants.{Addi, Slti, Sltiu, Xori, Ori, Andi, Slli, Srli, Srai, Addiw, Slliw, Srliw, Sraiw}
use Rattle.rv64_instr.specs.declared.op.BranchOp.{BranchOp}
use Rattle.rv64_instr.specs.declared.op.LoadOp.{LoadOp}
use Rattle.rv64_instr.specs.declared.op.LoadOp.TheVariants.{Ld}
use Rattle.rv64_instr.specs.declared.op.StoreOp.{StoreOp}
use Rattle.rv64_instr.specs.declared.op.StoreOp.TheVariants.{Sd}
use Rattle.rv64_instr.specs.declared.operand.Operand.{Operand}
use Rattle.rv64_instr.specs.declared.operand.Operand.TheVariants.{Def, Use, Imm, Slot, Object, Part, Block}
use Rattle.rv64_instr.specs.Instruction.{Instruction}
use Rattle.rv64_instr.specs.Row.{implicit_uses}
use Rattle.rv64_word.specs.declared.machine_op.MachineOp.{MachineOp}
use Rattle.rv64_word.specs.declared.word_op.WordOp.{WordOp}
use Rattle.rv64_word.specs.declared.word_op.WordOp.TheVariants.{Registers, Immediate, Lui, Branch, Load, Store, Jal, Jalr}
use Rattle.rv64_word.specs.MachineOp.{is_encodable}

-- the machine operation of these fields
abbrev pub machine_op : WordOp → (rd rs1 rs2 : ℕ) → ℤ → MachineOp
machine_op op rd rs1 rs2 imm = record { op = op; rd = rd; rs1 = rs1; rs2 = rs2; imm = imm }

-- `rd = OP rs1, rs2`
abbrev pub register_fields : RegisterOp → List Operand → Option MachineOp
register_fields op (Def rd ∷ Use a ∷ Use b ∷ rest) = Some (machine_op (Registers op) rd a b (pos 0))
register_fields op _ = None

-- `ADDI rd, x2, i`, for the address of a stack object
abbrev pub object_fields : ImmediateOp → (rd : ℕ) → (i : ℤ) → Option MachineOp
object_fields Addi rd i = Some (machine_op (Immediate Addi) rd 2 0 i)
object_fields Slti rd i = None
object_fields Sltiu rd i = None
object_fields Xori rd i = None
object_fields Ori rd i = None
object_fields Andi rd i = None
object_fields Slli rd i = None
object_fields Srli rd i = None
object_fields Srai rd i = None
object_fields Addiw rd i = None
object_fields Slliw rd i = None
object_fields Srliw rd i = None
object_fields Sraiw rd i = None

-- `rd = OP rs1, imm`. The address of a stack object plus a number is x2's content plus the object's offset from it plus the
-- number. Where a half of an address stands, the immediate is 0 until the program is linked
abbrev pub immediate_fields : ImmediateOp → List Operand → (object : ℕ) → Option MachineOp
immediate_fields op (Def rd ∷ Use a ∷ Imm i ∷ rest) object = Some (machine_op (Immediate op) rd a 0 i)
immediate_fields op (Def rd ∷ Object n ∷ Imm i ∷ rest) object = object_fields op rd (pos object +ℤ i)
immediate_fields op (Def rd ∷ Use a ∷ Part half y ∷ rest) object = Some (machine_op (Immediate Addi) rd a 0 (pos 0))
immediate_fields op _ object = None

-- `rd = LUI imm`
abbrev pub upper_fields : List Operand → Option MachineOp
upper_fields (Def rd ∷ Imm i ∷ rest) = Some (machine_op Lui rd 0 0 i)
upper_fields (Def rd ∷ Part half y ∷ rest) = Some (machine_op Lui rd 0 0 (pos 0))
upper_fields _ = None

-- `OP rs1, rs2, %bb.N`, with the block's offset from the instruction
abbrev pub branch_fields : BranchOp → List Operand → (offset : ℤ) → Option MachineOp
branch_fields op (Use a ∷ Use b ∷ Block n ∷ rest) offset = Some (machine_op (Branch op) 0 a b offset)
branch_fields op _ offset = None

-- a load. A frame slot's number is its offset from x2, and `object` is that of a stack object
abbrev pub load_fields : LoadOp → List Operand → (object : ℕ) → Option MachineOp
load_fields op (Def rd ∷ Use base ∷ Imm i ∷ rest) object = Some (machine_op (Load op) rd base 0 i)
load_fields op (Def rd ∷ Slot n ∷ rest) object = Some (machine_op (Load Ld) rd 2 0 (pos n))
load_fields op (Def rd ∷ Object n ∷ Imm i ∷ rest) object = Some (machine_op (Load op) rd 2 0 (pos object +ℤ i))
load_fields op (Def rd ∷ Use base ∷ Part half y ∷ rest) object = Some (machine_op (Load op) rd base 0 (pos 0))
load_fields op _ object = None

-- a store, likewise
abbrev pub store_fields : StoreOp → List Operand → (object : ℕ) → Option MachineOp
store_fields op (Use rs ∷ Use base ∷ Imm i ∷ rest) object = Some (machine_op (Store op) 0 base rs i)
store_fields op (Use rs ∷ Slot n ∷ rest) object = Some (machine_op (Store Sd) 0 2 rs (pos n))
store_fields op (Use rs ∷ Object n ∷ Imm i ∷ rest) object = Some (machine_op (Store op) 0 2 rs (pos object +ℤ i))
store_fields op (Use rs ∷ Use base ∷ Part half y ∷ rest) object = Some (machine_op (Store op) 0 base rs (pos 0))
store_fields op _ object = None

-- a copy is `ADDI rd, rs, 0`
abbrev pub copy_fields : List Operand → Option MachineOp
copy_fields (Def rd ∷ Use rs ∷ rest) = Some (machine_op (Immediate Addi) rd rs 0 (pos 0))
copy_fields _ = None

-- a jump is `JAL x0, offset`
abbrev pub jump_fields : List Operand → (offset : ℤ) → Option MachineOp
jump_fields (Block n ∷ rest) offset = Some (machine_op Jal 0 0 0 offset)
jump_fields _ offset = None

-- a return is `JALR x0, 0(x1)`
abbrev pub return_op : MachineOp
return_op = machine_op Jalr 0 1 0 (pos 0)

-- a call of the code at the address that a register holds is `JALR x1, 0(r)`
abbrev pub held_call_fields : List Operand → Option MachineOp
held_call_fields (Use r ∷ rest) = Some (machine_op Jalr 1 r 0 (pos 0))
held_call_fields _ = None

-- a jump to the address that the first of these registers holds is `JALR link, 0(r)`
abbrev pub held_fields : (link : ℕ) → List ℕ → Option MachineOp
held_fields link [] = None
held_fields link (r ∷ rest) = Some (machine_op Jalr link r 0 (pos 0))

-- the machine operation of an opcode's operands, whether or not its fields are in range. A call by name has two words, and so none
abbrev pub fields_of : Op → List Operand → (offset : ℤ) (object : ℕ) → Option MachineOp
fields_of (source.Registers op) operands offset object = register_fields op operands
fields_of (source.Immediate op) operands offset object = immediate_fields op operands object
fields_of source.Lui operands offset object = upper_fields operands
fields_of (source.Branch op) operands offset object = branch_fields op operands offset
fields_of (source.Load op) operands offset object = load_fields op operands object
fields_of (source.Store op) operands offset object = store_fields op operands object
fields_of source.Copy operands offset object = copy_fields operands
fields_of source.PseudoBr operands offset object = jump_fields operands offset
fields_of source.PseudoCall operands offset object = None
fields_of source.PseudoRet operands offset object = Some return_op
fields_of source.PseudoCallIndirect operands offset object = held_call_fields operands
fields_of source.PseudoTail operands offset object = None
fields_of source.PseudoTailIndirect operands offset object = held_fields 0 (implicit_uses operands)
fields_of source.NoReturnCall operands offset object = None
fields_of source.NoReturnCallIndirect operands offset object = held_fields 1 (implicit_uses operands)

-- the operation if its fields are in range
abbrev pub in_range : MachineOp → Option MachineOp
in_range m = if is_encodable m then Some m else None

-- the machine operation of an instruction, by the offset of its target from its own address and that of its stack object from x2:
-- none for a call by name, and none if a register or a number is out of the range of the word's format
abbrev pub lowered : (offset : ℤ) (object : ℕ) → Instruction → Option MachineOp
lowered offset object i = option_and_then in_range (fields_of i.op i.operands offset object)
