-- Which kind of operand each position of an opcode takes (RISC-V Unprivileged ISA, RV64I; LLVM, Machine IR (MIR) Format Reference Manual).
use Rattle.std.specs.Prelude.{Bool, if◌then◌else◌, List, [], ◌∷◌}
use Rattle.rv64_instr.specs.declared.op.Op.{Op}
use Rattle.rv64_instr.specs.declared.op.ImmediateOp.{ImmediateOp}
use Rattle.rv64_instr.specs.declared.op.Op.TheVariants.{Registers, Immediate, Lui, Branch, Load, Store, Copy}
use Rattle.rv64_instr.specs.declared.op.Op.TheVariants.{PseudoBr, PseudoCall, PseudoRet, PseudoCallIndirect}
use Rattle.rv64_instr.specs.declared.op.Op.TheVariants.{PseudoTail, PseudoTailIndirect, NoReturnCall, NoReturnCallIndirect}
use Rattle.rv64_instr.specs.declared.op.ImmediateOp.TheVariants.{Addi, Slti, Sltiu, Xori, Ori, Andi, Slli, Srli, Srai, Addiw, Slliw, Srliw, Sraiw}
use Rattle.read_item.specs.declared.place.OperandKind.{OperandKind}
use Rattle.read_item.specs.declared.place.OperandKind.TheVariants.{Register, Object, Slot, Number, Block, Symbol, Mask, Implicit}

-- the position of an address: a register, or `%stack.N` as a spill slot or as a stack object
abbrev pub address : (slot : Bool) → OperandKind
address slot = if slot then Slot else Object

-- the position of the first source of an instruction with an immediate: only `ADDI` takes a stack object there, to compute an address in it
abbrev pub base : ImmediateOp → OperandKind
base Addi = Object
base Slti = Register
base Sltiu = Register
base Xori = Register
base Ori = Register
base Andi = Register
base Slli = Register
base Srli = Register
base Srai = Register
base Addiw = Register
base Slliw = Register
base Srliw = Register
base Sraiw = Register

-- the positions after the opcode, without implicit operands. `slot` is whether `%stack.N` in an address is a spill slot
abbrev pub places : Op → (slot : Bool) → List OperandKind
places (Registers op) slot = Register ∷ Register ∷ []
places (Immediate op) slot = base op ∷ Number ∷ []
places Lui slot = Number ∷ []
places (Branch op) slot = Register ∷ Register ∷ Block ∷ []
places (Load op) slot = address slot ∷ Number ∷ []
places (Store op) slot = Register ∷ address slot ∷ Number ∷ []
places Copy slot = Register ∷ []
places PseudoBr slot = Block ∷ []
places PseudoCall slot = Symbol ∷ Mask ∷ []
places PseudoRet slot = []
places PseudoCallIndirect slot = Register ∷ Mask ∷ []
places PseudoTail slot = Symbol ∷ []
places PseudoTailIndirect slot = Implicit ∷ []
places NoReturnCall slot = Symbol ∷ Mask ∷ []
places NoReturnCallIndirect slot = Implicit ∷ Mask ∷ []

-- the first position; after the last come implicit registers only
abbrev pub front : List OperandKind → OperandKind
front [] = Implicit
front (p ∷ ps) = p

-- the positions after the first
abbrev pub behind : List OperandKind → List OperandKind
behind [] = []
behind (p ∷ ps) = ps
