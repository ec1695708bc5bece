-- The items of generated functions.
use Rattle.std.specs.Prelude.{ℕ, ◌+◌, pos, false, List, [], ◌∷◌, Option, Some, None, slice_index}
use Rattle.rv64_instr.specs.declared.op.Op.TheVariants.{Registers, Immediate, Branch, Load, Store, Copy, PseudoBr, PseudoRet}
use Rattle.rv64_instr.specs.declared.op.RegisterOp.TheVariants.{Add}
use Rattle.rv64_instr.specs.declared.op.ImmediateOp.TheVariants.{Addi}
use Rattle.rv64_instr.specs.declared.op.BranchOp.TheVariants.{Beq}
use Rattle.rv64_instr.specs.declared.op.LoadOp.TheVariants.{Ld}
use Rattle.rv64_instr.specs.declared.op.StoreOp.TheVariants.{Sd}
use Rattle.rv64_instr.specs.declared.operand.Operand.TheVariants.{Def, Use, ImplicitUse, Imm, Slot as OfSlot, Block as OfBlock}
use Rattle.rv64_instr.specs.declared.place.Place.TheVariants.{Register}
use Rattle.mir_func.specs.declared.item.ItemKind.{ItemKind}
use Rattle.mir_func.specs.declared.item.ItemKind.TheVariants.{Code, Mark, Phi}
use Rattle.mir_func.specs.declared.variable.VarId.{VarId}
use Rattle.mir_func.specs.declared.variable.MarkValue.TheVariants.{Pair}

-- the registers to choose from, without x10, the register of the argument and the result
abbrev pub REGISTERS : List ℕ
REGISTERS = 8 ∷ 9 ∷ 11 ∷ 12 ∷ 13 ∷ 18 ∷ 19 ∷ 20 ∷ []

-- the register of a random number below 8
abbrev pub register_of : (drawn : ℕ) → ℕ
register_of n = slice_index REGISTERS n

-- the variable of a random number below 4: one of the nodes !10 to !13, as a whole
abbrev pub variable_of : (drawn : ℕ) → VarId
variable_of n = record { node = 10 + n; inlined_at = None; fragment = None }

-- `rd = ADD rs, rt`, with a debug instruction number
abbrev pub add : (rd rs rt number : ℕ) → ItemKind
add rd rs rt k = Code (record { op = Registers Add; operands = Def rd ∷ Use rs ∷ Use rt ∷ []; volatile = false }) (Some k)

-- `rd = COPY rs`
abbrev pub copy : (rd rs : ℕ) → (number : Option ℕ) → ItemKind
copy rd rs k = Code (record { op = Copy; operands = Def rd ∷ Use rs ∷ []; volatile = false }) k

-- `rd = ADDI $x0, n`, with a debug instruction number
abbrev pub constant : (rd n number : ℕ) → ItemKind
constant rd n k = Code (record { op = Immediate Addi; operands = Def rd ∷ Use 0 ∷ Imm (pos n) ∷ []; volatile = false }) (Some k)

-- `SD rs, %stack.N, 0`
abbrev pub store : (rs slot : ℕ) → ItemKind
store rs n = Code (record { op = Store Sd; operands = Use rs ∷ OfSlot n ∷ Imm (pos 0) ∷ []; volatile = false }) None

-- `rd = LD %stack.N, 0`, with a debug instruction number
abbrev pub load : (rd slot number : ℕ) → ItemKind
load rd n k = Code (record { op = Load Ld; operands = Def rd ∷ OfSlot n ∷ Imm (pos 0) ∷ []; volatile = false }) (Some k)

-- `DBG_PHI rs, number`
abbrev pub phi : (rs number : ℕ) → ItemKind
phi rs k = Phi (Some (Register rs)) k

-- a DBG_INSTR_REF to operand 0 of a debug instruction number
abbrev pub mark : VarId → (number : ℕ) → ItemKind
mark v k = Mark v (Pair (record { number = k; operand = 0 }))

-- `BEQ rs, $x0, %bb.N`
abbrev pub branch : (rs block : ℕ) → ItemKind
branch rs n = Code (record { op = Branch Beq; operands = Use rs ∷ Use 0 ∷ OfBlock n ∷ []; volatile = false }) None

-- `PseudoBR %bb.N`
abbrev pub jump : (block : ℕ) → ItemKind
jump n = Code (record { op = PseudoBr; operands = OfBlock n ∷ []; volatile = false }) None

-- `PseudoRET implicit $x10`
abbrev pub return : ItemKind
return = Code (record { op = PseudoRet; operands = ImplicitUse 10 ∷ []; volatile = false }) None
