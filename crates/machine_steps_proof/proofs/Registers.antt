-- What the rows of a function with its frame read and set: physical registers, and x2 nowhere where no operand is x2.
use Rattle.std.proofs.Common.{◌≡◌, ℕ, zero, suc, ◌<◌, List, [], ◌∷◌, All, Bool, true, false, cond, nat_eq, arith}
use Rattle.std.proofs.lemmas.List.Elements.{All-nil, All-cons, All-head, All-tail}
use Rattle.rv64_instr.specs.declared.op.Op.{Op}
use Rattle.rv64_instr.specs.declared.op.Op.TheVariants.{Registers, Immediate, Lui, Branch, Load, Store, Copy}
use Rattle.rv64_instr.specs.declared.op.Op.TheVariants.{PseudoBr, PseudoCall, PseudoRet, PseudoCallIndirect}
use Rattle.rv64_instr.specs.declared.op.Op.TheVariants.{PseudoTail, PseudoTailIndirect, NoReturnCall, NoReturnCallIndirect}
use Rattle.rv64_instr.specs.declared.op.ImmediateOp.{ImmediateOp}
use Rattle.rv64_instr.specs.declared.op.ImmediateOp.TheVariants.{Addi}
use Rattle.rv64_instr.specs.declared.operand.Operand.{Operand}
use Rattle.rv64_instr.specs.declared.operand.Operand.TheVariants.{Def, Use, ImplicitDef, ImplicitUse, Imm, Slot, Object, Part, Block, Symbol, Mask, Outgoing}
use Rattle.rv64_instr.specs.declared.operand.Operand.TheVariants.{GlobalRegisters}
use Rattle.rv64_instr.specs.Arithmetic.{word}
use Rattle.rv64_instr.specs.Instruction.{Instruction}
use Rattle.rv64_instr.specs.Row.{Row, Fixes, Moves, Sets, Addresses, Loads, LoadsSlot, row_of}
use Rattle.rv64_instr.specs.Row.{row_by, move_row, immediate_row, object_row, implicit_uses, held_tail, held_gone}
use Rattle.rv64_instr.specs.DefsAndUses.{reads}
use Rattle.mir_func.specs.SoundFrame.{IsPhysical}
use Rattle.mir_func.specs.Sound.{IsNotPointer}

abbrev Low : ℕ → Type 0
Low r = r < 32

one : (r : ℕ) → r < 32 → All Low (r ∷ [])
one r h = All-cons Low r [] h (All-nil Low)

two : (a b : ℕ) → a < 32 → b < 32 → All Low (a ∷ b ∷ [])
two a b h k = All-cons Low a (b ∷ []) h (one b k)

none : All Low []
none = All-nil Low

first : (x : Operand) (rest : List Operand) → All IsPhysical (x ∷ rest) → IsPhysical x
first x rest h = All-head IsPhysical x rest h

uses_physical : (os : List Operand) → All IsPhysical os → All Low (implicit_uses os)
uses_physical [] h = none
uses_physical (ImplicitUse r ∷ rest) h = by_test (nat_eq r 2) (first (ImplicitUse r) rest h) (uses_physical rest (All-tail IsPhysical (ImplicitUse r) rest
    h)) where
      by_test : (b : Bool) → r < 32 → All Low (implicit_uses rest) → All Low (cond b (implicit_uses rest) (r ∷ implicit_uses rest))
      by_test true here more = more
      by_test false here more = All-cons Low r (implicit_uses rest) here more
uses_physical (Def r ∷ rest) h = uses_physical rest (All-tail IsPhysical (Def r) rest h)
uses_physical (Use r ∷ rest) h = uses_physical rest (All-tail IsPhysical (Use r) rest h)
uses_physical (ImplicitDef r ∷ rest) h = uses_physical rest (All-tail IsPhysical (ImplicitDef r) rest h)
uses_physical (Imm i ∷ rest) h = uses_physical rest (All-tail IsPhysical (Imm i) rest h)
uses_physical (Slot n ∷ rest) h = uses_physical rest (All-tail IsPhysical (Slot n) rest h)
uses_physical (Object n ∷ rest) h = uses_physical rest (All-tail IsPhysical (Object n) rest h)
uses_physical (Part half y ∷ rest) h = uses_physical rest (All-tail IsPhysical (Part half y) rest h)
uses_physical (Block n ∷ rest) h = uses_physical rest (All-tail IsPhysical (Block n) rest h)
uses_physical (Symbol n ∷ rest) h = uses_physical rest (All-tail IsPhysical (Symbol n) rest h)
uses_physical (Mask ∷ rest) h = uses_physical rest (All-tail IsPhysical Mask rest h)
uses_physical (Outgoing n ∷ rest) h = uses_physical rest (All-tail IsPhysical (Outgoing n) rest h)
uses_physical (GlobalRegisters ∷ rest) h = uses_physical rest (All-tail IsPhysical GlobalRegisters rest h)

immediate_physical : (op : ImmediateOp) (rd a n : ℕ) → a < 32 → All Low (reads (immediate_row op rd a n))
immediate_physical Addi rd zero n h = none
immediate_physical Addi rd (suc r) zero h = one (suc r) h
immediate_physical Addi rd (suc r) (suc n) h = one (suc r) h
immediate_physical _ rd a n h = one a h

object_physical : (op : ImmediateOp) (rd n offset : ℕ) → All Low (reads (object_row op rd n offset))
object_physical Addi rd n offset = none
object_physical _ rd n offset = none

move_physical : (rd rs : ℕ) → rs < 32 → All Low (reads (move_row rd rs))
move_physical rd zero h = none
move_physical rd (suc r) h = one (suc r) h

second : (x y : Operand) (rest : List Operand) → All IsPhysical (x ∷ y ∷ rest) → IsPhysical y
second x y rest h = first y rest (All-tail IsPhysical x (y ∷ rest) h)

third : (x y z : Operand) (rest : List Operand) → All IsPhysical (x ∷ y ∷ z ∷ rest) → IsPhysical z
third x y z rest h = second y z rest (All-tail IsPhysical x (y ∷ z ∷ rest) h)

held_tail_physical : (xs : List ℕ) → All Low xs → All Low (reads (held_tail xs))
held_tail_physical [] h = none
held_tail_physical (r ∷ xs) h = h

held_gone_physical : (xs : List ℕ) → All Low xs → All Low (reads (held_gone xs))
held_gone_physical [] h = none
held_gone_physical (r ∷ xs) h = h

reads_by : (op : Op) (os : List Operand) → All IsPhysical os → All Low (reads (row_by op os))
reads_by (Registers op) (Def rd ∷ Use a ∷ Use b ∷ rest) h =
    two a b (second (Def rd) (Use a) (Use b ∷ rest) h) (third (Def rd) (Use a) (Use b) rest h)
reads_by (Immediate op) (Def rd ∷ Use a ∷ Imm i ∷ rest) h = immediate_physical op rd a (word i) (second (Def rd) (Use a) (Imm i ∷ rest) h)
reads_by (Immediate op) (Def rd ∷ Object n ∷ Imm i ∷ rest) h = object_physical op rd n (word i)
reads_by (Immediate op) (Def rd ∷ Use a ∷ Part half y ∷ rest) h = one a (second (Def rd) (Use a) (Part half y ∷ rest) h)
reads_by Lui (Def rd ∷ Imm i ∷ rest) h = none
reads_by Lui (Def rd ∷ Part half y ∷ rest) h = one 0 (omega arith)
reads_by (Branch op) (Use a ∷ Use b ∷ Block target ∷ rest) h = two a b (first (Use a) (Use b ∷ Block target ∷ rest) h) (second (Use a) (Use b) (Block target
    ∷ rest) h)
reads_by (Load op) (Def rd ∷ Use base ∷ Imm i ∷ rest) h = one base (second (Def rd) (Use base) (Imm i ∷ rest) h)
reads_by (Load op) (Def rd ∷ Slot n ∷ rest) h = none
reads_by (Load op) (Def rd ∷ Object n ∷ Imm i ∷ rest) h = none
reads_by (Load op) (Def rd ∷ Use base ∷ Part half y ∷ rest) h = one base (second (Def rd) (Use base) (Part half y ∷ rest) h)
reads_by (Store op) (Use rs ∷ Use base ∷ Imm i ∷ rest) h = two rs base (first (Use rs) (Use base ∷ Imm i ∷ rest) h) (second (Use rs) (Use base) (Imm i ∷
    rest) h)
reads_by (Store op) (Use rs ∷ Slot n ∷ rest) h = one rs (first (Use rs) (Slot n ∷ rest) h)
reads_by (Store op) (Use rs ∷ Object n ∷ Imm i ∷ rest) h = one rs (first (Use rs) (Object n ∷ Imm i ∷ rest) h)
reads_by (Store op) (Use rs ∷ Use base ∷ Part half y ∷ rest) h =
    two rs base (first (Use rs) (Use base ∷ Part half y ∷ rest) h) (second (Use rs) (Use base) (Part half y ∷ rest) h)
reads_by Copy (Def rd ∷ Use rs ∷ rest) h = move_physical rd rs (second (Def rd) (Use rs) rest h)
reads_by PseudoBr (Block target ∷ rest) h = none
reads_by PseudoCall (Symbol name ∷ rest) h = uses_physical rest (All-tail IsPhysical (Symbol name) rest h)
reads_by PseudoRet os h = uses_physical os h
reads_by PseudoCallIndirect (Use r ∷ rest) h =
    All-cons Low r (implicit_uses rest) (first (Use r) rest h) (uses_physical rest (All-tail IsPhysical (Use r) rest h))
reads_by PseudoTail (Symbol name ∷ rest) h = uses_physical rest (All-tail IsPhysical (Symbol name) rest h)
reads_by PseudoTailIndirect os h = held_tail_physical (implicit_uses os) (uses_physical os h)
reads_by NoReturnCall (Symbol name ∷ rest) h = uses_physical rest (All-tail IsPhysical (Symbol name) rest h)
reads_by NoReturnCallIndirect os h = held_gone_physical (implicit_uses os) (uses_physical os h)
reads_by _ _ h = none

-- what is read is physical where the operands are
pub reads_physical : (i : Instruction) → All IsPhysical i.operands → All (λ r. r < 32) (reads (row_of i))
reads_physical i h = reads_by i.op i.operands h

-- the row doesn't set x2
abbrev pub LeavesTwo : Row → Type 0
LeavesTwo (Fixes rd n) = rd ≡ 2 → ⊥
LeavesTwo (Moves rd rs) = rd ≡ 2 → ⊥
LeavesTwo (Sets rd op a b) = rd ≡ 2 → ⊥
LeavesTwo (Addresses rd n offset) = rd ≡ 2 → ⊥
LeavesTwo (Loads rd op base offset) = rd ≡ 2 → ⊥
LeavesTwo (LoadsSlot rd n) = rd ≡ 2 → ⊥
LeavesTwo _ = Unit {0}

defines : (rd : ℕ) (rest : List Operand) → All IsNotPointer (Def rd ∷ rest) → rd ≡ 2 → ⊥
defines rd rest h = All-head IsNotPointer (Def rd) rest h

immediate_leaves : (op : ImmediateOp) (rd a n : ℕ) → (rd ≡ 2 → ⊥) → LeavesTwo (immediate_row op rd a n)
immediate_leaves Addi rd zero n h = h
immediate_leaves Addi rd (suc r) zero h = h
immediate_leaves Addi rd (suc r) (suc n) h = h
immediate_leaves _ rd a n h = h

object_leaves : (op : ImmediateOp) (rd n offset : ℕ) → (rd ≡ 2 → ⊥) → LeavesTwo (object_row op rd n offset)
object_leaves Addi rd n offset h = h
object_leaves _ rd n offset h = tt

move_leaves : (rd rs : ℕ) → (rd ≡ 2 → ⊥) → LeavesTwo (move_row rd rs)
move_leaves rd zero h = h
move_leaves rd (suc r) h = h

held_tail_leaves : (xs : List ℕ) → LeavesTwo (held_tail xs)
held_tail_leaves [] = tt
held_tail_leaves (r ∷ xs) = tt

held_gone_leaves : (xs : List ℕ) → LeavesTwo (held_gone xs)
held_gone_leaves [] = tt
held_gone_leaves (r ∷ xs) = tt

leaves_by : (op : Op) (os : List Operand) → All IsNotPointer os → LeavesTwo (row_by op os)
leaves_by (Registers op) (Def rd ∷ Use a ∷ Use b ∷ rest) h = defines rd (Use a ∷ Use b ∷ rest) h
leaves_by (Immediate op) (Def rd ∷ Use a ∷ Imm i ∷ rest) h = immediate_leaves op rd a (word i) (defines rd (Use a ∷ Imm i ∷ rest) h)
leaves_by (Immediate op) (Def rd ∷ Object n ∷ Imm i ∷ rest) h = object_leaves op rd n (word i) (defines rd (Object n ∷ Imm i ∷ rest) h)
leaves_by (Immediate op) (Def rd ∷ Use a ∷ Part half y ∷ rest) h = defines rd (Use a ∷ Part half y ∷ rest) h
leaves_by Lui (Def rd ∷ Imm i ∷ rest) h = defines rd (Imm i ∷ rest) h
leaves_by Lui (Def rd ∷ Part half y ∷ rest) h = defines rd (Part half y ∷ rest) h
leaves_by (Branch op) (Use a ∷ Use b ∷ Block target ∷ rest) h = tt
leaves_by (Load op) (Def rd ∷ Use base ∷ Imm i ∷ rest) h = defines rd (Use base ∷ Imm i ∷ rest) h
leaves_by (Load op) (Def rd ∷ Slot n ∷ rest) h = defines rd (Slot n ∷ rest) h
leaves_by (Load op) (Def rd ∷ Object n ∷ Imm i ∷ rest) h = defines rd (Object n ∷ Imm i ∷ rest) h
leaves_by (Load op) (Def rd ∷ Use base ∷ Part half y ∷ rest) h = defines rd (Use base ∷ Part half y ∷ rest) h
leaves_by (Store op) (Use rs ∷ Use base ∷ Imm i ∷ rest) h = tt
leaves_by (Store op) (Use rs ∷ Slot n ∷ rest) h = tt
leaves_by (Store op) (Use rs ∷ Object n ∷ Imm i ∷ rest) h = tt
leaves_by Copy (Def rd ∷ Use rs ∷ rest) h = move_leaves rd rs (defines rd (Use rs ∷ rest) h)
leaves_by PseudoBr (Block target ∷ rest) h = tt
leaves_by PseudoCall (Symbol name ∷ rest) h = tt
leaves_by PseudoRet os h = tt
leaves_by PseudoCallIndirect (Use r ∷ rest) h = tt
leaves_by PseudoTail (Symbol name ∷ rest) h = tt
leaves_by PseudoTailIndirect os h = held_tail_leaves (implicit_uses os)
leaves_by NoReturnCall (Symbol name ∷ rest) h = tt
leaves_by NoReturnCallIndirect os h = held_gone_leaves (implicit_uses os)
leaves_by _ _ h = tt

-- where no explicit operand is x2
pub leaves_two : (i : Instruction) → All IsNotPointer i.operands → LeavesTwo (row_of i)
leaves_two i h = leaves_by i.op i.operands h
