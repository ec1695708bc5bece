-- The slots that a call passes are those that its operands name.
use Rattle.std.proofs.Common.{◌≡◌, ℕ, zero, suc, List, [], ◌∷◌, refl, ap, sym, subst, ◌∙◌}
use Rattle.std.specs.Prelude.{◌||◌, Bool, nat_eq}
use Rattle.std.specs.List.{list_any}
use Rattle.rv64_instr.specs.declared.op.Op.{Op}
use Rattle.rv64_instr.specs.declared.op.Op.TheVariants.{Registers, Immediate, Lui, Branch, Load, Store, Copy}
use Rattle.rv64_instr.specs.declared.op.Op.TheVariants.{PseudoBr, PseudoCall, PseudoRet, PseudoCallIndirect}
use Rattle.rv64_instr.specs.declared.op.Op.TheVariants.{PseudoTail, PseudoTailIndirect, NoReturnCall, NoReturnCallIndirect}
use Rattle.rv64_instr.specs.declared.op.ImmediateOp.{ImmediateOp}
use Rattle.rv64_instr.specs.declared.op.ImmediateOp.TheVariants.{Addi}
use Rattle.rv64_instr.specs.declared.operand.Operand.{Operand}
use Rattle.rv64_instr.specs.declared.operand.Operand.TheVariants.{Def, Use, Imm, Slot, Object, Block, Symbol, Outgoing}
use Rattle.rv64_instr.specs.declared.decoded.Callee as decoded
use Rattle.rv64_instr.specs.declared.decoded.Decoded.TheVariants as shown
use Rattle.rv64_instr.specs.declared.place.Place.TheVariants as place
use Rattle.rv64_instr.specs.Decoded.{Shows}
use Rattle.rv64_instr.specs.Instruction.{Instruction}
use Rattle.rv64_instr.specs.Arithmetic.{word}
use Rattle.rv64_instr.specs.LocationEffects.{is_outgoing, defines_of}
use Rattle.rv64_instr.specs.Row.{Row, CallSite, Calls, row_by, row_of, immediate_row, object_row, move_row, implicit_uses, outgoing_words}
use Rattle.rv64_instr.specs.Row.{held_tail, held_gone}

-- if it is a call, it passes these slots
abbrev pub PassesOnly : List ℕ → Row → Type 0
PassesOnly outgoing (Calls call) = call.outgoing ≡ outgoing
PassesOnly outgoing _ = Unit {0}

immediate : (outgoing : List ℕ) (op : ImmediateOp) (rd a n : ℕ) → PassesOnly outgoing (immediate_row op rd a n)
immediate outgoing Addi rd zero n = tt
immediate outgoing Addi rd (suc r) zero = tt
immediate outgoing op rd a n = tt

object : (outgoing : List ℕ) (op : ImmediateOp) (rd n offset : ℕ) → PassesOnly outgoing (object_row op rd n offset)
object outgoing Addi rd n offset = tt
object outgoing _ rd n offset = tt

copies : (outgoing : List ℕ) (rd rs : ℕ) → PassesOnly outgoing (move_row rd rs)
copies outgoing rd zero = tt
copies outgoing rd (suc r) = tt

held_tail_passes : (outgoing xs : List ℕ) → PassesOnly outgoing (held_tail xs)
held_tail_passes outgoing [] = tt
held_tail_passes outgoing (r ∷ xs) = tt

held_gone_passes : (outgoing xs : List ℕ) → PassesOnly outgoing (held_gone xs)
held_gone_passes outgoing [] = tt
held_gone_passes outgoing (r ∷ xs) = tt

by_op : (op : Op) (os : List Operand) → PassesOnly (outgoing_words os) (row_by op os)
by_op (Registers op) (Def rd ∷ Use a ∷ Use b ∷ rest) = tt
by_op (Immediate op) (Def rd ∷ Use a ∷ Imm i ∷ rest) = immediate (outgoing_words rest) op rd a (word i)
by_op (Immediate op) (Def rd ∷ Object n ∷ Imm i ∷ rest) = object (outgoing_words rest) op rd n (word i)
by_op Lui (Def rd ∷ Imm i ∷ rest) = tt
by_op (Branch op) (Use a ∷ Use b ∷ Block target ∷ rest) = tt
by_op (Load op) (Def rd ∷ Use base ∷ Imm i ∷ rest) = tt
by_op (Load op) (Def rd ∷ Slot n ∷ rest) = tt
by_op (Load op) (Def rd ∷ Object n ∷ Imm i ∷ rest) = tt
by_op (Store op) (Use rs ∷ Use base ∷ Imm i ∷ rest) = tt
by_op (Store op) (Use rs ∷ Slot n ∷ rest) = tt
by_op (Store op) (Use rs ∷ Object n ∷ Imm i ∷ rest) = tt
by_op Copy (Def rd ∷ Use rs ∷ rest) = copies (outgoing_words rest) rd rs
by_op PseudoBr (Block target ∷ rest) = tt
by_op PseudoCall (Symbol name ∷ rest) = refl
by_op PseudoRet rest = tt
by_op PseudoCallIndirect (Use r ∷ rest) = refl
by_op PseudoTail (Symbol name ∷ rest) = tt
by_op PseudoTailIndirect rest = held_tail_passes (outgoing_words rest) (implicit_uses rest)
by_op NoReturnCall (Symbol name ∷ rest) = tt
by_op NoReturnCallIndirect rest = held_gone_passes (outgoing_words rest) (implicit_uses rest)
by_op _ _ = tt

pub outgoing_are : (i : Instruction) (call : CallSite) → row_of i ≡ Calls call → call.outgoing ≡ outgoing_words i.operands
outgoing_are i call e = subst (PassesOnly (outgoing_words i.operands)) e (by_op i.op i.operands)

-- an operand passes the slot exactly if it is among these
pub passes_any : (n : ℕ) (os : List Operand) → list_any (is_outgoing n) os ≡ list_any (nat_eq n) (outgoing_words os)
passes_any n [] = refl
passes_any n (Outgoing m ∷ os) = ap (λ (b : Bool). nat_eq n m || b) (passes_any n os)
passes_any n (o ∷ os) = passes_any n os

pub passed_by : (i : Instruction) (call : CallSite) → row_of i ≡ Calls call → (n : ℕ) →
    list_any (is_outgoing n) i.operands ≡ list_any (nat_eq n) call.outgoing
passed_by i call e n = passes_any n i.operands ∙ ap (list_any (nat_eq n)) (sym (outgoing_are i call e))

-- what a call passes it sets
pub passed_set : (i : Instruction) (callee : decoded.Callee) → Shows (shown.Calls callee) (row_of i) → (n : ℕ) →
    list_any (is_outgoing n) i.operands ≡ defines_of (row_of i) (place.Slot n)
passed_set i callee shows n = passed_by i shows.0 shows.1 n ∙ sym (ap (λ (r : Row). defines_of r (place.Slot n)) shows.1)
