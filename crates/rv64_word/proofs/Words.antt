-- The word of an instruction does what the instruction does.
use Rattle.std.proofs.Common.{◌≡◌, ◌-◌, ◌<◌, ◌≤◌, ◌⊎◌, inl, inr, ℕ, zero, suc, ℤ, pos, negsuc, ◌+ℤ◌, Bool, true, false, cond, List, ◌∷◌, Option}
use Rattle.std.proofs.Common.{Some, None, refl, sym, ap, subst, arith, []}
use Rattle.std.specs.Prelude.{IfSome, IsTrue, option_and_then}
use Rattle.std.proofs.lemmas.Bool.{cases_lt}
use Rattle.std.proofs.lemmas.Int.{ints}
use Rattle.rv64_instr.specs.Instruction.{Instruction}
use Rattle.rv64_instr.specs.declared.op.Op.{Op}
use Rattle.rv64_instr.specs.declared.op.Op.TheVariants.{Registers, Immediate, Lui, Branch, Load, Store}
use Rattle.rv64_instr.specs.declared.op.Op.TheVariants.{Copy, PseudoBr, PseudoRet, PseudoCallIndirect, PseudoTailIndirect, NoReturnCallIndirect}
use Rattle.rv64_instr.specs.declared.op.ImmediateOp.{ImmediateOp}
use Rattle.rv64_instr.specs.declared.op.ImmediateOp.TheVariants.{Addi}
use Rattle.rv64_instr.specs.declared.op.LoadOp.{LoadOp}
use Rattle.rv64_instr.specs.declared.op.StoreOp.{StoreOp}
use Rattle.rv64_instr.specs.declared.operand.Operand.{Operand}
use Rattle.rv64_instr.specs.declared.operand.Operand.TheVariants.{Def, Use, Imm, Slot, Object, Part, Block}
use Rattle.rv64_instr.specs.Row.{PointedBy}
use Rattle.rv64_instr.specs.Arithmetic.{word}
use Rattle.rv64_instr.specs.Row.{Row, Loads, Stores, row_of, row_by, add_row, immediate_row, move_row}
use Rattle.rv64_instr.specs.Row.{number_row, object_row, load_row, store_row, implicit_uses, held_tail, held_gone}
use Rattle.rv64_word.specs.declared.machine_op.MachineOp.{MachineOp}
use Rattle.rv64_word.specs.declared.word_op.WordOp.TheVariants as op
use Rattle.rv64_word.specs.MachineOp.{is_encodable}
use Rattle.rv64_word.specs.MachineRow.{MachineRow, Does, machine_row, placed, at_offset, from_object}
use Rattle.rv64_word.specs.Lowering.{fields_of, immediate_fields, object_fields, load_fields, store_fields, in_range, lowered, machine_op, held_fields}

pub apart : (m : MachineOp) → None ≡ Some m → ⊥
apart m e = let f : ⊥ = cc in f

pub same : (a b : MachineOp) → Some a ≡ Some b → a ≡ b
same a b e = cc

-- what holds of an operation holds of it where its fields are in range
kept_at : (Q : MachineOp → Type 0) (m : MachineOp) (b : Bool) → Q m → IfSome (cond b (Some m) None) Q
kept_at Q m true q = q
kept_at Q m false q = tt

pub kept : (Q : MachineOp → Type 0) (m : MachineOp) → Q m → IfSome (in_range m) Q
kept Q m q = kept_at Q m (is_encodable m) q

fits_at : (m : MachineOp) (b : Bool) → is_encodable m ≡ b → IfSome (cond b (Some m) None) (λ x. IsTrue (is_encodable x))
fits_at m true e = e
fits_at m false e = tt

in_range_fits : (m : MachineOp) → IfSome (in_range m) (λ x. IsTrue (is_encodable x))
in_range_fits m = fits_at m (is_encodable m) refl

placed_add : (rd a n target object : ℕ) (part : ℤ) → placed target object part (add_row rd a n) ≡ Does (add_row rd a n)
placed_add rd zero n target object part = refl
placed_add rd (suc a) zero target object part = refl
placed_add rd (suc a) (suc n) target object part = refl

-- an operation with a number and registers stays as it is
placed_immediate : (o : ImmediateOp) (rd a n target object : ℕ) (part : ℤ) →
    placed target object part (immediate_row o rd a n) ≡ Does (immediate_row o rd a n)
placed_immediate Addi rd a n target object part = placed_add rd a n target object part
placed_immediate o rd a n target object part = refl

copied : (rd rs address target object : ℕ) (part : ℤ) →
    machine_row address (machine_op (op.Immediate Addi) rd rs 0 (pos 0)) ≡ placed target object part (move_row rd rs)
copied rd zero address target object part = refl
copied rd (suc rs) address target object part = refl

-- an object's offset less a number, above zero or below
less : (object n : ℕ) → (object < suc n) ⊎ (suc n ≤ object) → word (pos object +ℤ negsuc n) ≡ from_object object (word (negsuc n))
less object n (inl h) =
    let e : pos object +ℤ negsuc n ≡ negsuc (n - object) = omega (arith, ints) in
    rw e (omega arith)
less object n (inr h) =
    let e : pos object +ℤ negsuc n ≡ pos (object - suc n) = omega (arith, ints) in
    rw e (omega arith)

-- an object's offset and a number are one number modulo 2^64
from_both : (object : ℕ) (i : ℤ) → word (pos object +ℤ i) ≡ from_object object (word i)
from_both object (pos n) = omega arith
from_both object (negsuc n) = less object n (cases_lt object (suc n))

at_same : (address : ℕ) (row : MachineRow) (m n : MachineOp) → Some m ≡ Some n → machine_row address m ≡ row → machine_row address n ≡ row
at_same address row m n e h = subst (λ (x : MachineOp). machine_row address x ≡ row) (same m n e) h

-- what the fields are of does what the row does
abbrev Acts : Option MachineOp → ℤ → (object address : ℕ) → Row → Type 0
Acts found offset object address row = (m : MachineOp) → found ≡ Some m → machine_row address m ≡ placed (at_offset address offset) object (pos 0) row

object_acts : (o : ImmediateOp) (rd n : ℕ) (i : ℤ) (offset : ℤ) (object address : ℕ) →
    Acts (object_fields o rd (pos object +ℤ i)) offset object address (object_row o rd n (word i))
object_acts Addi rd n i offset object address m e = at_same address _ _ m e (ap (λ k. Does (add_row rd 2 k)) (from_both object i))
object_acts _ rd n i offset object address m e = absurd (apart m e)

immediate_acts : (o : ImmediateOp) (operands : List Operand) (offset : ℤ) (object address : ℕ) →
    Acts (immediate_fields o operands object) offset object address (number_row o operands)
immediate_acts o (Def rd ∷ Use a ∷ Imm i ∷ rest) offset object address m e =
    at_same address _ _ m e (sym (placed_immediate o rd a (word i) (at_offset address offset) object (pos 0)))
immediate_acts o (Def rd ∷ Object n ∷ Imm i ∷ rest) offset object address m e = object_acts o rd n i offset object address m e
immediate_acts o (Def rd ∷ Use a ∷ Part half y ∷ rest) offset object address m e = at_same address _ _ m e refl
immediate_acts o operands offset object address m e = absurd (apart m e)

load_acts : (o : LoadOp) (operands : List Operand) (offset : ℤ) (object address : ℕ) →
    Acts (load_fields o operands object) offset object address (load_row o operands)
load_acts o (Def rd ∷ Use base ∷ Imm i ∷ rest) offset object address m e = at_same address _ _ m e refl
load_acts o (Def rd ∷ Slot n ∷ rest) offset object address m e = at_same address _ _ m e refl
load_acts o (Def rd ∷ Object n ∷ Imm i ∷ rest) offset object address m e =
    at_same address _ _ m e (ap (λ k. Does (Loads rd o (PointedBy 2) k)) (from_both object i))
load_acts o (Def rd ∷ Use base ∷ Part half y ∷ rest) offset object address m e = at_same address _ _ m e refl
load_acts o operands offset object address m e = absurd (apart m e)

store_acts : (o : StoreOp) (operands : List Operand) (offset : ℤ) (object address : ℕ) →
    Acts (store_fields o operands object) offset object address (store_row o operands)
store_acts o (Use rs ∷ Use base ∷ Imm i ∷ rest) offset object address m e = at_same address _ _ m e refl
store_acts o (Use rs ∷ Slot n ∷ rest) offset object address m e = at_same address _ _ m e refl
store_acts o (Use rs ∷ Object n ∷ Imm i ∷ rest) offset object address m e =
    at_same address _ _ m e (ap (λ k. Does (Stores o rs (PointedBy 2) k)) (from_both object i))
store_acts o (Use rs ∷ Use base ∷ Part half y ∷ rest) offset object address m e = at_same address _ _ m e refl
store_acts o operands offset object address m e = absurd (apart m e)

held_tail_acts : (xs : List ℕ) (offset : ℤ) (object address : ℕ) → Acts (held_fields 0 xs) offset object address (held_tail xs)
held_tail_acts [] offset object address m e = absurd (apart m e)
held_tail_acts (r ∷ xs) offset object address m e = at_same address _ _ m e refl

held_gone_acts : (xs : List ℕ) (offset : ℤ) (object address : ℕ) → Acts (held_fields 1 xs) offset object address (held_gone xs)
held_gone_acts [] offset object address m e = absurd (apart m e)
held_gone_acts (r ∷ xs) offset object address m e = at_same address _ _ m e refl

fields_act : (o : Op) (operands : List Operand) (offset : ℤ) (object address : ℕ) →
    Acts (fields_of o operands offset object) offset object address (row_by o operands)
fields_act (Registers o) (Def rd ∷ Use a ∷ Use b ∷ rest) offset object address m e = at_same address _ _ m e refl
fields_act (Immediate o) operands offset object address m e = immediate_acts o operands offset object address m e
fields_act Lui (Def rd ∷ Imm i ∷ rest) offset object address m e = at_same address _ _ m e refl
fields_act Lui (Def rd ∷ Part half y ∷ rest) offset object address m e = at_same address _ _ m e refl
fields_act (Branch o) (Use a ∷ Use b ∷ Block n ∷ rest) offset object address m e = at_same address _ _ m e refl
fields_act (Load o) operands offset object address m e = load_acts o operands offset object address m e
fields_act (Store o) operands offset object address m e = store_acts o operands offset object address m e
fields_act Copy (Def rd ∷ Use rs ∷ rest) offset object address m e =
    at_same address _ _ m e (copied rd rs address (at_offset address offset) object (pos 0))
fields_act PseudoBr (Block n ∷ rest) offset object address m e = at_same address _ _ m e refl
fields_act PseudoRet rest offset object address m e = at_same address _ _ m e refl
fields_act PseudoCallIndirect (Use r ∷ rest) offset object address m e = at_same address _ _ m e refl
fields_act PseudoTailIndirect rest offset object address m e = held_tail_acts (implicit_uses rest) offset object address m e
fields_act NoReturnCallIndirect rest offset object address m e = held_gone_acts (implicit_uses rest) offset object address m e
fields_act o operands offset object address m e = absurd (apart m e)

fits_by : (o : Option MachineOp) → IfSome (option_and_then in_range o) (λ m. IsTrue (is_encodable m))
fits_by None = tt
fits_by (Some m) = in_range_fits m

pub lowered_fits : (offset : ℤ) (object : ℕ) (i : Instruction) → IfSome (lowered offset object i) (λ m. IsTrue (is_encodable m))
lowered_fits offset object i = fits_by (fields_of i.op i.operands offset object)

-- the word does at any address what the instruction does
abbrev pub ActsAs : ℤ → (object : ℕ) → Instruction → MachineOp → Type 0
ActsAs offset object i m = (address : ℕ) → machine_row address m ≡ placed (at_offset address offset) object (pos 0) (row_of i)

acts_by : (offset : ℤ) (object : ℕ) (i : Instruction) (o : Option MachineOp) → fields_of i.op i.operands offset object ≡ o →
    IfSome (option_and_then in_range o) (ActsAs offset object i)
acts_by offset object i None e = tt
acts_by offset object i (Some m) e = kept (ActsAs offset object i) m (λ address. fields_act i.op i.operands offset object address m e)

pub lowered_acts : (offset : ℤ) (object : ℕ) (i : Instruction) → IfSome (lowered offset object i) (ActsAs offset object i)
lowered_acts offset object i = acts_by offset object i (fields_of i.op i.operands offset object) refl
