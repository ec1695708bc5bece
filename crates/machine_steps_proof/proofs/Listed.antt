-- The instructions of lines: which of them call, and which return.
use Rattle.std.proofs.Common.{◌≡◌, ◌⊎◌, ℕ, zero, suc, List, ◌∷◌}
use Rattle.std.proofs.Common.{None}
use Rattle.std.proofs.Common.{refl, sym, ap, ◌∙◌, inl, inr}
use Rattle.std.proofs.Common.{arith, [], ◌++◌, ◌+◌, pos, ◌+ℤ◌}
use Rattle.rv64_instr.specs.declared.op.Op.{Op}
use Rattle.rv64_instr.specs.declared.op.Op.TheVariants.{Registers, Immediate, Lui, Branch, Load, Store, Copy}
use Rattle.rv64_instr.specs.declared.op.Op.TheVariants.{PseudoBr, PseudoCall, PseudoRet, PseudoCallIndirect}
use Rattle.rv64_instr.specs.declared.op.Op.TheVariants.{PseudoTail, PseudoTailIndirect, NoReturnCall, NoReturnCallIndirect}
use Rattle.rv64_instr.specs.declared.op.BranchOp.{BranchOp}
use Rattle.rv64_instr.specs.declared.op.ImmediateOp.{ImmediateOp}
use Rattle.rv64_instr.specs.declared.op.ImmediateOp.TheVariants.{Addi}
use Rattle.rv64_instr.specs.declared.operand.Operand.{Operand}
use Rattle.rv64_instr.specs.declared.operand.Operand.TheVariants.{Def, Use, ImplicitDef, ImplicitUse, Imm, Slot, Object, Part, Block as OfBlock, Symbol}
use Rattle.rv64_instr.specs.declared.operand.Operand.TheVariants.{Mask, Outgoing, GlobalRegisters}
use Rattle.rv64_instr.specs.Arithmetic.{word}
use Rattle.rv64_instr.specs.Instruction.{Instruction}
use Rattle.rv64_instr.specs.Row.{Row, Branches, Calls, Returns, Unfit, row_of}
use Rattle.rv64_instr.specs.Row.{row_by, implicit_uses, outgoing_words, move_row, immediate_row, object_row, CallSite as Call, Callee, Named, Ending}
use Rattle.rv64_instr.specs.Row.{Back, held_tail, held_gone, tail_row, gone_row, Way, Tail, Never, Held}
use Rattle.rv64_instr.specs.LocationEffects.{part_named}
use Rattle.rv64_instr.specs.Inverse.{inverse_op, inverse}
use Rattle.mir_func.specs.Function.{FramedFunction}
use Rattle.mir_func.specs.Objects.{offset_of}
use Rattle.mir_func.specs.SoundFrame.{own_size}
use Rattle.sem_machine.specs.MachineStep.{call_of, left_by}
use Rattle.emit_code.specs.LongBranch.{over_bytes}
use Rattle.emit_code.specs.Listed.{by_pointer, listed}

pub uses_listed : (f : FramedFunction) (os : List Operand) → implicit_uses (by_pointer f os) ≡ implicit_uses os
uses_listed f (ImplicitUse r ∷ Slot n ∷ Imm i ∷ rest) = refl
uses_listed f (ImplicitUse r ∷ Object n ∷ Imm i ∷ rest) = refl
uses_listed f (Def r ∷ Slot n ∷ Imm i ∷ rest) = refl
uses_listed f (Def r ∷ Object n ∷ Imm i ∷ rest) = refl
uses_listed f (Use r ∷ Slot n ∷ Imm i ∷ rest) = refl
uses_listed f (Use r ∷ Object n ∷ Imm i ∷ rest) = refl
uses_listed f (ImplicitDef r ∷ Slot n ∷ Imm i ∷ rest) = refl
uses_listed f (ImplicitDef r ∷ Object n ∷ Imm i ∷ rest) = refl
uses_listed f (Imm r ∷ Slot n ∷ Imm i ∷ rest) = refl
uses_listed f (Imm r ∷ Object n ∷ Imm i ∷ rest) = refl
uses_listed f (Slot r ∷ Slot n ∷ Imm i ∷ rest) = refl
uses_listed f (Slot r ∷ Object n ∷ Imm i ∷ rest) = refl
uses_listed f (Object r ∷ Slot n ∷ Imm i ∷ rest) = refl
uses_listed f (Object r ∷ Object n ∷ Imm i ∷ rest) = refl
uses_listed f (Part half y ∷ Slot n ∷ Imm i ∷ rest) = refl
uses_listed f (Part half y ∷ Object n ∷ Imm i ∷ rest) = refl
uses_listed f (OfBlock r ∷ Slot n ∷ Imm i ∷ rest) = refl
uses_listed f (OfBlock r ∷ Object n ∷ Imm i ∷ rest) = refl
uses_listed f (Symbol r ∷ Slot n ∷ Imm i ∷ rest) = refl
uses_listed f (Symbol r ∷ Object n ∷ Imm i ∷ rest) = refl
uses_listed f (Mask ∷ Slot n ∷ Imm i ∷ rest) = refl
uses_listed f (Mask ∷ Object n ∷ Imm i ∷ rest) = refl
uses_listed f (Outgoing r ∷ Slot n ∷ Imm i ∷ rest) = refl
uses_listed f (GlobalRegisters ∷ Slot n ∷ Imm i ∷ rest) = refl
uses_listed f (Outgoing r ∷ Object n ∷ Imm i ∷ rest) = refl
uses_listed f (GlobalRegisters ∷ Object n ∷ Imm i ∷ rest) = refl
uses_listed f _ = refl

own_word : Operand → List ℕ
own_word (Outgoing n) = n ∷ []
own_word _ = []

first_word : (x : Operand) (os : List Operand) → outgoing_words (x ∷ os) ≡ own_word x ++ outgoing_words os
unfolding own_word
first_word (Outgoing n) os = refl
first_word _ os = refl

pub words_listed : (f : FramedFunction) (os : List Operand) → outgoing_words (by_pointer f os) ≡ outgoing_words os
words_listed f (x ∷ Slot n ∷ Imm i ∷ rest) = first_word x (Use 2 ∷ Imm (pos n) ∷ rest) ∙ sym (first_word x (Slot n ∷ Imm i ∷ rest))
words_listed f (x ∷ Object n ∷ Imm i ∷ rest) =
    first_word x (Use 2 ∷ Imm (pos (own_size f + offset_of f.objects n) +ℤ i) ∷ rest) ∙ sym (first_word x (Object n ∷ Imm i ∷ rest))
words_listed f _ = refl

-- a call's row is a call's, and no other is
call_listed : (f : FramedFunction) (os : List Operand) (call : Call) → row_by PseudoCall os ≡ Calls call →
    row_by PseudoCall (by_pointer f os) ≡ Calls call
call_listed f (Symbol n ∷ Slot m ∷ Imm i ∷ rest) call e = e
call_listed f (Symbol n ∷ Object m ∷ Imm i ∷ rest) call e = e
call_listed f (Symbol n ∷ rest) call e = same_tail rest e where
  same_tail : (rest : List Operand) → row_by PseudoCall (Symbol n ∷ rest) ≡ Calls call →
      row_by PseudoCall (by_pointer f (Symbol n ∷ rest)) ≡ Calls call
  same_tail (Slot m ∷ Imm i ∷ more) e = e
  same_tail (Object m ∷ Imm i ∷ more) e = e
  same_tail _ e = e
call_listed f _ call e = cc

no_call_immediate : (op : ImmediateOp) (rd a n : ℕ) → call_of (immediate_row op rd a n) ≡ None
no_call_immediate Addi rd zero n = refl
no_call_immediate Addi rd (suc r) zero = refl
no_call_immediate Addi rd (suc r) (suc n) = refl
no_call_immediate _ rd a n = refl

no_call_object : (op : ImmediateOp) (rd n offset : ℕ) → call_of (object_row op rd n offset) ≡ None
no_call_object Addi rd n offset = refl
no_call_object _ rd n offset = refl

no_call_move : (rd rs : ℕ) → call_of (move_row rd rs) ≡ None
no_call_move rd zero = refl
no_call_move rd (suc r) = refl

held_tail_none : (xs : List ℕ) → call_of (held_tail xs) ≡ None
held_tail_none [] = refl
held_tail_none (r ∷ xs) = refl

held_gone_none : (xs : List ℕ) → call_of (held_gone xs) ≡ None
held_gone_none [] = refl
held_gone_none (r ∷ xs) = refl

not_call : (op : Op) → (op ≡ PseudoCall → ⊥) → (op ≡ PseudoCallIndirect → ⊥) → (os : List Operand) → call_of (row_by op os) ≡ None
not_call (Registers op) ne nh (Def rd ∷ Use a ∷ Use b ∷ rest) = refl
not_call (Immediate op) ne nh (Def rd ∷ Use a ∷ Imm i ∷ rest) = no_call_immediate op rd a (word i)
not_call (Immediate op) ne nh (Def rd ∷ Object n ∷ Imm i ∷ rest) = no_call_object op rd n (word i)
not_call Lui ne nh (Def rd ∷ Imm i ∷ rest) = refl
not_call (Branch op) ne nh (Use a ∷ Use b ∷ OfBlock target ∷ rest) = refl
not_call (Load op) ne nh (Def rd ∷ Use base ∷ Imm i ∷ rest) = refl
not_call (Load op) ne nh (Def rd ∷ Slot n ∷ rest) = refl
not_call (Load op) ne nh (Def rd ∷ Object n ∷ Imm i ∷ rest) = refl
not_call (Store op) ne nh (Use rs ∷ Use base ∷ Imm i ∷ rest) = refl
not_call (Store op) ne nh (Use rs ∷ Slot n ∷ rest) = refl
not_call (Store op) ne nh (Use rs ∷ Object n ∷ Imm i ∷ rest) = refl
not_call Copy ne nh (Def rd ∷ Use rs ∷ rest) = no_call_move rd rs
not_call PseudoBr ne nh (OfBlock target ∷ rest) = refl
not_call PseudoCall ne nh os = absurd (ne refl)
not_call PseudoRet ne nh os = refl
not_call PseudoCallIndirect ne nh os = absurd (nh refl)
not_call PseudoTail ne nh (Symbol name ∷ rest) = refl
not_call PseudoTailIndirect ne nh os = held_tail_none (implicit_uses os)
not_call NoReturnCall ne nh (Symbol name ∷ rest) = refl
not_call NoReturnCallIndirect ne nh os = held_gone_none (implicit_uses os)
not_call _ ne nh _ = refl

-- returns, branches and calls among the rows
abbrev tag : Row → ℕ
tag (Returns ending) = 1
tag (Branches op a b t) = 2
tag (Calls call) = 3
tag _ = 0

tag_immediate : (op : ImmediateOp) (rd a n : ℕ) → tag (immediate_row op rd a n) ≡ 0
tag_immediate Addi rd zero n = refl
tag_immediate Addi rd (suc r) zero = refl
tag_immediate Addi rd (suc r) (suc n) = refl
tag_immediate _ rd a n = refl

tag_object : (op : ImmediateOp) (rd n offset : ℕ) → tag (object_row op rd n offset) ≡ 0
tag_object Addi rd n offset = refl
tag_object _ rd n offset = refl

tag_move : (rd rs : ℕ) → tag (move_row rd rs) ≡ 0
tag_move rd zero = refl
tag_move rd (suc r) = refl

zero_one : {n m : ℕ} → n ≡ 0 → n ≡ suc m → ⊥
zero_one {n} {m} a b = let bad : 0 ≡ suc m = sym a ∙ b in omega (arith, bad)

-- what a return with these operands ends in
abbrev pub return_of : List Operand → Ending Callee
return_of os = record { way = Back; values = implicit_uses os }

-- the way of an ending's row
abbrev way_of : Row → Way Callee
way_of (Returns ending) = ending.way
way_of _ = Back

-- a return's opcode
held_tail_back : (xs : List ℕ) (ending : Ending Callee) → held_tail xs ≡ Returns ending → ending.way ≡ Back → ⊥
held_tail_back [] ending e back = cc
held_tail_back (r ∷ xs) ending e back = let bad : Tail (Held r) ≡ Back = ap way_of e ∙ back in cc

held_gone_back : (xs : List ℕ) (ending : Ending Callee) → held_gone xs ≡ Returns ending → ending.way ≡ Back → ⊥
held_gone_back [] ending e back = cc
held_gone_back (r ∷ xs) ending e back = let bad : Never (Held r) ≡ Back = ap way_of e ∙ back in cc

pub returns_op : (op : Op) (os : List Operand) (ending : Ending Callee) → row_by op os ≡ Returns ending → ending.way ≡ Back →
    (op ≡ PseudoRet) × (return_of os ≡ ending)
returns_op PseudoRet os ending e back = (refl, (let same : return_of os ≡ ending = cc in same))
returns_op (Registers op) (Def rd ∷ Use a ∷ Use b ∷ rest) ending e back = cc
returns_op (Immediate op) (Def rd ∷ Use a ∷ Imm i ∷ rest) ending e back = absurd (zero_one (tag_immediate op rd a (word i)) (ap tag e))
returns_op (Immediate op) (Def rd ∷ Object n ∷ Imm i ∷ rest) ending e back = absurd (zero_one (tag_object op rd n (word i)) (ap tag e))
returns_op Lui (Def rd ∷ Imm i ∷ rest) ending e back = cc
returns_op (Branch op) (Use a ∷ Use b ∷ OfBlock target ∷ rest) ending e back = cc
returns_op (Load op) (Def rd ∷ Use base ∷ Imm i ∷ rest) ending e back = cc
returns_op (Load op) (Def rd ∷ Slot n ∷ rest) ending e back = cc
returns_op (Load op) (Def rd ∷ Object n ∷ Imm i ∷ rest) ending e back = cc
returns_op (Store op) (Use rs ∷ Use base ∷ Imm i ∷ rest) ending e back = cc
returns_op (Store op) (Use rs ∷ Slot n ∷ rest) ending e back = cc
returns_op (Store op) (Use rs ∷ Object n ∷ Imm i ∷ rest) ending e back = cc
returns_op Copy (Def rd ∷ Use rs ∷ rest) ending e back = absurd (zero_one (tag_move rd rs) (ap tag e))
returns_op PseudoBr (OfBlock target ∷ rest) ending e back = cc
returns_op PseudoCall (Symbol name ∷ rest) ending e back = cc
returns_op PseudoCallIndirect (Use r ∷ rest) ending e back = cc
returns_op PseudoTail (Symbol name ∷ rest) ending e back = absurd (let bad : Tail (Named name) ≡ Back = ap way_of e ∙ back in cc)
returns_op PseudoTailIndirect os ending e back = absurd (held_tail_back (implicit_uses os) ending e back)
returns_op NoReturnCall (Symbol name ∷ rest) ending e back = absurd (let bad : Never (Named name) ≡ Back = ap way_of e ∙ back in cc)
returns_op NoReturnCallIndirect os ending e back = absurd (held_gone_back (implicit_uses os) ending e back)
returns_op _ _ ending e back = cc

held_tail_tag : (xs : List ℕ) → tag (held_tail xs) ≡ 2 → ⊥
held_tail_tag [] e = omega (arith, e)
held_tail_tag (r ∷ xs) e = omega (arith, e)

held_gone_tag : (xs : List ℕ) → tag (held_gone xs) ≡ 2 → ⊥
held_gone_tag [] e = omega (arith, e)
held_gone_tag (r ∷ xs) e = omega (arith, e)

-- the inverted branch, and what skips
pub branch_inverted : (op : Op) (os : List Operand) (o : BranchOp) (a b n : ℕ) → row_by op os ≡ Branches o a b n →
    (row_by (inverse_op op) os ≡ Branches (inverse o) a b n) × (call_of (row_by (inverse_op op) (over_bytes 8 os)) ≡ None)
    × (part_named (row_by (inverse_op op) (over_bytes 8 os)) ≡ None)
    × (left_by (row_by (inverse_op op) (over_bytes 8 os)) ≡ None)
branch_inverted (Branch op) (Use x ∷ Use y ∷ OfBlock t ∷ rest) o a b n e = (
  (let same : Branches (inverse op) x y t ≡ Branches (inverse o) a b n = cc in
      same),
  refl,
  refl,
  refl,
)
branch_inverted PseudoRet os o a b n e = cc
branch_inverted (Registers op) (Def rd ∷ Use x ∷ Use y ∷ rest) o a b n e = cc
branch_inverted (Immediate op) (Def rd ∷ Use x ∷ Imm i ∷ rest) o a b n e = absurd (zero_one (tag_immediate op rd x (word i)) (ap tag e))
branch_inverted (Immediate op) (Def rd ∷ Object m ∷ Imm i ∷ rest) o a b n e = absurd (zero_one (tag_object op rd m (word i)) (ap tag e))
branch_inverted Lui (Def rd ∷ Imm i ∷ rest) o a b n e = cc
branch_inverted (Load op) (Def rd ∷ Use base ∷ Imm i ∷ rest) o a b n e = cc
branch_inverted (Load op) (Def rd ∷ Slot m ∷ rest) o a b n e = cc
branch_inverted (Load op) (Def rd ∷ Object m ∷ Imm i ∷ rest) o a b n e = cc
branch_inverted (Store op) (Use rs ∷ Use base ∷ Imm i ∷ rest) o a b n e = cc
branch_inverted (Store op) (Use rs ∷ Slot m ∷ rest) o a b n e = cc
branch_inverted (Store op) (Use rs ∷ Object m ∷ Imm i ∷ rest) o a b n e = cc
branch_inverted Copy (Def rd ∷ Use rs ∷ rest) o a b n e = absurd (zero_one (tag_move rd rs) (ap tag e))
branch_inverted PseudoBr (OfBlock target ∷ rest) o a b n e = cc
branch_inverted PseudoCall (Symbol name ∷ rest) o a b n e = cc
branch_inverted PseudoCallIndirect (Use r ∷ rest) o a b n e = cc
branch_inverted PseudoTail (Symbol name ∷ rest) o a b n e = cc
branch_inverted PseudoTailIndirect os o a b n e = absurd (held_tail_tag (implicit_uses os) (ap tag e))
branch_inverted NoReturnCall (Symbol name ∷ rest) o a b n e = cc
branch_inverted NoReturnCallIndirect os o a b n e = absurd (held_gone_tag (implicit_uses os) (ap tag e))
branch_inverted _ _ o a b n e = cc

op_or : (op : Op) → (op ≡ PseudoCall) ⊎ ((op ≡ PseudoCallIndirect) ⊎ ((op ≡ PseudoCall → ⊥) × (op ≡ PseudoCallIndirect → ⊥)))
op_or PseudoCall = inl refl
op_or PseudoCallIndirect = inr (inl refl)
op_or _ = inr (inr (λ e. cc, λ e. cc))

call_or_unfit : (os : List Operand) → (row_by PseudoCall os ≡ Unfit) ⊎ ((call : Call) × (row_by PseudoCall os ≡ Calls call))
call_or_unfit (Symbol name ∷ rest) = inr (record { callee = Named name; args = implicit_uses rest; outgoing = outgoing_words rest }, refl)
call_or_unfit _ = inl refl

no_some : (call : Call) → call_of (Calls call) ≡ None → ⊥
no_some call e = cc

pub held_listed : (f : FramedFunction) (os : List Operand) → row_by PseudoCallIndirect (by_pointer f os) ≡ row_by PseudoCallIndirect os
held_listed f (Use r ∷ Slot m ∷ Imm i ∷ rest) = refl
held_listed f (Use r ∷ Object m ∷ Imm i ∷ rest) = refl
held_listed f (x ∷ Slot m ∷ Imm i ∷ rest) = refl
held_listed f (x ∷ Object m ∷ Imm i ∷ rest) = refl
held_listed f _ = refl

-- code that is none of a call is listed as none
pub no_call_listed : (f : FramedFunction) (c : Instruction) → (row_of c ≡ Unfit → ⊥) → call_of (row_of c) ≡ None → call_of (row_of (listed f c)) ≡ None
no_call_listed f c fit none = elim (op_or c.op) as (λ _. call_of (row_of (listed f c)) ≡ None) [
  | inl is ↦ elim (call_or_unfit c.operands) as (λ _. call_of (row_of (listed f c)) ≡ None) [
    | inl u ↦ absurd (fit (ap (λ (o : Op). row_by o c.operands) is ∙ u))
    | inr k ↦ absurd (no_some k.0 (ap call_of (sym (ap (λ (o : Op). row_by o c.operands) is ∙ k.1)) ∙ none))
  ]
  | inr others ↦ elim others as (λ _. call_of (row_of (listed f c)) ≡ None) [
    | inl is ↦ ap (λ (o : Op). call_of (row_by o (by_pointer f c.operands))) is
        ∙ ap call_of (held_listed f c.operands) ∙ sym (ap (λ (o : Op). call_of (row_by o c.operands)) is) ∙ none
    | inr ne ↦ not_call c.op ne.0 ne.1 (by_pointer f c.operands)
  ]
]

pub calls_listed : (f : FramedFunction) (c : Instruction) (call : Call) → row_of c ≡ Calls call → row_of (listed f c) ≡ Calls call
calls_listed f c call e = elim (op_or c.op) as (λ _. row_of (listed f c) ≡ Calls call) [
  | inl is ↦ ap (λ (o : Op). row_by o (by_pointer f c.operands)) is ∙ call_listed f c.operands call (ap (λ (o : Op). row_by o c.operands) (sym is) ∙ e)
  | inr others ↦ elim others as (λ _. row_of (listed f c) ≡ Calls call) [
    | inl is ↦ ap (λ (o : Op). row_by o (by_pointer f c.operands)) is ∙ held_listed f c.operands
        ∙ sym (ap (λ (o : Op). row_by o c.operands) is) ∙ e
    | inr ne ↦ absurd (no_some call (ap call_of (sym e) ∙ not_call c.op ne.0 ne.1 c.operands))
  ]
]

-- ---- control leaves for a callee as it is listed

left_immediate : (op : ImmediateOp) (rd a n : ℕ) → left_by (immediate_row op rd a n) ≡ None
left_immediate Addi rd zero n = refl
left_immediate Addi rd (suc r) zero = refl
left_immediate Addi rd (suc r) (suc n) = refl
left_immediate _ rd a n = refl

left_object : (op : ImmediateOp) (rd n offset : ℕ) → left_by (object_row op rd n offset) ≡ None
left_object Addi rd n offset = refl
left_object _ rd n offset = refl

left_move : (rd rs : ℕ) → left_by (move_row rd rs) ≡ None
left_move rd zero = refl
left_move rd (suc r) = refl

-- an opcode of no ending but a return
abbrev IsStaying : Op → Type 0
IsStaying PseudoTail = ⊥
IsStaying PseudoTailIndirect = ⊥
IsStaying NoReturnCall = ⊥
IsStaying NoReturnCallIndirect = ⊥
IsStaying _ = Unit {0}

no_left : (op : Op) → IsStaying op → (os : List Operand) → left_by (row_by op os) ≡ None
no_left (Registers op) is (Def rd ∷ Use a ∷ Use b ∷ rest) = refl
no_left (Immediate op) is (Def rd ∷ Use a ∷ Imm i ∷ rest) = left_immediate op rd a (word i)
no_left (Immediate op) is (Def rd ∷ Object n ∷ Imm i ∷ rest) = left_object op rd n (word i)
no_left Lui is (Def rd ∷ Imm i ∷ rest) = refl
no_left (Branch op) is (Use a ∷ Use b ∷ OfBlock target ∷ rest) = refl
no_left (Load op) is (Def rd ∷ Use base ∷ Imm i ∷ rest) = refl
no_left (Load op) is (Def rd ∷ Slot n ∷ rest) = refl
no_left (Load op) is (Def rd ∷ Object n ∷ Imm i ∷ rest) = refl
no_left (Store op) is (Use rs ∷ Use base ∷ Imm i ∷ rest) = refl
no_left (Store op) is (Use rs ∷ Slot n ∷ rest) = refl
no_left (Store op) is (Use rs ∷ Object n ∷ Imm i ∷ rest) = refl
no_left Copy is (Def rd ∷ Use rs ∷ rest) = left_move rd rs
no_left PseudoBr is (OfBlock target ∷ rest) = refl
no_left PseudoCall is (Symbol name ∷ rest) = refl
no_left PseudoRet is os = refl
no_left PseudoCallIndirect is (Use r ∷ rest) = refl
no_left PseudoTail is os = absurd is
no_left PseudoTailIndirect is os = absurd is
no_left NoReturnCall is os = absurd is
no_left NoReturnCallIndirect is os = absurd is
no_left _ is _ = refl

-- what names a callee behind its opcode
tail_left : (f : FramedFunction) (os : List Operand) → left_by (tail_row (by_pointer f os)) ≡ left_by (tail_row os)
tail_left f (Symbol n ∷ Slot m ∷ Imm i ∷ rest) = refl
tail_left f (Symbol n ∷ Object m ∷ Imm i ∷ rest) = refl
tail_left f (x ∷ Slot m ∷ Imm i ∷ rest) = refl
tail_left f (x ∷ Object m ∷ Imm i ∷ rest) = refl
tail_left f _ = refl

gone_left : (f : FramedFunction) (os : List Operand) → left_by (gone_row (by_pointer f os)) ≡ left_by (gone_row os)
gone_left f (Symbol n ∷ Slot m ∷ Imm i ∷ rest) = refl
gone_left f (Symbol n ∷ Object m ∷ Imm i ∷ rest) = refl
gone_left f (x ∷ Slot m ∷ Imm i ∷ rest) = refl
gone_left f (x ∷ Object m ∷ Imm i ∷ rest) = refl
gone_left f _ = refl

both_stay : (f : FramedFunction) (op : Op) → IsStaying op → (os : List Operand) → left_by (row_by op (by_pointer f os)) ≡ left_by (row_by op os)
both_stay f op is os = no_left op is (by_pointer f os) ∙ sym (no_left op is os)

left_operands : (f : FramedFunction) (op : Op) (os : List Operand) → left_by (row_by op (by_pointer f os)) ≡ left_by (row_by op os)
left_operands f PseudoTail os = tail_left f os
left_operands f PseudoTailIndirect os = ap (λ (xs : List ℕ). left_by (held_tail xs)) (uses_listed f os)
left_operands f NoReturnCall os = gone_left f os
left_operands f NoReturnCallIndirect os = ap (λ (xs : List ℕ). left_by (held_gone xs)) (uses_listed f os)
left_operands f (Registers op) os = both_stay f (Registers op) tt os
left_operands f (Immediate op) os = both_stay f (Immediate op) tt os
left_operands f Lui os = both_stay f Lui tt os
left_operands f (Branch op) os = both_stay f (Branch op) tt os
left_operands f (Load op) os = both_stay f (Load op) tt os
left_operands f (Store op) os = both_stay f (Store op) tt os
left_operands f Copy os = both_stay f Copy tt os
left_operands f PseudoBr os = both_stay f PseudoBr tt os
left_operands f PseudoCall os = both_stay f PseudoCall tt os
left_operands f PseudoRet os = both_stay f PseudoRet tt os
left_operands f PseudoCallIndirect os = both_stay f PseudoCallIndirect tt os

pub left_listed : (f : FramedFunction) (c : Instruction) → left_by (row_of (listed f c)) ≡ left_by (row_of c)
left_listed f c = left_operands f c.op c.operands
