-- What code with its slots named by their offsets does: the same rows, with other slots.
use Rattle.std.proofs.Common.{◌≡◌, ℕ, zero, suc, List, [], ◌∷◌, map, All, Bool, true, false, cond, nat_eq, refl, sym, ap, ◌∙◌, eq-eqb, arith}
use Rattle.std.proofs.lemmas.List.Elements.{All-nil, All-cons, All-head, All-tail}
use Rattle.rv64_instr.specs.declared.op.Op.{Op}
use Rattle.rv64_instr.specs.declared.op.Op.TheVariants.{Registers, Immediate, Lui, Branch, Load, Store, Copy}
use Rattle.rv64_instr.specs.declared.op.Op.TheVariants.{PseudoBr, PseudoCall, PseudoRet, PseudoCallIndirect}
use Rattle.rv64_instr.specs.declared.op.Op.TheVariants.{PseudoTail, PseudoTailIndirect, NoReturnCall, NoReturnCallIndirect}
use Rattle.rv64_instr.specs.declared.op.ImmediateOp.{ImmediateOp}
use Rattle.rv64_instr.specs.declared.op.ImmediateOp.TheVariants.{Addi}
use Rattle.rv64_instr.specs.declared.operand.Operand.{Operand}
use Rattle.rv64_instr.specs.declared.operand.Operand.TheVariants.{Def, Use, ImplicitUse, Imm, Slot, Object, Part, Block, Symbol, Outgoing}
use Rattle.rv64_instr.specs.Arithmetic.{word}
use Rattle.rv64_instr.specs.Instruction.{Instruction}
use Rattle.rv64_instr.specs.Row.{Row, Fixes, Moves, Sets, Addresses, Loads, Stores, LoadsSlot, StoresSlot, Branches, Jumps, Calls, Returns, Unfit, row_of}
use Rattle.rv64_instr.specs.Row.{row_by, Named, Held, Back, CallSite, outgoing_words}
use Rattle.rv64_instr.specs.Row.{move_row, immediate_row, object_row, implicit_uses, held_tail, held_gone, Tail, Never}
use Rattle.rv64_instr.specs.DefsAndUses.{reads}
use Rattle.mir_func.specs.Sound.{IsNotPointer}
use Rattle.frame_rule.specs.Rule.{slot_offset, renamed_operand, renamed_code}

-- the call with the slots that it passes named by their offsets
abbrev pub renamed_call : List ℕ → CallSite → CallSite
renamed_call slots call = record { callee = call.callee; args = call.args; outgoing = map (slot_offset slots) call.outgoing }

-- the row with its slots named by their offsets
abbrev pub renamed_row : List ℕ → Row → Row
renamed_row slots (LoadsSlot rd n) = LoadsSlot rd (slot_offset slots n)
renamed_row slots (StoresSlot rs n) = StoresSlot rs (slot_offset slots n)
renamed_row slots (Fixes rd n) = Fixes rd n
renamed_row slots (Moves rd rs) = Moves rd rs
renamed_row slots (Sets rd op a b) = Sets rd op a b
renamed_row slots (Addresses rd n o) = Addresses rd n o
renamed_row slots (Loads rd op b o) = Loads rd op b o
renamed_row slots (Stores op rs b o) = Stores op rs b o
renamed_row slots (Branches op a b t) = Branches op a b t
renamed_row slots (Jumps t) = Jumps t
renamed_row slots (Calls call) = Calls (renamed_call slots call)
renamed_row slots (Returns v) = Returns v
renamed_row slots Unfit = Unfit

module _ (slots : List ℕ) where
  abbrev others : List Operand → List Operand
  others os = map (renamed_operand slots) os

  uses_same : (os : List Operand) → implicit_uses (others os) ≡ implicit_uses os
  uses_same [] = refl
  uses_same (ImplicitUse r ∷ os) = ap (λ (z : List ℕ). cond (nat_eq r 2) z (r ∷ z)) (uses_same os)
  uses_same (_ ∷ os) = uses_same os

  words_same : (os : List Operand) → outgoing_words (others os) ≡ map (slot_offset slots) (outgoing_words os)
  words_same [] = refl
  words_same (Outgoing n ∷ os) = ap (λ (z : List ℕ). slot_offset slots n ∷ z) (words_same os)
  words_same (Slot n ∷ os) = words_same os
  words_same (_ ∷ os) = words_same os

  immediate_same : (op : ImmediateOp) (rd a n : ℕ) → immediate_row op rd a n ≡ renamed_row slots (immediate_row op rd a n)
  immediate_same Addi rd zero n = refl
  immediate_same Addi rd (suc r) zero = refl
  immediate_same Addi rd (suc r) (suc n) = refl
  immediate_same _ rd a n = refl

  object_same : (op : ImmediateOp) (rd n o : ℕ) → object_row op rd n o ≡ renamed_row slots (object_row op rd n o)
  object_same Addi rd n o = refl
  object_same _ rd n o = refl

  move_same : (rd rs : ℕ) → move_row rd rs ≡ renamed_row slots (move_row rd rs)
  move_same rd zero = refl
  move_same rd (suc r) = refl

  held_tail_same : (xs : List ℕ) → held_tail xs ≡ renamed_row slots (held_tail xs)
  held_tail_same [] = refl
  held_tail_same (r ∷ xs) = refl

  held_gone_same : (xs : List ℕ) → held_gone xs ≡ renamed_row slots (held_gone xs)
  held_gone_same [] = refl
  held_gone_same (r ∷ xs) = refl

  by_op : (op : Op) (os : List Operand) → row_by op (others os) ≡ renamed_row slots (row_by op os)
  by_op (Registers op) (Def rd ∷ Use a ∷ Use b ∷ rest) = refl
  by_op (Immediate op) (Def rd ∷ Use a ∷ Imm i ∷ rest) = immediate_same op rd a (word i)
  by_op (Immediate op) (Def rd ∷ Object n ∷ Imm i ∷ rest) = object_same op rd n (word i)
  by_op Lui (Def rd ∷ Imm i ∷ rest) = refl
  by_op (Branch op) (Use a ∷ Use b ∷ Block target ∷ rest) = refl
  by_op (Load op) (Def rd ∷ Use base ∷ Imm i ∷ rest) = refl
  by_op (Load op) (Def rd ∷ Slot n ∷ rest) = refl
  by_op (Load op) (Def rd ∷ Object n ∷ Imm i ∷ rest) = refl
  by_op (Store op) (Use rs ∷ Use base ∷ Imm i ∷ rest) = refl
  by_op (Store op) (Use rs ∷ Slot n ∷ rest) = refl
  by_op (Store op) (Use rs ∷ Object n ∷ Imm i ∷ rest) = refl
  by_op Copy (Def rd ∷ Use rs ∷ rest) = move_same rd rs
  by_op PseudoBr (Block target ∷ rest) = refl
  by_op PseudoCall (Symbol name ∷ rest) =
      let a = uses_same rest in
      let b = words_same rest in
      λ i. Calls (record { callee = Named name; args = a i; outgoing = b i })
  by_op PseudoRet os = ap (λ (rs : List ℕ). Returns (record { way = Back; values = rs })) (uses_same os)
  by_op PseudoCallIndirect (Use r ∷ rest) =
      let a = uses_same rest in
      let b = words_same rest in
      λ i. Calls (record { callee = Held r; args = a i; outgoing = b i })
  by_op PseudoTail (Symbol name ∷ rest) = ap (λ (rs : List ℕ). Returns (record { way = Tail (Named name); values = rs })) (uses_same rest)
  by_op PseudoTailIndirect os = ap held_tail (uses_same os) ∙ held_tail_same (implicit_uses os)
  by_op NoReturnCall (Symbol name ∷ rest) = ap (λ (rs : List ℕ). Returns (record { way = Never (Named name); values = rs })) (uses_same rest)
  by_op NoReturnCallIndirect os = ap held_gone (uses_same os) ∙ held_gone_same (implicit_uses os)
  by_op _ _ = refl

  pub row_renamed : (i : Instruction) → row_of (renamed_code slots i) ≡ renamed_row slots (row_of i)
  row_renamed i = by_op i.op i.operands

-- ---- registers that are read

abbrev pub IsOther : ℕ → Type 0
IsOther r = r ≡ 2 → ⊥

one : (r : ℕ) → IsOther r → All IsOther (r ∷ [])
one r h = All-cons IsOther r [] h (All-nil IsOther)

two : (a b : ℕ) → IsOther a → IsOther b → All IsOther (a ∷ b ∷ [])
two a b h k = All-cons IsOther a (b ∷ []) h (one b k)

none : All IsOther []
none = All-nil IsOther

uses_other : (os : List Operand) → All IsOther (implicit_uses os)
uses_other [] = none
uses_other (ImplicitUse r ∷ rest) = by_test (nat_eq r 2) refl (uses_other rest) where
  by_test : (b : Bool) → nat_eq r 2 ≡ b → All IsOther (implicit_uses rest) → All IsOther (cond b (implicit_uses rest) (r ∷ implicit_uses rest))
  by_test true e more = more
  by_test false e more = All-cons IsOther r (implicit_uses rest) (λ k. (let bad : false ≡ true = sym e ∙ eq-eqb r 2 k in cc)) more
uses_other (_ ∷ rest) = uses_other rest

first : (x : Operand) (rest : List Operand) → All IsNotPointer (x ∷ rest) → IsNotPointer x
first x rest h = All-head IsNotPointer x rest h

second : (x y : Operand) (rest : List Operand) → All IsNotPointer (x ∷ y ∷ rest) → IsNotPointer y
second x y rest h = first y rest (All-tail IsNotPointer x (y ∷ rest) h)

third : (x y z : Operand) (rest : List Operand) → All IsNotPointer (x ∷ y ∷ z ∷ rest) → IsNotPointer z
third x y z rest h = second y z rest (All-tail IsNotPointer x (y ∷ z ∷ rest) h)

immediate_other : (op : ImmediateOp) (rd a n : ℕ) → IsOther a → All IsOther (reads (immediate_row op rd a n))
immediate_other Addi rd zero n h = none
immediate_other Addi rd (suc r) zero h = one (suc r) h
immediate_other Addi rd (suc r) (suc n) h = one (suc r) h
immediate_other _ rd a n h = one a h

object_other : (op : ImmediateOp) (rd n o : ℕ) → All IsOther (reads (object_row op rd n o))
object_other Addi rd n o = none
object_other _ rd n o = none

move_other : (rd rs : ℕ) → IsOther rs → All IsOther (reads (move_row rd rs))
move_other rd zero h = none
move_other rd (suc r) h = one (suc r) h

held_tail_other : (xs : List ℕ) → All IsOther xs → All IsOther (reads (held_tail xs))
held_tail_other [] h = none
held_tail_other (r ∷ xs) h = h

held_gone_other : (xs : List ℕ) → All IsOther xs → All IsOther (reads (held_gone xs))
held_gone_other [] h = none
held_gone_other (r ∷ xs) h = h

reads_by : (op : Op) (os : List Operand) → All IsNotPointer os → All IsOther (reads (row_by op os))
reads_by (Registers op) (Def rd ∷ Use a ∷ Use b ∷ rest) h = two a b (second (Def rd) (Use a) (Use b ∷ rest) h) (third (Def rd) (Use a) (Use b) rest h)
reads_by (Immediate op) (Def rd ∷ Use a ∷ Imm i ∷ rest) h = immediate_other op rd a (word i) (second (Def rd) (Use a) (Imm i ∷ rest) h)
reads_by (Immediate op) (Def rd ∷ Object n ∷ Imm i ∷ rest) h = object_other op rd n (word i)
reads_by (Immediate op) (Def rd ∷ Use a ∷ Part half y ∷ rest) h = one a (second (Def rd) (Use a) (Part half y ∷ rest) h)
reads_by Lui (Def rd ∷ Imm i ∷ rest) h = none
reads_by Lui (Def rd ∷ Part half y ∷ rest) h = one 0 (λ e. omega (arith, e))
reads_by (Branch op) (Use a ∷ Use b ∷ Block target ∷ rest) h =
    two a b (first (Use a) (Use b ∷ Block target ∷ rest) h) (second (Use a) (Use b) (Block target ∷ rest) h)
reads_by (Load op) (Def rd ∷ Use base ∷ Imm i ∷ rest) h = one base (second (Def rd) (Use base) (Imm i ∷ rest) h)
reads_by (Load op) (Def rd ∷ Slot n ∷ rest) h = none
reads_by (Load op) (Def rd ∷ Object n ∷ Imm i ∷ rest) h = none
reads_by (Load op) (Def rd ∷ Use base ∷ Part half y ∷ rest) h = one base (second (Def rd) (Use base) (Part half y ∷ rest) h)
reads_by (Store op) (Use rs ∷ Use base ∷ Imm i ∷ rest) h =
    two rs base (first (Use rs) (Use base ∷ Imm i ∷ rest) h) (second (Use rs) (Use base) (Imm i ∷ rest) h)
reads_by (Store op) (Use rs ∷ Slot n ∷ rest) h = one rs (first (Use rs) (Slot n ∷ rest) h)
reads_by (Store op) (Use rs ∷ Object n ∷ Imm i ∷ rest) h = one rs (first (Use rs) (Object n ∷ Imm i ∷ rest) h)
reads_by (Store op) (Use rs ∷ Use base ∷ Part half y ∷ rest) h =
    two rs base (first (Use rs) (Use base ∷ Part half y ∷ rest) h) (second (Use rs) (Use base) (Part half y ∷ rest) h)
reads_by Copy (Def rd ∷ Use rs ∷ rest) h = move_other rd rs (second (Def rd) (Use rs) rest h)
reads_by PseudoBr (Block target ∷ rest) h = none
reads_by PseudoCall (Symbol name ∷ rest) h = uses_other rest
reads_by PseudoRet os h = uses_other os
reads_by PseudoCallIndirect (Use r ∷ rest) h = All-cons IsOther r (implicit_uses rest) (first (Use r) rest h) (uses_other rest)
reads_by PseudoTail (Symbol name ∷ rest) h = uses_other rest
reads_by PseudoTailIndirect os h = held_tail_other (implicit_uses os) (uses_other os)
reads_by NoReturnCall (Symbol name ∷ rest) h = uses_other rest
reads_by NoReturnCallIndirect os h = held_gone_other (implicit_uses os) (uses_other os)
reads_by _ _ h = none

-- where no explicit operand is x2, it isn't read
pub reads_other : (i : Instruction) → All IsNotPointer i.operands → All IsOther (reads (row_of i))
reads_other i h = reads_by i.op i.operands h
