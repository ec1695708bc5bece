-- What code with roots for its explicit uses does: the same rows, with other registers that are read.
use Rattle.std.proofs.Common.{◌≡◌, ℕ, zero, suc, List, [], ◌∷◌, map, cond, nat_eq, refl, sym, ap, ◌∙◌}
use Rattle.rv64_instr.specs.declared.op.Op.{Op}
use Rattle.rv64_instr.specs.declared.op.Op.TheVariants.{Registers, Immediate, Lui, Branch, Load, Store, Copy}
use Rattle.rv64_instr.specs.declared.op.Op.TheVariants.{PseudoBr, PseudoCall, PseudoRet, PseudoCallIndirect}
use Rattle.rv64_instr.specs.declared.op.Op.TheVariants.{PseudoTail, PseudoTailIndirect, NoReturnCall, NoReturnCallIndirect}
use Rattle.rv64_instr.specs.declared.op.ImmediateOp.{ImmediateOp}
use Rattle.rv64_instr.specs.declared.op.ImmediateOp.TheVariants.{Addi}
use Rattle.rv64_instr.specs.declared.op.RegisterOp.TheVariants.{Add}
use Rattle.rv64_instr.specs.declared.operand.Operand.{Operand}
use Rattle.rv64_instr.specs.declared.operand.Operand.TheVariants.{Def, Use, ImplicitUse, Imm, Slot, Object, Part, Block, Symbol, Outgoing}
use Rattle.rv64_instr.specs.Row.{Input, Content, Number, PartOf}
use Rattle.rv64_instr.specs.Row.{Base, PointedBy, ObjectAt, BesidePart}
use Rattle.rv64_instr.specs.Arithmetic.{word}
use Rattle.rv64_instr.specs.Instruction.{Instruction}
use Rattle.rv64_instr.specs.declared.symbol.Half.TheVariants.{Upper}
use Rattle.rv64_instr.specs.Row.{Row, Fixes, Moves, Sets, Addresses, Loads, Stores, LoadsSlot, StoresSlot, Branches, Jumps, Calls, Returns, Unfit, row_of}
use Rattle.rv64_instr.specs.Row.{row_by, move_row, add_row, immediate_row, object_row, implicit_uses, outgoing_words, Callee, Named, Held, Back, held_tail}
use Rattle.rv64_instr.specs.Row.{held_gone}
use Rattle.rv64_instr.specs.Row.{Tail, Never}
use Rattle.rv64_instr.specs.LocationEffects.{is_call}
use Rattle.copyprop_block.specs.declared.roots.Root.{Root}
use Rattle.copyprop_block.specs.Roots.{root_of, renamed_operand, renamed}

module _ (e : List Root) where
  abbrev pub rooted_input : Input → Input
  rooted_input (Content r) = Content (root_of e r)
  rooted_input (Number n) = Number n
  rooted_input (PartOf half y) = PartOf half y

  abbrev pub rooted_base : Base → Base
  rooted_base (PointedBy r) = PointedBy (root_of e r)
  rooted_base (ObjectAt n) = ObjectAt n
  rooted_base (BesidePart r y) = BesidePart (root_of e r) y

  abbrev pub rooted_callee : Callee → Callee
  rooted_callee (Named name) = Named name
  rooted_callee (Held r) = Held (root_of e r)

  -- the row with roots for what it reads by explicit operands
  abbrev pub rooted : Row → Row
  rooted (Fixes rd n) = Fixes rd n
  rooted (Moves rd rs) = Moves rd (root_of e rs)
  rooted (Sets rd op a b) = Sets rd op (root_of e a) (rooted_input b)
  rooted (Addresses rd n o) = Addresses rd n o
  rooted (Loads rd op b o) = Loads rd op (rooted_base b) o
  rooted (Stores op rs b o) = Stores op (root_of e rs) (rooted_base b) o
  rooted (LoadsSlot rd n) = LoadsSlot rd n
  rooted (StoresSlot rs n) = StoresSlot (root_of e rs) n
  rooted (Branches op a b t) = Branches op (root_of e a) (root_of e b) t
  rooted (Jumps t) = Jumps t
  rooted (Calls call) = Calls (record { callee = rooted_callee call.callee; args = call.args; outgoing = call.outgoing })
  rooted (Returns v) = Returns v
  rooted Unfit = Unfit

  abbrev others : List Operand → List Operand
  others os = map (renamed_operand e) os

  pub uses_same : (os : List Operand) → implicit_uses (others os) ≡ implicit_uses os
  uses_same [] = refl
  uses_same (ImplicitUse r ∷ os) = ap (λ (z : List ℕ). cond (nat_eq r 2) z (r ∷ z)) (uses_same os)
  uses_same (_ ∷ os) = uses_same os

  outgoing_same : (os : List Operand) → outgoing_words (others os) ≡ outgoing_words os
  outgoing_same [] = refl
  outgoing_same (Outgoing n ∷ os) = ap (λ (z : List ℕ). n ∷ z) (outgoing_same os)
  outgoing_same (_ ∷ os) = outgoing_same os

  -- x0 has no root, and is none
  pub record KeepsZero : Type 0 where
    pub zero_stays : root_of e 0 ≡ 0
    pub no_other : (r : ℕ) → root_of e (suc r) ≡ 0 → ⊥

  module _ (keeps : KeepsZero) where
    pub not_zero : (n : ℕ) → (n ≡ 0 → ⊥) → (m : ℕ) × (n ≡ suc m)
    not_zero zero ne = absurd (ne refl)
    not_zero (suc m) ne = (m, refl)

    move_same : (rd rs : ℕ) → move_row rd (root_of e rs) ≡ rooted (move_row rd rs)
    move_same rd zero = ap (move_row rd) keeps.zero_stays
    move_same rd (suc r) =
        let w = not_zero (root_of e (suc r)) (keeps.no_other r) in
        ap (move_row rd) w.1 ∙ sym (ap (Moves rd) w.1)

    add_same : (rd a n : ℕ) → add_row rd (root_of e a) n ≡ rooted (add_row rd a n)
    add_same rd zero n = ap (λ (z : ℕ). add_row rd z n) keeps.zero_stays
    add_same rd (suc r) zero =
        let w = not_zero (root_of e (suc r)) (keeps.no_other r) in
        ap (λ (z : ℕ). add_row rd z zero) w.1 ∙ sym (ap (Moves rd) w.1)
    add_same rd (suc r) (suc n) =
        let w = not_zero (root_of e (suc r)) (keeps.no_other r) in
        ap (λ (z : ℕ). add_row rd z (suc n)) w.1 ∙ sym (ap (λ (z : ℕ). Sets rd Add z (Number (suc n))) w.1)

    immediate_same : (op : ImmediateOp) (rd a n : ℕ) → immediate_row op rd (root_of e a) n ≡ rooted (immediate_row op rd a n)
    immediate_same Addi rd a n = add_same rd a n
    immediate_same _ rd a n = refl

    object_same : (op : ImmediateOp) (rd n o : ℕ) → object_row op rd n o ≡ rooted (object_row op rd n o)
    object_same Addi rd n o = refl
    object_same _ rd n o = refl

    held_tail_same : (xs : List ℕ) → held_tail xs ≡ rooted (held_tail xs)
    held_tail_same [] = refl
    held_tail_same (r ∷ xs) = refl

    held_gone_same : (xs : List ℕ) → held_gone xs ≡ rooted (held_gone xs)
    held_gone_same [] = refl
    held_gone_same (r ∷ xs) = refl

    by_op : (op : Op) (os : List Operand) → row_by op (others os) ≡ rooted (row_by op os)
    by_op (Registers op) (Def rd ∷ Use a ∷ Use b ∷ rest) = refl
    by_op (Immediate op) (Def rd ∷ Use a ∷ Imm i ∷ rest) = immediate_same op rd a (word i)
    by_op (Immediate op) (Def rd ∷ Object n ∷ Imm i ∷ rest) = object_same op rd n (word i)
    by_op Lui (Def rd ∷ Imm i ∷ rest) = refl
    by_op Lui (Def rd ∷ Part half y ∷ rest) = ap (λ (z : ℕ). Sets rd Add z (PartOf Upper y)) (sym keeps.zero_stays)
    by_op (Branch op) (Use a ∷ Use b ∷ Block target ∷ rest) = refl
    by_op (Load op) (Def rd ∷ Use base ∷ Imm i ∷ rest) = refl
    by_op (Load op) (Def rd ∷ Slot n ∷ rest) = refl
    by_op (Load op) (Def rd ∷ Object n ∷ Imm i ∷ rest) = refl
    by_op (Store op) (Use rs ∷ Use base ∷ Imm i ∷ rest) = refl
    by_op (Store op) (Use rs ∷ Slot n ∷ rest) = refl
    by_op (Store op) (Use rs ∷ Object n ∷ Imm i ∷ rest) = refl
    by_op Copy (Def rd ∷ Use rs ∷ rest) = move_same rd rs
    by_op PseudoBr (Block target ∷ rest) = refl
    by_op PseudoCall (Symbol name ∷ rest) = λ i. Calls (record { callee = Named name; args = uses_same rest i; outgoing = outgoing_same rest i })
    by_op PseudoRet os = ap (λ (rs : List ℕ). Returns (record { way = Back; values = rs })) (uses_same os)
    by_op PseudoCallIndirect (Use r ∷ rest) =
        λ i. Calls (record { callee = Held (root_of e r); args = uses_same rest i; outgoing = outgoing_same rest i })
    by_op PseudoTail (Symbol name ∷ rest) = ap (λ (rs : List ℕ). Returns (record { way = Tail (Named name); values = rs })) (uses_same rest)
    by_op PseudoTailIndirect os = ap held_tail (uses_same os) ∙ held_tail_same (implicit_uses os)
    by_op NoReturnCall (Symbol name ∷ rest) = ap (λ (rs : List ℕ). Returns (record { way = Never (Named name); values = rs })) (uses_same rest)
    by_op NoReturnCallIndirect os = ap held_gone (uses_same os) ∙ held_gone_same (implicit_uses os)
    by_op _ _ = refl

    pub row_renamed : (i : Instruction) → row_of (renamed e i) ≡ rooted (row_of i)
    row_renamed i = by_op i.op i.operands

  pub call_rooted : (r : Row) → is_call (rooted r) ≡ is_call r
  call_rooted (Fixes rd n) = refl
  call_rooted _ = refl
