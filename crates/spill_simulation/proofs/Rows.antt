-- What code with other registers does: the same rows, with other registers.
use Rattle.std.proofs.Common.{◌≡◌, ℕ, zero, suc, List, [], ◌∷◌, map, cond, nat_eq, refl, sym, ap, ◌∙◌}
use Rattle.rv64_instr.specs.declared.op.Op.{Op}
use Rattle.rv64_instr.specs.declared.op.Op.TheVariants.{Registers, Immediate, Lui, Branch, Load, Store, Copy}
use Rattle.rv64_instr.specs.declared.op.Op.TheVariants.{PseudoBr, PseudoCall, PseudoRet, PseudoCallIndirect}
use Rattle.rv64_instr.specs.declared.op.Op.TheVariants.{PseudoTail, PseudoTailIndirect, NoReturnCall, NoReturnCallIndirect}
use Rattle.rv64_instr.specs.declared.op.ImmediateOp.{ImmediateOp}
use Rattle.rv64_instr.specs.declared.op.ImmediateOp.TheVariants.{Addi}
use Rattle.rv64_instr.specs.declared.op.RegisterOp.TheVariants.{Add}
use Rattle.rv64_instr.specs.declared.operand.Operand.{Operand}
use Rattle.rv64_instr.specs.declared.operand.Operand.TheVariants.{Def, Use, ImplicitUse, Imm, Slot, Object, Part, Block, Symbol, Outgoing}
use Rattle.rv64_instr.specs.Row.{Input, Content, Number, PartOf}
use Rattle.rv64_instr.specs.Row.{Base, PointedBy, ObjectAt, BesidePart}
use Rattle.rv64_instr.specs.Arithmetic.{word}
use Rattle.rv64_instr.specs.Instruction.{Instruction}
use Rattle.rv64_instr.specs.declared.symbol.Half.TheVariants.{Upper}
use Rattle.rv64_instr.specs.Row.{Row, Fixes, Moves, Sets, Addresses, Loads, Stores, LoadsSlot, StoresSlot, Branches, Jumps, Calls, Returns, Unfit, row_of}
use Rattle.rv64_instr.specs.Row.{row_by, move_row, add_row, immediate_row, object_row, implicit_uses, outgoing_words, Callee, Named, Held, Back, held_tail}
use Rattle.rv64_instr.specs.Row.{held_gone}
use Rattle.rv64_instr.specs.Row.{Tail, Never}
use Rattle.spill_code.specs.Rewrite.{renamed_operand, renamed_code}

module _ (at_use at_def : ℕ → ℕ) where
  abbrev pub renamed_input : Input → Input
  renamed_input (Content r) = Content (at_use r)
  renamed_input (Number n) = Number n
  renamed_input (PartOf half y) = PartOf half y

  abbrev pub renamed_base : Base → Base
  renamed_base (PointedBy r) = PointedBy (at_use r)
  renamed_base (ObjectAt n) = ObjectAt n
  renamed_base (BesidePart r y) = BesidePart (at_use r) y

  abbrev pub renamed_callee : Callee → Callee
  renamed_callee (Named name) = Named name
  renamed_callee (Held r) = Held (at_use r)

  -- the row with other explicit registers
  abbrev pub renamed_row : Row → Row
  renamed_row (Fixes rd n) = Fixes (at_def rd) n
  renamed_row (Moves rd rs) = Moves (at_def rd) (at_use rs)
  renamed_row (Sets rd op a b) = Sets (at_def rd) op (at_use a) (renamed_input b)
  renamed_row (Addresses rd n o) = Addresses (at_def rd) n o
  renamed_row (Loads rd op b o) = Loads (at_def rd) op (renamed_base b) o
  renamed_row (Stores op rs b o) = Stores op (at_use rs) (renamed_base b) o
  renamed_row (LoadsSlot rd n) = LoadsSlot (at_def rd) n
  renamed_row (StoresSlot rs n) = StoresSlot (at_use rs) n
  renamed_row (Branches op a b t) = Branches op (at_use a) (at_use b) t
  renamed_row (Jumps t) = Jumps t
  renamed_row (Calls call) = Calls (record { callee = renamed_callee call.callee; args = call.args; outgoing = call.outgoing })
  renamed_row (Returns v) = Returns v
  renamed_row Unfit = Unfit

  abbrev others : List Operand → List Operand
  others os = map (renamed_operand at_use at_def) os

  uses_same : (os : List Operand) → implicit_uses (others os) ≡ implicit_uses os
  uses_same [] = refl
  uses_same (ImplicitUse r ∷ os) = ap (λ (z : List ℕ). cond (nat_eq r 2) z (r ∷ z)) (uses_same os)
  uses_same (_ ∷ os) = uses_same os

  outgoing_same : (os : List Operand) → outgoing_words (others os) ≡ outgoing_words os
  outgoing_same [] = refl
  outgoing_same (Outgoing n ∷ os) = ap (λ (z : List ℕ). n ∷ z) (outgoing_same os)
  outgoing_same (_ ∷ os) = outgoing_same os

  -- x0 stays x0, and nothing else becomes it
  pub record KeepsZero : Type 0 where
    pub zero_stays : at_use 0 ≡ 0
    pub no_other : (r : ℕ) → at_use (suc r) ≡ 0 → ⊥

  module _ (keeps : KeepsZero) where
    not_zero : (n : ℕ) → (n ≡ 0 → ⊥) → (m : ℕ) × (n ≡ suc m)
    not_zero zero ne = absurd (ne refl)
    not_zero (suc m) ne = (m, refl)

    move_same : (rd rs : ℕ) → move_row (at_def rd) (at_use rs) ≡ renamed_row (move_row rd rs)
    move_same rd zero = ap (move_row (at_def rd)) keeps.zero_stays
    move_same rd (suc r) =
        let w = not_zero (at_use (suc r)) (keeps.no_other r) in
        ap (move_row (at_def rd)) w.1 ∙ sym (ap (Moves (at_def rd)) w.1)

    add_same : (rd a n : ℕ) → add_row (at_def rd) (at_use a) n ≡ renamed_row (add_row rd a n)
    add_same rd zero n = ap (λ (z : ℕ). add_row (at_def rd) z n) keeps.zero_stays
    add_same rd (suc r) zero =
        let w = not_zero (at_use (suc r)) (keeps.no_other r) in
        ap (λ (z : ℕ). add_row (at_def rd) z zero) w.1 ∙ sym (ap (Moves (at_def rd)) w.1)
    add_same rd (suc r) (suc n) =
        let w = not_zero (at_use (suc r)) (keeps.no_other r) in
        ap (λ (z : ℕ). add_row (at_def rd) z (suc n)) w.1 ∙ sym (ap (λ (z : ℕ). Sets (at_def rd) Add z (Number (suc n))) w.1)

    immediate_same : (op : ImmediateOp) (rd a n : ℕ) → immediate_row op (at_def rd) (at_use a) n ≡ renamed_row (immediate_row op rd a n)
    immediate_same Addi rd a n = add_same rd a n
    immediate_same _ rd a n = refl

    object_same : (op : ImmediateOp) (rd n o : ℕ) → object_row op (at_def rd) n o ≡ renamed_row (object_row op rd n o)
    object_same Addi rd n o = refl
    object_same _ rd n o = refl

    held_tail_same : (xs : List ℕ) → held_tail xs ≡ renamed_row (held_tail xs)
    held_tail_same [] = refl
    held_tail_same (r ∷ xs) = refl

    held_gone_same : (xs : List ℕ) → held_gone xs ≡ renamed_row (held_gone xs)
    held_gone_same [] = refl
    held_gone_same (r ∷ xs) = refl

    by_op : (op : Op) (os : List Operand) → row_by op (others os) ≡ renamed_row (row_by op os)
    by_op (Registers op) (Def rd ∷ Use a ∷ Use b ∷ rest) = refl
    by_op (Immediate op) (Def rd ∷ Use a ∷ Imm i ∷ rest) = immediate_same op rd a (word i)
    by_op (Immediate op) (Def rd ∷ Object n ∷ Imm i ∷ rest) = object_same op rd n (word i)
    by_op Lui (Def rd ∷ Imm i ∷ rest) = refl
    by_op Lui (Def rd ∷ Part half y ∷ rest) = ap (λ (z : ℕ). Sets (at_def rd) Add z (PartOf Upper y)) (sym keeps.zero_stays)
    by_op (Branch op) (Use a ∷ Use b ∷ Block target ∷ rest) = refl
    by_op (Load op) (Def rd ∷ Use base ∷ Imm i ∷ rest) = refl
    by_op (Load op) (Def rd ∷ Slot n ∷ rest) = refl
    by_op (Load op) (Def rd ∷ Object n ∷ Imm i ∷ rest) = refl
    by_op (Store op) (Use rs ∷ Use base ∷ Imm i ∷ rest) = refl
    by_op (Store op) (Use rs ∷ Slot n ∷ rest) = refl
    by_op (Store op) (Use rs ∷ Object n ∷ Imm i ∷ rest) = refl
    by_op Copy (Def rd ∷ Use rs ∷ rest) = move_same rd rs
    by_op PseudoBr (Block target ∷ rest) = refl
    by_op PseudoCall (Symbol name ∷ rest) = λ i. Calls (record { callee = Named name; args = uses_same rest i; outgoing = outgoing_same rest i })
    by_op PseudoRet os = ap (λ (rs : List ℕ). Returns (record { way = Back; values = rs })) (uses_same os)
    by_op PseudoCallIndirect (Use r ∷ rest) = λ i. Calls (record { callee = Held (at_use r); args = uses_same rest i; outgoing = outgoing_same rest i })
    by_op PseudoTail (Symbol name ∷ rest) = ap (λ (rs : List ℕ). Returns (record { way = Tail (Named name); values = rs })) (uses_same rest)
    by_op PseudoTailIndirect os = ap held_tail (uses_same os) ∙ held_tail_same (implicit_uses os)
    by_op NoReturnCall (Symbol name ∷ rest) = ap (λ (rs : List ℕ). Returns (record { way = Never (Named name); values = rs })) (uses_same rest)
    by_op NoReturnCallIndirect os = ap held_gone (uses_same os) ∙ held_gone_same (implicit_uses os)
    by_op _ _ = refl

    pub row_renamed : (i : Instruction) → row_of (renamed_code at_use at_def i) ≡ renamed_row (row_of i)
    row_renamed i = by_op i.op i.operands
