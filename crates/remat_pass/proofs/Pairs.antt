-- The operands of code in whose place a constant is set, and the pairs that its number gives.
use Rattle.std.proofs.Common.{◌≡◌, ℕ, zero, suc, List, ◌∷◌, filter, slice_get, All, Option, Some, None, Bool, true, false, cond, refl, sym, ap, ◌∙◌, subst, []}
use Rattle.std.specs.List.{list_all}
use Rattle.std.specs.Prelude.{ℤ, pos}
use Rattle.std.proofs.lemmas.Bool.{and_parts}
use Rattle.std.proofs.lemmas.List.Elements.{All-cons, All-head, All-filter}
use Rattle.rv64_instr.specs.declared.op.Op.{Op}
use Rattle.rv64_instr.specs.declared.op.Op.TheVariants.{Registers, Immediate, Lui, Branch, Load, Store, Copy}
use Rattle.rv64_instr.specs.declared.op.Op.TheVariants.{PseudoBr, PseudoCall, PseudoRet, PseudoCallIndirect}
use Rattle.rv64_instr.specs.declared.op.Op.TheVariants.{PseudoTail, PseudoTailIndirect, NoReturnCall, NoReturnCallIndirect}
use Rattle.rv64_instr.specs.declared.op.ImmediateOp.{ImmediateOp}
use Rattle.rv64_instr.specs.declared.op.ImmediateOp.TheVariants.{Addi}
use Rattle.rv64_instr.specs.declared.operand.Operand.{Operand}
use Rattle.rv64_instr.specs.declared.operand.Operand.TheVariants.{Def, Use, Imm, Slot as SlotOperand, Object, Part, Block, Symbol}
use Rattle.rv64_instr.specs.Instruction.{Instruction}
use Rattle.rv64_instr.specs.Arithmetic.{word, load_width, signed}
use Rattle.rv64_instr.specs.Form.{has_form, has_12_bits, is_implicit, is_immediate, moves_slot}
use Rattle.rv64_instr.specs.Row.{Row, Moves, LoadsSlot, row_of, row_by, move_row, immediate_row, object_row, implicit_uses}
use Rattle.rv64_instr.specs.Row.{held_tail, held_gone}
use Rattle.rv64_instr.specs.LocationEffects.{is_call}
use Rattle.sem_mir.specs.State.{Core, updated}
use Rattle.sem_mir.specs.Step.{defined, given, numbered}
use Rattle.remat_pass.specs.Known.{Known}
use Rattle.remat_pass.specs.Remat.{constant_code, upper_part}
use Rattle.remat_pass.proofs.Constants.{constant_row}
use Rattle.remat_pass.proofs.Replaced.{Replaced, same, moved, loaded, DefinesAlone, alone_two, alone_three, constant_alone}

-- a copy into the register, or a slot load
abbrev pub SetsFrom : ℕ → Row → Type 0
SetsFrom r (Moves rd rs) = rd ≡ r
SetsFrom r (LoadsSlot rd s) = rd ≡ r
SetsFrom r _ = ⊥

from_immediate : (op : ImmediateOp) (rd a n r : ℕ) → SetsFrom r (immediate_row op rd a n) → rd ≡ r
from_immediate Addi rd zero n r h = absurd h
from_immediate Addi rd (suc a) zero r h = h
from_immediate Addi rd (suc a) (suc n) r h = absurd h
from_immediate _ rd a n r h = absurd h

from_object : (op : ImmediateOp) (rd m i r : ℕ) → SetsFrom r (object_row op rd m i) → ⊥
from_object Addi rd m i r h = h
from_object _ rd m i r h = h

from_move : (rd rs r : ℕ) → SetsFrom r (move_row rd rs) → rd ≡ r
from_move rd zero r h = absurd h
from_move rd (suc rs) r h = h

held_tail_from : (xs : List ℕ) (r : ℕ) → SetsFrom r (held_tail xs) → ⊥
held_tail_from [] r h = h
held_tail_from (x ∷ xs) r h = h

held_gone_from : (xs : List ℕ) (r : ℕ) → SetsFrom r (held_gone xs) → ⊥
held_gone_from [] r h = h
held_gone_from (x ∷ xs) r h = h

-- its operands begin with the definition
pub begins : (op : Op) (os : List Operand) (r : ℕ) → SetsFrom r (row_by op os) → (rest : List Operand) × (os ≡ Def r ∷ rest)
begins (Registers op) (Def rd ∷ Use a ∷ Use b ∷ rest) r h = absurd h
begins (Immediate op) (Def rd ∷ Use a ∷ Imm i ∷ rest) r h =
    (Use a ∷ Imm i ∷ rest, ap (λ (d : ℕ). Def d ∷ Use a ∷ Imm i ∷ rest) (from_immediate op rd a (word i) r h))
begins (Immediate op) (Def rd ∷ Object m ∷ Imm i ∷ rest) r h = absurd (from_object op rd m (word i) r h)
begins Lui (Def rd ∷ Imm i ∷ rest) r h = absurd h
begins (Branch op) (Use a ∷ Use b ∷ Block target ∷ rest) r h = absurd h
begins (Load op) (Def rd ∷ Use base ∷ Imm i ∷ rest) r h = absurd h
begins (Load op) (Def rd ∷ SlotOperand m ∷ rest) r h = (SlotOperand m ∷ rest, ap (λ (d : ℕ). Def d ∷ SlotOperand m ∷ rest) h)
begins (Load op) (Def rd ∷ Object m ∷ Imm i ∷ rest) r h = absurd h
begins (Store op) (Use rs ∷ Use base ∷ Imm i ∷ rest) r h = absurd h
begins (Store op) (Use rs ∷ SlotOperand m ∷ rest) r h = absurd h
begins (Store op) (Use rs ∷ Object m ∷ Imm i ∷ rest) r h = absurd h
begins Copy (Def rd ∷ Use rs ∷ rest) r h = (Use rs ∷ rest, ap (λ (d : ℕ). Def d ∷ Use rs ∷ rest) (from_move rd rs r h))
begins PseudoBr (Block target ∷ rest) r h = absurd h
begins PseudoCall (Symbol name ∷ rest) r h = absurd h
begins PseudoRet rest r h = absurd h
begins PseudoCallIndirect (Use q ∷ rest) r h = absurd h
begins PseudoTail (Symbol name ∷ rest) r h = absurd h
begins PseudoTailIndirect rest r h = absurd (held_tail_from (implicit_uses rest) r h)
begins NoReturnCall (Symbol name ∷ rest) r h = absurd h
begins NoReturnCallIndirect rest r h = absurd (held_gone_from (implicit_uses rest) r h)
begins _ _ r h = absurd h

-- and nothing else is defined, where it is in form
alone : (op : Op) (os : List Operand) → has_form op os ≡ true → (r : ℕ) → SetsFrom r (row_by op os) → DefinesAlone r os
alone (Registers op) (Def rd ∷ Use a ∷ Use b ∷ rest) f r h = absurd h
alone (Immediate op) (Def rd ∷ Use a ∷ Imm i ∷ rest) f r h =
    subst (λ (d : ℕ). DefinesAlone d (Def rd ∷ Use a ∷ Imm i ∷ rest)) (from_immediate op rd a (word i) r h)
    (alone_three rd (Use a) (Imm i) rest refl refl (and_parts (is_immediate op i) (list_all is_implicit rest) f).1)
alone (Immediate op) (Def rd ∷ Object m ∷ Imm i ∷ rest) f r h = absurd (from_object op rd m (word i) r h)
alone (Immediate op) (Def rd ∷ Use a ∷ Part half y ∷ rest) f r h = absurd h
alone Lui (Def rd ∷ Imm i ∷ rest) f r h = absurd h
alone Lui (Def rd ∷ Part half y ∷ rest) f r h = absurd h
alone (Branch op) (Use a ∷ Use b ∷ Block target ∷ rest) f r h = absurd h
alone (Load op) (Def rd ∷ Use base ∷ Imm i ∷ rest) f r h = absurd h
alone (Load op) (Def rd ∷ SlotOperand m ∷ Imm i ∷ rest) f r h =
    subst (λ (d : ℕ). DefinesAlone d (Def rd ∷ SlotOperand m ∷ Imm i ∷ rest)) h
    (alone_three rd (SlotOperand m) (Imm i) rest refl refl (and_parts (moves_slot (load_width op) i) (list_all is_implicit rest) f).1)
alone (Load op) (Def rd ∷ Object m ∷ Imm i ∷ rest) f r h = absurd h
alone (Load op) (Def rd ∷ Use base ∷ Part half y ∷ rest) f r h = absurd h
alone (Store op) (Use rs ∷ Use base ∷ Imm i ∷ rest) f r h = absurd h
alone (Store op) (Use rs ∷ SlotOperand m ∷ rest) f r h = absurd h
alone (Store op) (Use rs ∷ Object m ∷ Imm i ∷ rest) f r h = absurd h
alone (Store op) (Use rs ∷ Use base ∷ Part half y ∷ rest) f r h = absurd h
alone Copy (Def rd ∷ Use rs ∷ rest) f r h =
    subst (λ (d : ℕ). DefinesAlone d (Def rd ∷ Use rs ∷ rest)) (from_move rd rs r h) (alone_two rd (Use rs) rest refl f)
alone PseudoBr (Block target ∷ rest) f r h = absurd h
alone PseudoCall (Symbol name ∷ rest) f r h = absurd h
alone PseudoRet rest f r h = absurd h
alone PseudoCallIndirect (Use q ∷ rest) f r h = absurd h
alone PseudoTail (Symbol name ∷ rest) f r h = absurd h
alone PseudoTailIndirect rest f r h = absurd (held_tail_from (implicit_uses rest) r h)
alone NoReturnCall (Symbol name ∷ rest) f r h = absurd h
alone NoReturnCallIndirect rest f r h = absurd (held_gone_from (implicit_uses rest) r h)
alone _ _ f r h = cc

moves_from : (i : Instruction) (rd rs : ℕ) → row_of i ≡ Moves rd rs → SetsFrom rd (row_of i)
moves_from i rd rs e = subst (SetsFrom rd) (sym e) refl

loads_from : (i : Instruction) (rd s : ℕ) → row_of i ≡ LoadsSlot rd s → SetsFrom rd (row_of i)
loads_from i rd s e = subst (SetsFrom rd) (sym e) refl

-- what holds of the operands, and of x0 and numbers, holds of those of the constant definition
module _ (P : Operand → Type 0) (zero_is : P (Use 0)) (number_is : (z : ℤ) → P (Imm z)) where
  constant_operands : (rd n : ℕ) (rest : List Operand) → P (Def rd) → All P rest → (b : Bool) →
      All P (cond {A = Instruction} b (record { op = Immediate Addi; operands = Def rd ∷ Use 0 ∷ Imm (signed n) ∷ rest; volatile = false })
      (record { op = Lui; operands = Def rd ∷ Imm (pos (upper_part n)) ∷ rest; volatile = false })).operands
  constant_operands rd n rest first kept true =
      All-cons P (Def rd) (Use 0 ∷ Imm (signed n) ∷ rest) first
      (All-cons P (Use 0) (Imm (signed n) ∷ rest) zero_is (All-cons P (Imm (signed n)) rest (number_is (signed n)) kept))
  constant_operands rd n rest first kept false =
      All-cons P (Def rd) (Imm (pos (upper_part n)) ∷ rest) first (All-cons P (Imm (pos (upper_part n))) rest (number_is (pos (upper_part n))) kept)

  from_first : (rd n : ℕ) (i : Instruction) → SetsFrom rd (row_of i) → All P i.operands → All P (constant_code rd n (filter is_implicit i.operands)).operands
  from_first rd n i h all =
      let b = begins i.op i.operands rd h in
      constant_operands rd n (filter is_implicit i.operands) (All-head P (Def rd) b.0 (subst (All P) b.1 all))
      (All-filter is_implicit P i.operands all) (has_12_bits (signed n))

  pub operands_replaced : (known : Known) (i j : Instruction) → Replaced known i j → All P i.operands → All P j.operands
  operands_replaced known i j same h = h
  operands_replaced known i j (moved {rd} {rs} {n} plain e w) h = from_first (suc rd) n i (moves_from i (suc rd) rs e) h
  operands_replaced known i j (loaded {rd} {s} {n} plain e w) h = from_first rd n i (loads_from i rd s e) h

-- ---- numbers

one_given : (sp : Bool) (k rd : ℕ) (os os' : List Operand) → DefinesAlone rd os → DefinesAlone rd os' → (e : Core) →
    numbered sp false (Some k) os e ≡ numbered sp false (Some k) os' e
one_given sp k rd os os' h h' e =
    let each : (o : ℕ) → given sp (defined false (slice_get os o)) (e.pairs k o) e ≡ given sp (defined false (slice_get os' o)) (e.pairs k o) e =
    λ o. ap (λ (x : Option ℕ). given sp x (e.pairs k o) e) (h o ∙ sym (h' o)) in
    λ t. record e { pairs = updated k (λ o. each o t) e.pairs }

numbered_alone : (sp call call' : Bool) (n : Option ℕ) (rd : ℕ) (os os' : List Operand) → call ≡ false → call' ≡ false →
    DefinesAlone rd os → DefinesAlone rd os' → (e : Core) → numbered sp call n os e ≡ numbered sp call' n os' e
numbered_alone sp call call' None rd os os' c c' h h' e = refl
numbered_alone sp call call' (Some k) rd os os' c c' h h' e =
    ap (λ (b : Bool). numbered sp b (Some k) os e) c ∙ (one_given sp k rd os os' h h' e ∙ ap (λ (b : Bool). numbered sp b (Some k) os' e) (sym c'))

-- the constant definition gives its number's pairs what the code gave them
pub numbered_replaced : (sp : Bool) (known : Known) (i j : Instruction) (n : Option ℕ) → has_form i.op i.operands ≡ true → Replaced known i j → (e : Core) →
    numbered sp (is_call (row_of j)) n j.operands e ≡ numbered sp (is_call (row_of i)) n i.operands e
numbered_replaced sp known i j n f same e = refl
numbered_replaced sp known i j k f (moved {rd} {rs} {n} plain row w) e =
    let c = constant_row (suc rd) n (filter is_implicit i.operands) in
    numbered_alone sp (is_call (row_of j)) (is_call (row_of i)) k (suc rd) j.operands i.operands (ap is_call c.1) (ap is_call row)
    (constant_alone (suc rd) n i.operands) (alone i.op i.operands f (suc rd) (moves_from i (suc rd) rs row)) e
numbered_replaced sp known i j k f (loaded {rd} {s} {n} plain row w) e =
    let c = constant_row rd n (filter is_implicit i.operands) in
    numbered_alone sp (is_call (row_of j)) (is_call (row_of i)) k rd j.operands i.operands (ap is_call c.1) (ap is_call row)
    (constant_alone rd n i.operands) (alone i.op i.operands f rd (loads_from i rd s row)) e
