-- Blocks end quietly: past a conditional branch stands a jump at most, which in the form of its opcode defines nothing and gives
-- no pair a token.
use Rattle.std.proofs.Common.{◌≡◌, ℕ, zero, suc, List, [], ◌∷◌, refl, sym, ap, ◌∙◌, subst, Bool, true, false, cond}
use Rattle.std.specs.Prelude.{Option, Some, None, nat_eq, slice_get}
use Rattle.std.specs.List.{list_all}
use Rattle.std.proofs.lemmas.Bool.{and_parts}
use Rattle.rv64_instr.specs.Form.{has_form, is_implicit}
use Rattle.rv64_instr.specs.Arithmetic.{word}
use Rattle.rv64_instr.specs.Instruction.{Instruction}
use Rattle.rv64_instr.specs.LocationEffects.{is_call}
use Rattle.rv64_instr.specs.declared.op.Op.{Op}
use Rattle.rv64_instr.specs.declared.op.ImmediateOp.{ImmediateOp}
use Rattle.rv64_instr.specs.declared.op.ImmediateOp.TheVariants.{Addi}
use Rattle.rv64_instr.specs.declared.op.Op.TheVariants.{Registers, Immediate, Lui, Branch, Load, Store, Copy}
use Rattle.rv64_instr.specs.declared.op.Op.TheVariants.{PseudoBr, PseudoCall, PseudoRet, PseudoCallIndirect}
use Rattle.rv64_instr.specs.declared.op.Op.TheVariants.{PseudoTail, PseudoTailIndirect, NoReturnCall, NoReturnCallIndirect}
use Rattle.rv64_instr.specs.declared.operand.Operand.{Operand}
use Rattle.rv64_instr.specs.declared.operand.Operand.TheVariants.{Def, Use, ImplicitDef, ImplicitUse, Imm, Slot, Object, Part, Outgoing, GlobalRegisters}
use Rattle.rv64_instr.specs.declared.operand.Operand.TheVariants.{Block as ToBlock, Symbol, Mask}
use Rattle.rv64_instr.specs.Row.{Row, Jumps, row_of, row_by, immediate_row, object_row, move_row, implicit_uses, held_tail}
use Rattle.rv64_instr.specs.Row.{held_gone}
use Rattle.mir_func.specs.declared.debug_substitution.OperandPair.{OperandPair}
use Rattle.mir_func.specs.declared.exit.Exit.{Exit}
use Rattle.mir_func.specs.declared.exit.Exit.TheVariants.{Onward, Perhaps, Always, Final}
use Rattle.mir_func.specs.declared.item.Item.{Item}
use Rattle.mir_func.specs.declared.item.ItemKind.{ItemKind}
use Rattle.mir_func.specs.declared.item.ItemKind.TheVariants.{Code, Mark, Phi}
use Rattle.mir_func.specs.Exits.{row_exit, exit_of, IsAlways}
use Rattle.mir_func.specs.Sound.{IsJumpAtMost, MayFollow, EndsWell, HasForm}
use Rattle.sem_mir.specs.Step.{defined}
use Rattle.sem_value_ids.specs.Pullback.{Tracked, InRegister, InSlot, OfPair, OfVariable, OfNumber, token_back, Was}
use Rattle.sem_value_ids.specs.Pullback.{back, back_row, back_code, back_numbered, given_back}
use Rattle.sem_value_ids.proofs.Backwards.{tokens_pull_back}
use Rattle.value_live_ins.proofs.Paths.{IsQuiet, QuietPast, EndsQuietly}

-- ---- a jump

none_defined : (os : List Operand) → list_all is_implicit os ≡ true → (o : ℕ) → defined false (slice_get os o) ≡ None
none_defined [] h o = refl
none_defined (Def r ∷ os) h zero = cc
none_defined (Use r ∷ os) h zero = refl
none_defined (ImplicitDef r ∷ os) h zero = refl
none_defined (ImplicitUse r ∷ os) h zero = refl
none_defined (Imm i ∷ os) h zero = refl
none_defined (Slot n ∷ os) h zero = refl
none_defined (Object n ∷ os) h zero = refl
none_defined (Part half y ∷ os) h zero = refl
none_defined (Outgoing n ∷ os) h zero = refl
none_defined (GlobalRegisters ∷ os) h zero = refl
none_defined (ToBlock n ∷ os) h zero = refl
none_defined (Symbol n ∷ os) h zero = refl
none_defined (Mask ∷ os) h zero = refl
none_defined (x ∷ os) h (suc o) = none_defined os (and_parts (is_implicit x) (list_all is_implicit os) h).1 o

jump_defines : (t : ℕ) (os : List Operand) → list_all is_implicit os ≡ true → (o : ℕ) → defined false (slice_get (ToBlock t ∷ os) o) ≡ None
jump_defines t os h zero = refl
jump_defines t os h (suc o) = none_defined os h o

-- a jump's row, and what its operands define
abbrev JumpsOnly : Row → List Operand → Type 0
JumpsOnly r os = (t : ℕ) × (r ≡ Jumps t) × ((o : ℕ) → defined false (slice_get os o) ≡ None)

immediate_goes : (op : ImmediateOp) (rd a n t : ℕ) → row_exit (immediate_row op rd a n) ≡ Always t → ⊥
immediate_goes Addi rd zero n t h = cc
immediate_goes Addi rd (suc r) zero t h = cc
immediate_goes Addi rd (suc r) (suc n) t h = cc
immediate_goes _ rd a n t h = cc

object_goes : (op : ImmediateOp) (rd n o t : ℕ) → row_exit (object_row op rd n o) ≡ Always t → ⊥
object_goes Addi rd n o t h = cc
object_goes _ rd n o t h = cc

move_goes : (rd rs t : ℕ) → row_exit (move_row rd rs) ≡ Always t → ⊥
move_goes rd zero t h = cc
move_goes rd (suc r) t h = cc

held_tail_goes : (xs : List ℕ) (t : ℕ) → row_exit (held_tail xs) ≡ Always t → ⊥
held_tail_goes [] t h = cc
held_tail_goes (r ∷ xs) t h = cc

held_gone_goes : (xs : List ℕ) (t : ℕ) → row_exit (held_gone xs) ≡ Always t → ⊥
held_gone_goes [] t h = cc
held_gone_goes (r ∷ xs) t h = cc

jumps_by : (op : Op) (os : List Operand) (t : ℕ) → has_form op os ≡ true → row_exit (row_by op os) ≡ Always t → JumpsOnly (row_by op os) os
jumps_by (Registers op) (Def rd ∷ Use a ∷ Use b ∷ rest) t h e = absurd cc
jumps_by (Immediate op) (Def rd ∷ Use a ∷ Imm i ∷ rest) t h e = absurd (immediate_goes op rd a (word i) t e)
jumps_by (Immediate op) (Def rd ∷ Object n ∷ Imm i ∷ rest) t h e = absurd (object_goes op rd n (word i) t e)
jumps_by Lui (Def rd ∷ Imm i ∷ rest) t h e = absurd cc
jumps_by (Branch op) (Use a ∷ Use b ∷ ToBlock target ∷ rest) t h e = absurd cc
jumps_by (Load op) (Def rd ∷ Use base ∷ Imm i ∷ rest) t h e = absurd cc
jumps_by (Load op) (Def rd ∷ Slot n ∷ rest) t h e = absurd cc
jumps_by (Load op) (Def rd ∷ Object n ∷ Imm i ∷ rest) t h e = absurd cc
jumps_by (Store op) (Use rs ∷ Use base ∷ Imm i ∷ rest) t h e = absurd cc
jumps_by (Store op) (Use rs ∷ Slot n ∷ rest) t h e = absurd cc
jumps_by (Store op) (Use rs ∷ Object n ∷ Imm i ∷ rest) t h e = absurd cc
jumps_by Copy (Def rd ∷ Use rs ∷ rest) t h e = absurd (move_goes rd rs t e)
jumps_by PseudoBr (ToBlock target ∷ rest) t h e = (target, refl, jump_defines target rest h)
jumps_by PseudoCall (Symbol name ∷ rest) t h e = absurd cc
jumps_by PseudoRet os t h e = absurd cc
jumps_by PseudoCallIndirect (Use r ∷ rest) t h e = absurd cc
jumps_by PseudoTail (Symbol name ∷ rest) t h e = absurd cc
jumps_by PseudoTailIndirect os t h e = absurd (held_tail_goes (implicit_uses os) t e)
jumps_by NoReturnCall (Symbol name ∷ rest) t h e = absurd cc
jumps_by NoReturnCallIndirect os t h e = absurd (held_gone_goes (implicit_uses os) t e)
jumps_by _ _ t h e = absurd cc

cond_same : {A : Type 0} (b : Bool) (x y : A) → x ≡ y → cond b x y ≡ y
cond_same true x y e = e
cond_same false x y e = refl

row_back : (t : ℕ) (x : Tracked) → back_row 0 (Jumps t) x ≡ Was x
row_back t (InRegister r) = refl
row_back t (InSlot n) = refl
row_back t (OfPair k o) = refl
row_back t (OfVariable v) = refl
row_back t (OfNumber n) = refl

module _ (c : Instruction) (t : ℕ) (row : row_of c ≡ Jumps t) (none : (o : ℕ) → defined false (slice_get c.operands o) ≡ None) where
  bare : (x : Tracked) → back_row 0 (row_of c) x ≡ Was x
  bare x = ap (λ (z : Row). back_row 0 z x) row ∙ row_back t x

  gives_none : (o : ℕ) → defined (is_call (row_of c)) (slice_get c.operands o) ≡ None
  gives_none o = ap (λ (z : Row). defined (is_call z) (slice_get c.operands o)) row ∙ none o

  with_number : (j : ℕ) (x : Tracked) → back_numbered 0 c j x ≡ Was x
  with_number j (OfPair k o) =
      cond_same (nat_eq k j) (given_back 0 (row_of c) (defined (is_call (row_of c)) (slice_get c.operands o)) (OfPair k o)) (Was (OfPair k o))
      (ap (λ (z : Option ℕ). given_back 0 (row_of c) z (OfPair k o)) (gives_none o))
  with_number j (InRegister r) = bare (InRegister r)
  with_number j (InSlot n) = bare (InSlot n)
  with_number j (OfVariable v) = bare (OfVariable v)
  with_number j (OfNumber n) = bare (OfNumber n)

  code_back : (k : Option ℕ) (x : Tracked) → back_code 0 c k x ≡ Was x
  code_back None x = bare x
  code_back (Some j) x = with_number j x

onward_goes : (t : ℕ) → Onward ≡ Always t → ⊥
onward_goes t h = cc

kind_back : (resolve : OperandPair → Option OperandPair) (kind : ItemKind) (t : ℕ) (x : Tracked) → HasForm kind → exit_of kind ≡ Always t →
    back resolve 0 kind x ≡ Was x
kind_back resolve (Code c k) t x h e =
    let j = jumps_by c.op c.operands t h e in
    code_back c j.0 j.1 j.2 k x
kind_back resolve (Mark v m) t x h e = absurd (onward_goes t e)
kind_back resolve (Phi p k) t x h e = absurd (onward_goes t e)

quiet_none : IsQuiet []
quiet_none = record { keeps = λ resolve n t x. refl }

quiet_jump : (j : Item) (t : ℕ) → HasForm j.kind → exit_of j.kind ≡ Always t → IsQuiet (j ∷ [])
quiet_jump j t h e = record {
  keeps = λ resolve n u x.
      tokens_pull_back resolve n (j ∷ []) u x ∙ ap (token_back n u) (kind_back resolve j.kind t x h e);
}

always_is : (x : Exit) → IsAlways x → (t : ℕ) × (x ≡ Always t)
always_is (Always t) h = (t, refl)
always_is Onward h = absurd h
always_is (Perhaps n) h = absurd h
always_is Final h = absurd h

-- ---- blocks

abbrev HaveForms : List Item → Type 0
HaveForms items = (k : ℕ) (i : Item) → slice_get items k ≡ Some i → HasForm i.kind

quiet_at_most : (rest : List Item) → IsJumpAtMost rest → HaveForms rest → IsQuiet rest
quiet_at_most [] h forms = quiet_none
quiet_at_most (j ∷ []) h forms = let a = always_is (exit_of j.kind) h in quiet_jump j a.0 (forms 0 j refl) a.1
quiet_at_most (j ∷ k ∷ rest) h forms = absurd h

quiet_past : (x : Exit) (rest : List Item) → MayFollow x rest → HaveForms rest → QuietPast x rest
quiet_past Onward rest h forms = tt
quiet_past (Perhaps n) rest h forms = quiet_at_most rest h forms
quiet_past (Always n) rest h forms = subst IsQuiet (sym h) quiet_none
quiet_past Final rest h forms = tt

pub ends_quietly : (items : List Item) → EndsWell items → HaveForms items → EndsQuietly items
ends_quietly [] h forms = tt
ends_quietly (i ∷ rest) (follow, ends) forms =
    let less : HaveForms rest = λ k j e. forms (suc k) j e in
    (quiet_past (exit_of i.kind) rest follow less, ends_quietly rest ends less)

-- where control never leaves, nothing has to be quiet
pub onward_quietly : (items : List Item) → ((k : ℕ) (i : Item) → slice_get items k ≡ Some i → exit_of i.kind ≡ Onward) → EndsQuietly items
onward_quietly [] h = tt
onward_quietly (i ∷ rest) h =
    (subst (λ (x : Exit). QuietPast x rest) (sym (h 0 i refl)) tt, onward_quietly rest (λ k j e. h (suc k) j e))
