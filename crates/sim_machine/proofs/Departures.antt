-- What control leaves a function for, by the operands.
use Rattle.std.proofs.Common.{◌≡◌, ℕ, zero, suc, ◌⊎◌, inl, inr, List, [], ◌∷◌, length, Option, Some, None, Result, Ok, Err}
use Rattle.std.proofs.Common.{Bool, true, false, cond, IsTrue, refl, sym, ap, ◌∙◌, arith}
use Rattle.std.specs.List.{list_all}
use Rattle.std.specs.Result.{IfOk}
use Rattle.std.proofs.lemmas.Bool.{and_parts, ne_eqb}
use Rattle.rv64_instr.specs.declared.op.Op.{Op}
use Rattle.rv64_instr.specs.declared.op.Op.TheVariants.{Registers, Immediate, Lui, Branch, Load, Store, Copy}
use Rattle.rv64_instr.specs.declared.op.Op.TheVariants.{PseudoBr, PseudoCall, PseudoRet, PseudoCallIndirect}
use Rattle.rv64_instr.specs.declared.op.Op.TheVariants.{PseudoTail, PseudoTailIndirect, NoReturnCall, NoReturnCallIndirect}
use Rattle.rv64_instr.specs.declared.op.ImmediateOp.{ImmediateOp}
use Rattle.rv64_instr.specs.declared.op.ImmediateOp.TheVariants.{Addi}
use Rattle.rv64_instr.specs.declared.operand.Operand.{Operand}
use Rattle.rv64_instr.specs.declared.operand.Operand.TheVariants.{Def, Use, ImplicitUse, Imm, Slot, Object, Part, Block, Symbol, Mask}
use Rattle.rv64_instr.specs.declared.start.CallTarget.{CallTarget}
use Rattle.rv64_instr.specs.Arithmetic.{word}
use Rattle.rv64_instr.specs.Form.{has_form, is_call_register, is_held_tail_register, is_held_tail_use, is_last_argument}
use Rattle.rv64_instr.specs.Form.{fits_tail, fits_held_tail, fits_gone, fits_held_gone}
use Rattle.rv64_instr.specs.Instruction.{Instruction}
use Rattle.rv64_instr.specs.Row.{row_of, row_by, implicit_uses, immediate_row, object_row, add_row, move_row}
use Rattle.rv64_instr.specs.Row.{held_tail, held_gone, Callee, Named, Held, Ending, Tail, Never}
use Rattle.rv64_instr.proofs.Tails.{IsTailRegister, tail_callee, callee_low, held_callee}
use Rattle.sem_machine.specs.Machine.{Machine}
use Rattle.sem_machine.specs.MachineStep.{called_at, left_by}
use Rattle.sim_machine.specs.declared.hart.Hart.{Hart}
use Rattle.sim_machine.specs.Departures.{is_leaving, way_target}
use Rattle.sim_machine.specs.Kept.{StandsFor}
use Rattle.sim_machine.specs.steps.Arguments.{callee_named, NamesCallee}

-- ---- code that leaves

-- the first operand of code that leaves the function names what it leaves for
pub record LeftForm (op : Op) (operands : List Operand) : Type 0 where
  pub callee : Callee
  pub first : Operand
  pub rest : List Operand
  pub are : operands ≡ first ∷ rest
  pub named : callee_named first ≡ Some callee
  pub names : NamesCallee first
  pub left : (ending : Ending Callee) → left_by (row_by op operands) ≡ Some ending → (s : Machine) → way_target s ending.way ≡ Some (called_at s callee)

abbrev tail_of : Callee → List ℕ → Ending Callee
tail_of callee values = record { way = Tail callee; values = values }

abbrev gone_of : Callee → List ℕ → Ending Callee
gone_of callee values = record { way = Never callee; values = values }

one_ending : (a b : Ending Callee) → ◌≡◌ {A = Option (Ending Callee)} (Some a) (Some b) → a ≡ b
one_ending a b e = cc

by_tail : (callee : Callee) (values : List ℕ) (ending : Ending Callee) → ◌≡◌ {A = Option (Ending Callee)} (Some (tail_of callee values)) (Some ending) →
    (s : Machine) → way_target s ending.way ≡ Some (called_at s callee)
by_tail callee values ending e s = ap (λ (x : Ending Callee). way_target s x.way) (sym (one_ending (tail_of callee values) ending e))

by_gone : (callee : Callee) (values : List ℕ) (ending : Ending Callee) → ◌≡◌ {A = Option (Ending Callee)} (Some (gone_of callee values)) (Some ending) →
    (s : Machine) → way_target s ending.way ≡ Some (called_at s callee)
by_gone callee values ending e s = ap (λ (x : Ending Callee). way_target s x.way) (sym (one_ending (gone_of callee values) ending e))

not_two : (r : ℕ) → (r ≡ 6) ⊎ IsTailRegister r → r ≡ 2 → ⊥
not_two r (inl six) two = omega (arith, six, two)
not_two r (inr (inl seven)) two = omega (arith, seven, two)
not_two r (inr (inr (inl a))) two = (let low = a.0 in omega (arith, low, two))
not_two r (inr (inr (inr a))) two = (let low = a.0 in omega (arith, low, two))

tail_form : (operands : List Operand) → IsTrue (fits_tail operands) → LeftForm PseudoTail operands
tail_form (Symbol name ∷ rest) t = record {
  callee = Named name;
  first = Symbol name;
  rest = rest;
  are = refl;
  named = refl;
  names = tt;
  left = λ ending e s. by_tail (Named name) (implicit_uses rest) ending e s;
}
tail_form _ t = absurd cc

held_tail_form : (operands : List Operand) → IsTrue (fits_held_tail operands) → LeftForm PseudoTailIndirect operands
held_tail_form (ImplicitUse r ∷ rest) t =
    let p = and_parts (is_held_tail_register r) (list_all is_held_tail_use rest) t in
    let is = tail_callee r p.0 in
    let other = ap (λ (b : Bool). left_by (held_tail (cond b (implicit_uses rest) (r ∷ implicit_uses rest)))) (ne_eqb r 2 (not_two r is)) in
    record {
      callee = Held r;
      first = ImplicitUse r;
      rest = rest;
      are = refl;
      named = refl;
      names = callee_low r is;
      left = λ ending e s. by_tail (Held r) (implicit_uses rest) ending (sym other ∙ e) s;
    }
held_tail_form _ t = absurd cc

gone_form : (operands : List Operand) → IsTrue (fits_gone operands) → LeftForm NoReturnCall operands
gone_form (Symbol name ∷ Mask ∷ rest) t = record {
  callee = Named name;
  first = Symbol name;
  rest = Mask ∷ rest;
  are = refl;
  named = refl;
  names = tt;
  left = λ ending e s. by_gone (Named name) (implicit_uses rest) ending e s;
}
gone_form _ t = absurd cc

held_gone_form : (operands : List Operand) → IsTrue (fits_held_gone operands) → LeftForm NoReturnCallIndirect operands
held_gone_form (ImplicitUse r ∷ Mask ∷ rest) t =
    let p = and_parts (is_call_register r) (list_all is_last_argument rest) t in
    let is = held_callee r p.0 in
    let other = ap (λ (b : Bool). left_by (held_gone (cond b (implicit_uses rest) (r ∷ implicit_uses rest)))) (ne_eqb r 2 is.0) in
    record {
      callee = Held r;
      first = ImplicitUse r;
      rest = Mask ∷ rest;
      are = refl;
      named = refl;
      names = is.1;
      left = λ ending e s. by_gone (Held r) (implicit_uses rest) ending (sym other ∙ e) s;
    }
held_gone_form _ t = absurd cc

left_form : (op : Op) (operands : List Operand) → IsTrue (has_form op operands) → is_leaving op ≡ true → LeftForm op operands
left_form PseudoTail operands t is = tail_form operands t
left_form PseudoTailIndirect operands t is = held_tail_form operands t
left_form NoReturnCall operands t is = gone_form operands t
left_form NoReturnCallIndirect operands t is = held_gone_form operands t
left_form _ operands t is = absurd cc

-- the same of an instruction whose operands are known
pub left_form_at : {volatile : Bool} (op : Op) (operands : List Operand) (i : Instruction) → (let made : Instruction = record { op = op; operands = operands; volatile = volatile } in made) ≡ i →
    IsTrue (has_form op operands) → is_leaving i.op ≡ true → LeftForm op operands
left_form_at op operands i e t is = left_form op operands t (ap (λ (x : Instruction). is_leaving x.op) e ∙ is)

pub left_first : (op : Op) (operands : List Operand) (f : LeftForm op operands) (first : Operand) (rest : List Operand) → operands ≡ first ∷ rest →
    first ≡ f.first
left_first op operands f first rest e = let both : first ∷ rest ≡ f.first ∷ f.rest = sym e ∙ f.are in cc

pub left_not_empty : (op : Op) (operands : List Operand) → LeftForm op operands → length operands ≡ 0 → ⊥
left_not_empty op operands f none = let some = ap length f.are in omega (arith, some, none)

-- what is called is what the function is left for
pub left_told : {E : Type 0} {volatile : Bool} (op : Op) (operands : List Operand) (i : Instruction) →
    (let made : Instruction = record { op = op; operands = operands; volatile = volatile } in made) ≡ i → (f : LeftForm op operands) (first : Operand) → first ≡ f.first →
    (h : Hart) (r : Result CallTarget E) →
    IfOk r (λ t. (s : Machine) (c : Callee) → StandsFor h s → callee_named first ≡ Some c → t ≡ called_at s c) →
    IfOk r (λ t. (s : Machine) (ending : Ending Callee) → StandsFor h s → left_by (row_of i) ≡ Some ending → Some t ≡ way_target s ending.way)
left_told op operands i e f first is h (Err x) told = tt
left_told op operands i e f first is h (Ok t) told = λ s ending stands left.
    ap (λ (x : CallTarget). Some x) (told s f.callee stands (ap callee_named is ∙ f.named))
    ∙ sym (f.left ending (ap (λ (x : Instruction). left_by (row_of x)) e ∙ left) s)

-- ---- other code

none_add : (rd a n : ℕ) → left_by (add_row rd a n) ≡ None
none_add rd zero n = refl
none_add rd (suc r) zero = refl
none_add rd (suc r) (suc n) = refl

none_move : (rd rs : ℕ) → left_by (move_row rd rs) ≡ None
none_move rd zero = refl
none_move rd (suc r) = refl

none_immediate : (op : ImmediateOp) (rd a n : ℕ) → left_by (immediate_row op rd a n) ≡ None
none_immediate Addi rd a n = none_add rd a n
none_immediate _ rd a n = refl

none_object : (op : ImmediateOp) (rd n offset : ℕ) → left_by (object_row op rd n offset) ≡ None
none_object Addi rd n offset = refl
none_object _ rd n offset = refl

none_left : (op : Op) (operands : List Operand) → IsTrue (has_form op operands) → is_leaving op ≡ false → left_by (row_by op operands) ≡ None
none_left (Registers op) (Def rd ∷ Use a ∷ Use b ∷ rest) t is = refl
none_left (Immediate op) (Def rd ∷ Use a ∷ Imm i ∷ rest) t is = none_immediate op rd a (word i)
none_left (Immediate op) (Def rd ∷ Object n ∷ Imm i ∷ rest) t is = none_object op rd n (word i)
none_left (Immediate op) (Def rd ∷ Use a ∷ Part half y ∷ rest) t is = refl
none_left Lui (Def rd ∷ Imm i ∷ rest) t is = refl
none_left Lui (Def rd ∷ Part half y ∷ rest) t is = refl
none_left (Branch op) (Use a ∷ Use b ∷ Block target ∷ rest) t is = refl
none_left (Load op) (Def rd ∷ Use base ∷ Imm i ∷ rest) t is = refl
none_left (Load op) (Def rd ∷ Slot n ∷ rest) t is = refl
none_left (Load op) (Def rd ∷ Object n ∷ Imm i ∷ rest) t is = refl
none_left (Load op) (Def rd ∷ Use base ∷ Part half y ∷ rest) t is = refl
none_left (Store op) (Use rs ∷ Use base ∷ Imm i ∷ rest) t is = refl
none_left (Store op) (Use rs ∷ Slot n ∷ rest) t is = refl
none_left (Store op) (Use rs ∷ Object n ∷ Imm i ∷ rest) t is = refl
none_left (Store op) (Use rs ∷ Use base ∷ Part half y ∷ rest) t is = refl
none_left Copy (Def rd ∷ Use rs ∷ rest) t is = none_move rd rs
none_left PseudoBr (Block target ∷ rest) t is = refl
none_left PseudoCall (Symbol name ∷ rest) t is = refl
none_left PseudoRet operands t is = refl
none_left PseudoCallIndirect (Use r ∷ rest) t is = refl
none_left _ _ t is = absurd cc

pub none_left_at : {volatile : Bool} (op : Op) (operands : List Operand) (i : Instruction) → (let made : Instruction = record { op = op; operands = operands; volatile = volatile } in made) ≡ i →
    IsTrue (has_form op operands) → is_leaving i.op ≡ false → left_by (row_of i) ≡ None
none_left_at op operands i e t is =
    sym (ap (λ (x : Instruction). left_by (row_of x)) e) ∙ none_left op operands t (ap (λ (x : Instruction). is_leaving x.op) e ∙ is)

-- ---- what is told

pub no_ending : (ending : Ending Callee) → ◌≡◌ {A = Option (Ending Callee)} None (Some ending) → ⊥
no_ending ending e = cc

-- what is told where control leaves so
abbrev pub Tells : Hart → (left : Option (Ending Callee)) → Option CallTarget → Type 0
Tells h left o = (s : Machine) (ending : Ending Callee) → StandsFor h s → left ≡ Some ending → o ≡ way_target s ending.way

-- where it doesn't leave nothing has to be told
pub nothing_told : (h : Hart) (left : Option (Ending Callee)) → left ≡ None → Tells h left None
nothing_told h left none s ending stands e = absurd (no_ending ending (sym none ∙ e))

pub told_so : {E : Type 0} (h : Hart) (left other : Option (Ending Callee)) → left ≡ other → (r : Result (Option CallTarget) E) → IfOk r (Tells h left) →
    IfOk r (Tells h other)
told_so h left other same (Err x) told = tt
told_so h left other same (Ok o) told = λ s ending stands e. told s ending stands (same ∙ e)
