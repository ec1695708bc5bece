-- Calls by their operands, and the registers that an answer sets.
use Rattle.std.proofs.Common.{◌≡◌, ℕ, zero, suc, ◌+◌, ◌%◌, ◌^◌, ◌<◌, List, [], ◌∷◌, length, get_or, drop, map, Option, Some, None, Bool, true, false}
use Rattle.std.proofs.Common.{cond, nat_eq, nat_lt, IsTrue}
use Rattle.std.proofs.Common.{◌⊎◌, inl, inr, ◌++◌, append_assoc, refl, sym, ap, ◌∙◌, subst, arith}
use Rattle.std.specs.List.{All, list_all, cons_option}
use Rattle.std.proofs.Math.Seq.{drop-cons}
use Rattle.std.proofs.lemmas.Bool.{ltb-true, and_parts}
use Rattle.std.proofs.lemmas.List.Elements.{All-nil, All-cons}
use Rattle.rv64_instr.specs.declared.op.Op.{Op}
use Rattle.rv64_instr.specs.declared.op.Op.TheVariants.{Registers, Immediate, Lui, Branch, Load, Store, Copy}
use Rattle.rv64_instr.specs.declared.op.Op.TheVariants.{PseudoBr, PseudoCall, PseudoRet, PseudoCallIndirect}
use Rattle.rv64_instr.specs.declared.op.Op.TheVariants.{PseudoTail, PseudoTailIndirect, NoReturnCall, NoReturnCallIndirect}
use Rattle.rv64_instr.specs.declared.op.ImmediateOp.{ImmediateOp}
use Rattle.rv64_instr.specs.declared.op.ImmediateOp.TheVariants.{Addi}
use Rattle.rv64_instr.specs.declared.op.RegisterOp.{RegisterOp}
use Rattle.rv64_instr.specs.declared.op.BranchOp.{BranchOp}
use Rattle.rv64_instr.specs.declared.op.LoadOp.{LoadOp}
use Rattle.rv64_instr.specs.declared.op.StoreOp.{StoreOp}
use Rattle.rv64_instr.specs.declared.operand.Operand.{Operand}
use Rattle.rv64_instr.specs.declared.operand.Operand.TheVariants.{Def, Use, ImplicitDef, ImplicitUse, Imm, Slot, Object, Block, Symbol, Mask, Outgoing}
use Rattle.rv64_instr.specs.Form.{is_argument, has_form, fits_call, fits_held_call}
use Rattle.rv64_instr.specs.Instruction.{Instruction}
use Rattle.rv64_instr.specs.LocationEffects.{is_call}
use Rattle.rv64_instr.specs.Row.{Calls, row_of, row_by, implicit_uses, outgoing_words, registers_row, number_row, immediate_row, object_row, add_row}
use Rattle.rv64_instr.specs.Row.{move_row, upper_row}
use Rattle.rv64_instr.specs.Row.{branch_row, load_row, store_row, copy_row, jump_row, held_tail}
use Rattle.rv64_instr.specs.Row.{held_gone, tail_row, gone_row, CallSite, Callee, Named, Held}
use Rattle.rv64_instr.specs.declared.start.CallEvent.{CallEvent}
use Rattle.rv64_instr.specs.declared.start.CallTarget.{CallTarget}
use Rattle.mir_func.specs.SoundFrame.{IsPhysical}
use Rattle.sem_mir.specs.State.{spelled}
use Rattle.sem_machine.specs.Machine.{Machine, register, set_in, set_all_in, address_of}
use Rattle.sem_machine.specs.MachineStep.{call_of, called_at, passed, word_content, words_from}
use Rattle.sim_machine.specs.Kept.{StandsFor, calls_in}
use Rattle.sim_machine.specs.Calls.{event_of}
use Rattle.sim_machine.specs.declared.hart.Hart.{Hart}
use Rattle.sim_machine.specs.steps.Arguments.{argument_of, word_of, callee_named, NamesCallee}

-- ---- operations that don't call

abbrev pub NoCall : Op → List Operand → Type 0
NoCall op operands = is_call (row_by op operands) ≡ false

no_add : (rd a n : ℕ) → is_call (add_row rd a n) ≡ false
no_add rd zero n = refl
no_add rd (suc r) zero = refl
no_add rd (suc r) (suc n) = refl

no_move : (rd rs : ℕ) → is_call (move_row rd rs) ≡ false
no_move rd zero = refl
no_move rd (suc r) = refl

no_immediate : (op : ImmediateOp) (rd a n : ℕ) → is_call (immediate_row op rd a n) ≡ false
no_immediate Addi rd a n = no_add rd a n
no_immediate _ rd a n = refl

no_object : (op : ImmediateOp) (rd n offset : ℕ) → is_call (object_row op rd n offset) ≡ false
no_object Addi rd n offset = refl
no_object _ rd n offset = refl

no_registers : (op : RegisterOp) (operands : List Operand) → is_call (registers_row op operands) ≡ false
no_registers op (Def rd ∷ Use a ∷ Use b ∷ rest) = refl
no_registers op _ = refl

no_number : (op : ImmediateOp) (operands : List Operand) → is_call (number_row op operands) ≡ false
no_number op (Def rd ∷ Use a ∷ Imm i ∷ rest) = no_immediate op rd a _
no_number op (Def rd ∷ Object n ∷ Imm i ∷ rest) = no_object op rd n _
no_number op _ = refl

no_upper : (operands : List Operand) → is_call (upper_row operands) ≡ false
no_upper (Def rd ∷ Imm i ∷ rest) = refl
no_upper _ = refl

no_branch : (op : BranchOp) (operands : List Operand) → is_call (branch_row op operands) ≡ false
no_branch op (Use a ∷ Use b ∷ Block n ∷ rest) = refl
no_branch op _ = refl

no_load : (op : LoadOp) (operands : List Operand) → is_call (load_row op operands) ≡ false
no_load op (Def rd ∷ Use base ∷ Imm i ∷ rest) = refl
no_load op (Def rd ∷ Slot n ∷ rest) = refl
no_load op (Def rd ∷ Object n ∷ Imm i ∷ rest) = refl
no_load op _ = refl

no_store : (op : StoreOp) (operands : List Operand) → is_call (store_row op operands) ≡ false
no_store op (Use rs ∷ Use base ∷ Imm i ∷ rest) = refl
no_store op (Use rs ∷ Slot n ∷ rest) = refl
no_store op (Use rs ∷ Object n ∷ Imm i ∷ rest) = refl
no_store op _ = refl

no_copy : (operands : List Operand) → is_call (copy_row operands) ≡ false
no_copy (Def rd ∷ Use rs ∷ rest) = no_move rd rs
no_copy _ = refl

no_jump : (operands : List Operand) → is_call (jump_row operands) ≡ false
no_jump (Block n ∷ rest) = refl
no_jump _ = refl

no_tail : (operands : List Operand) → is_call (tail_row operands) ≡ false
no_tail (Symbol name ∷ rest) = refl
no_tail _ = refl

no_gone : (operands : List Operand) → is_call (gone_row operands) ≡ false
no_gone (Symbol name ∷ rest) = refl
no_gone _ = refl

no_held_tail : (xs : List ℕ) → is_call (held_tail xs) ≡ false
no_held_tail [] = refl
no_held_tail (r ∷ xs) = refl

no_held_gone : (xs : List ℕ) → is_call (held_gone xs) ≡ false
no_held_gone [] = refl
no_held_gone (r ∷ xs) = refl

-- the operation of a call, by a name or by a register, or one that never calls
abbrev pub Quiet : Op → Type 0
Quiet op = (op ≡ PseudoCall) ⊎ ((op ≡ PseudoCallIndirect) ⊎ ((operands : List Operand) → NoCall op operands))

never : (op : Op) → ((operands : List Operand) → NoCall op operands) → Quiet op
never op none = inr (inr none)

pub quiet : (op : Op) → Quiet op
quiet (Registers op) = never (Registers op) (no_registers op)
quiet (Immediate op) = never (Immediate op) (no_number op)
quiet Lui = never Lui no_upper
quiet (Branch op) = never (Branch op) (no_branch op)
quiet (Load op) = never (Load op) (no_load op)
quiet (Store op) = never (Store op) (no_store op)
quiet Copy = never Copy no_copy
quiet PseudoBr = never PseudoBr no_jump
quiet PseudoCall = inl refl
quiet PseudoRet = never PseudoRet (λ operands. refl)
quiet PseudoCallIndirect = inr (inl refl)
quiet PseudoTail = never PseudoTail no_tail
quiet PseudoTailIndirect = never PseudoTailIndirect (λ operands. no_held_tail (implicit_uses operands))
quiet NoReturnCall = never NoReturnCall no_gone
quiet NoReturnCallIndirect = never NoReturnCallIndirect (λ operands. no_held_gone (implicit_uses operands))

-- ---- the operands of a call

-- an operand that uses no register beyond x31
argument_low : (a : Operand) (rest : List Operand) → IsTrue (is_argument a) → All (λ r. r < 32) (implicit_uses rest) → All (λ r. r < 32)
    (implicit_uses (a ∷ rest))
argument_low (ImplicitUse r) rest t h = by_test (nat_eq r 2) where
  by_test : (b : Bool) → All (λ r. r < 32) (cond b (implicit_uses rest) (r ∷ implicit_uses rest))
  by_test true = h
  by_test false = All-cons (λ (q : ℕ). q < 32) r (implicit_uses rest) (ltb-true r 32 t) h
argument_low (ImplicitDef r) rest t h = h
argument_low _ rest t h = h

arguments_low : (operands : List Operand) → list_all is_argument operands ≡ true → All (λ r. r < 32) (implicit_uses operands)
arguments_low [] h = All-nil (λ (r : ℕ). r < 32)
arguments_low (a ∷ rest) h =
    let p = and_parts (is_argument a) (list_all is_argument rest) h in argument_low a rest p.0 (arguments_low rest p.1)

-- the operands of a call: the callee, and others that use no register beyond x31, where the callee's is one of these too
pub record CallForm (op : Op) (operands : List Operand) : Type 0 where
  pub callee : Callee
  pub first : Operand
  pub rest : List Operand
  pub are : operands ≡ first ∷ rest
  pub named : callee_named first ≡ Some callee
  pub names : IsPhysical first → NamesCallee first
  pub row : row_by op operands ≡ Calls (record { callee = callee; args = implicit_uses rest; outgoing = outgoing_words rest })
  pub low : All (λ r. r < 32) (implicit_uses rest)

call_form_of : (operands : List Operand) → IsTrue (fits_call operands) → CallForm PseudoCall operands
call_form_of (Symbol name ∷ Mask ∷ rest) t = record {
  callee = Named name;
  first = Symbol name;
  rest = Mask ∷ rest;
  are = refl;
  named = refl;
  names = λ physical. tt;
  row = refl;
  low = arguments_low rest t;
}
call_form_of _ t = absurd cc

held_form_of : (operands : List Operand) → IsTrue (fits_held_call operands) → CallForm PseudoCallIndirect operands
held_form_of (Use r ∷ Mask ∷ rest) t = record {
  callee = Held r;
  first = Use r;
  rest = Mask ∷ rest;
  are = refl;
  named = refl;
  names = λ physical. physical;
  row = refl;
  low = arguments_low rest t;
}
held_form_of _ t = absurd cc

true_false : (b : Bool) → b ≡ true → b ≡ false → ⊥
true_false b t f = let e : true ≡ false = sym t ∙ f in cc

call_form_by : (op : Op) (operands : List Operand) → IsTrue (has_form op operands) → is_call (row_by op operands) ≡ true → CallForm op operands
call_form_by op operands t e = elim (quiet op) as (λ _. CallForm op operands) [
  | inl is ↦ subst (λ (o : Op). CallForm o operands) (sym is) (call_form_of operands (subst (λ (o : Op). IsTrue (has_form o operands)) is t))
  | inr others ↦ elim others as (λ _. CallForm op operands) [
    | inl is ↦ subst (λ (o : Op). CallForm o operands) (sym is) (held_form_of operands (subst (λ (o : Op). IsTrue (has_form o operands)) is t))
    | inr none ↦ absurd (true_false _ e (none operands))
  ]
]

pub call_form : (i : Instruction) → IsTrue (has_form i.op i.operands) → is_call (row_of i) ≡ true → CallForm i.op i.operands
call_form i t e = call_form_by i.op i.operands t e

-- the form of a call, whose operands are known
pub form_at : {volatile : Bool} (op : Op) (operands : List Operand) (i : Instruction) → (let made : Instruction = record { op = op; operands = operands; volatile = volatile } in made) ≡ i →
    IsTrue (has_form op operands) → is_call (row_of i) ≡ true → CallForm op operands
form_at op operands i e t c = call_form_by op operands t (ap (λ (x : Instruction). is_call (row_of x)) e ∙ c)

pub first_is : (op : Op) (operands : List Operand) (f : CallForm op operands) (first : Operand) (rest : List Operand) → operands ≡ first ∷ rest →
    (first ≡ f.first) × (rest ≡ f.rest)
first_is op operands f first rest e = let both : first ∷ rest ≡ f.first ∷ f.rest = sym e ∙ f.are in (cc, cc)

pub not_empty : (op : Op) (operands : List Operand) → CallForm op operands → length operands ≡ 0 → ⊥
not_empty op operands f e = let l = ap length f.are in omega (arith, l, e)

-- what a call shows by its operands
pub event_is : (i : Instruction) (f : CallForm i.op i.operands) (first : Operand) (rest : List Operand) (target : CallTarget) (values : List ℕ) (calls : ℕ)
    (h : Hart) (s : Machine) (site : CallSite) → StandsFor h s → first ∷ rest ≡ i.operands →
    ((c : Callee) → callee_named first ≡ Some c → target ≡ called_at s c) →
    values ≡ map (register s) (implicit_uses rest) ++ words_from s 0 (outgoing_words rest) →
    calls ≡ (h.calls + 1) % 2 ^ 64 → call_of (row_of i) ≡ Some site →
    (let made : CallEvent = record { target = target; args = values; number = calls } in made) ≡ event_of site s
event_is i f first rest target values calls h s site stands are to v n e =
    let both : first ∷ rest ≡ f.first ∷ f.rest = are ∙ f.are in
    let named : CallSite = record { callee = f.callee; args = implicit_uses f.rest; outgoing = outgoing_words f.rest } in
    let found : Some named ≡ Some site = sym (ap call_of f.row) ∙ e in
    let same : named ≡ site = one_site named site found in
    let behind : rest ≡ f.rest = cc in
    let here : first ≡ f.first = cc in
    let called : target ≡ called_at s site.callee = to f.callee (ap callee_named here ∙ f.named) ∙ ap (λ (x : CallSite). called_at s x.callee) same in
    let shows : values ≡ passed s site =
    v ∙ ap (λ (xs : List Operand). map (register s) (implicit_uses xs) ++ words_from s 0 (outgoing_words xs)) behind ∙ ap (passed s) same in
    let number : calls ≡ (calls_in s.events + 1) % 2 ^ 64 = omega (arith, n, stands.calls) in
    λ i. record { target = called i; args = shows i; number = number i } where
      one_site : (x y : CallSite) → Some x ≡ Some y → x ≡ y
      one_site x y q = cc

-- ---- several registers set

set_all_more : (r : ℕ) (rs vs : List ℕ) (i : ℕ) (f : ℕ → ℕ) →
    set_all_in (r ∷ rs) (drop i vs) f ≡ set_all_in rs (drop (suc i) vs) (set_in r (get_or vs i 0) f)
set_all_more r rs [] zero f = refl
set_all_more r rs [] (suc i) f = refl
set_all_more r rs (v ∷ vs) zero f = refl
set_all_more r rs (v ∷ vs) (suc i) f = set_all_more r rs vs i f

pub set_all_turn : (rs vs : List ℕ) (i : ℕ) (f t : ℕ → ℕ) → i < length rs → set_all_in (drop i rs) (drop i vs) f ≡ t →
    set_all_in (drop (i + 1) rs) (drop (i + 1) vs) (set_in (get_or rs i 0) (get_or vs i 0) f) ≡ t
set_all_turn rs vs i f t lt h =
    let next : i + 1 ≡ suc i = omega arith in
    ap (λ (n : ℕ). set_all_in (drop n rs) (drop n vs) (set_in (get_or rs i 0) (get_or vs i 0) f)) next
    ∙ sym (set_all_more (get_or rs i 0) (drop (suc i) rs) vs i f) ∙ sym (ap (λ (xs : List ℕ). set_all_in xs (drop i vs) f) (drop-cons rs i 0 lt)) ∙ h

pub each_below : (xs : List ℕ) (n : ℕ) → list_all (λ x. nat_lt x n) xs ≡ true → (i : ℕ) → i < length xs → get_or xs i 0 < n
each_below [] n h i lt = absurd (omega arith)
each_below (x ∷ xs) n h zero lt = ltb-true x n (and_parts (nat_lt x n) (list_all (λ y. nat_lt y n) xs) h).0
each_below (x ∷ xs) n h (suc i) lt = each_below xs n (and_parts (nat_lt x n) (list_all (λ y. nat_lt y n) xs) h).1 i (omega arith)

-- ---- arguments

here_on : (xs : List Operand) (i : ℕ) (x : Operand) → i < length xs → x ≡ get_or xs i x → drop i xs ≡ x ∷ drop (i + 1) xs
here_on xs i x l e =
    let next : i + 1 ≡ suc i = omega arith in
    drop-cons xs i x l ∙ ap (λ (y : Operand). y ∷ drop (suc i) xs) (sym e) ∙ ap (λ (n : ℕ). x ∷ drop n xs) (sym next)

uses_of : (x : Operand) (rest : List Operand) → implicit_uses (x ∷ rest) ≡ cons_option (argument_of x) (implicit_uses rest)
uses_of (ImplicitUse r) rest = by_test (nat_eq r 2) where
  by_test : (b : Bool) → cond b (implicit_uses rest) (r ∷ implicit_uses rest) ≡ cons_option (cond b None (Some r)) (implicit_uses rest)
  by_test true = refl
  by_test false = refl
uses_of _ rest = refl

words_of : (x : Operand) (rest : List Operand) → outgoing_words (x ∷ rest) ≡ cons_option (word_of x) (outgoing_words rest)
words_of (Outgoing n) rest = refl
words_of _ rest = refl

pub words_turn : (xs : List Operand) (i : ℕ) (x : Operand) (o : Option ℕ) → i < length xs → x ≡ get_or xs i x → o ≡ word_of x →
    outgoing_words (drop i xs) ≡ cons_option o (outgoing_words (drop (i + 1) xs))
words_turn xs i x o l e h =
    ap outgoing_words (here_on xs i x l e)
    ∙ (words_of x (drop (i + 1) xs) ∙ ap (λ (p : Option ℕ). cons_option p (outgoing_words (drop (i + 1) xs))) (sym h))

-- the first of the operands from an index on, and those behind it
pub uses_turn : (xs : List Operand) (i : ℕ) (x : Operand) (o : Option ℕ) → i < length xs → x ≡ get_or xs i x → o ≡ argument_of x →
    implicit_uses (drop i xs) ≡ cons_option o (implicit_uses (drop (i + 1) xs))
uses_turn xs i x o l e h =
    ap implicit_uses (here_on xs i x l e) ∙ (uses_of x (drop (i + 1) xs) ∙ ap (λ (p : Option ℕ). cons_option p (implicit_uses (drop (i + 1) xs))) (sym h))

pub value_turn : (f : ℕ → ℕ) (vs us ws t : List ℕ) (r : ℕ) → us ≡ r ∷ ws → vs ++ map f us ≡ t → (vs ++ f r ∷ []) ++ map f ws ≡ t
value_turn f vs us ws t r e h = append_assoc vs (f r ∷ []) (map f ws) ∙ (ap (λ (xs : List ℕ). vs ++ map f xs) (sym e) ∙ h)

-- one more call
pub next_call : (a k : ℕ) → a % 2 ^ 64 ≡ k → suc a % 2 ^ 64 ≡ (k + 1) % 2 ^ 64
next_call a k e = omega arith

-- words from offsets that are the same modulo 2^64
words_alike : (s : Machine) (o p : ℕ) (ns : List ℕ) → o % 2 ^ 64 ≡ p % 2 ^ 64 → words_from s o ns ≡ words_from s p ns
words_alike s o p [] e = refl
words_alike s o p (n ∷ ns) e =
    let at : address_of s 2 o ≡ address_of s 2 p = omega (arith, e) in
    let a = ap (λ (x : ℕ). spelled s.memory x 8) at in
    let b = words_alike s (o + 8) (p + 8) ns (omega (arith, e)) in
    λ i. a i ∷ b i

pub word_turn : (s : Machine) (vs us ws t : List ℕ) (o p n : ℕ) → p ≡ (o + 8) % 2 ^ 64 → us ≡ n ∷ ws → vs ++ words_from s o us ≡ t →
    (vs ++ word_content s o ∷ []) ++ words_from s p ws ≡ t
word_turn s vs us ws t o p n next e h =
    append_assoc vs (word_content s o ∷ []) (words_from s p ws)
    ∙ (ap (λ (xs : List ℕ). vs ++ word_content s o ∷ xs) (words_alike s p (o + 8) ws (omega (arith, next)))
    ∙ (ap (λ (xs : List ℕ). vs ++ words_from s o xs) (sym e) ∙ h))
