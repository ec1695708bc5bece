-- What the items of a function that follows a source are like, as its frame needs it.
use Rattle.std.proofs.Common.{◌≡◌, ℕ, zero, suc, List, [], ◌∷◌, All, Option, Some, None}
use Rattle.std.proofs.Common.{Bool, true, false, cond, nat_eq, nat_le, ◌&&◌, refl, ◌⊎◌, inl, inr, arith}
use Rattle.std.specs.List.{list_all}
use Rattle.std.proofs.lemmas.Bool.{leb-true, and_parts}
use Rattle.std.proofs.lemmas.List.Elements.{All-nil, All-cons}
use Rattle.rv64_instr.specs.declared.op.Op.{Op}
use Rattle.rv64_instr.specs.declared.op.Op.TheVariants.{Registers, Immediate, Lui, Branch, Load, Store, Copy}
use Rattle.rv64_instr.specs.declared.op.Op.TheVariants.{PseudoBr, PseudoCall, PseudoRet, PseudoCallIndirect}
use Rattle.rv64_instr.specs.declared.op.Op.TheVariants.{PseudoTail, PseudoTailIndirect, NoReturnCall, NoReturnCallIndirect}
use Rattle.rv64_instr.specs.declared.op.ImmediateOp.{ImmediateOp}
use Rattle.rv64_instr.specs.declared.op.ImmediateOp.TheVariants.{Addi}
use Rattle.rv64_instr.specs.declared.operand.Operand.{Operand}
use Rattle.rv64_instr.specs.declared.operand.Operand.TheVariants.{Def, Use, ImplicitUse, GlobalRegisters, Imm, Slot, Object, Part, Block, Symbol}
use Rattle.rv64_instr.specs.Arithmetic.{word, taken, load_width, store_width}
use Rattle.rv64_instr.specs.Form.{has_form, is_result, is_tail_use, is_held_tail_use, is_held_tail_register}
use Rattle.rv64_instr.specs.Row.{Row, Loads, Stores, LoadsSlot, Branches, Jumps, Calls, row_of, CallSite}
use Rattle.rv64_instr.specs.Row.{row_by, move_row, immediate_row, object_row, implicit_uses, held_tail, held_gone}
use Rattle.rv64_instr.specs.DefsAndUses.{reads}
use Rattle.rv64_instr.specs.declared.start.CallTarget.{CallTarget}
use Rattle.rv64_instr.proofs.Tails.{IsTailRegister, held_tail_use, held_tail_uses, tail_callee, uses_hold, one_more}
use Rattle.mir_func.specs.declared.item.Item.{Item}
use Rattle.mir_func.specs.declared.item.ItemKind.{ItemKind}
use Rattle.mir_func.specs.declared.item.ItemKind.TheVariants.{Code, Mark, Phi}
use Rattle.mir_func.specs.declared.position.Origin.{Origin}
use Rattle.mir_func.specs.declared.position.Origin.TheVariants.{Kept, Before}
use Rattle.mir_func.specs.Exits.{row_leads_back, leads_back}
use Rattle.mir_func.specs.Graph.{Program}
use Rattle.mir_func.specs.Sound.{HasForm}
use Rattle.sem_mir.specs.State.{Core, Reply}
use Rattle.sem_mir.specs.Step.{Outcome, Falls, Goes, Gives, Traps, Asks, Breaks, act, does, read, are_written, with_core, address_at, is_fault, slot_loaded}
use Rattle.sem_mir.specs.Step.{exec_external_call, call_faults, passed, do_item, called_at}
use Rattle.sem_mir.specs.Align.{is_jump_row, is_jump, waits_at, ByItems, After, since_of}
use Rattle.sem_mir.specs.Follow.{RowFits, KindFits}
use Rattle.sem_simulation.specs.MatchStates.{since_item}
use Rattle.frame_rule.proofs.Saved.{IsPassed}

-- ---- where code goes elsewhere, it is a branch

abbrev IsGoing : Row → Type 0
IsGoing (Branches op a b t) = Unit {0}
IsGoing (Jumps t) = Unit {0}
IsGoing _ = ⊥

abbrev GoesBy : Row → Outcome → Type 0
GoesBy r (Goes n c) = IsGoing r
GoesBy r _ = Unit {0}

either_by : (r : Row) (b : Bool) (x y : Outcome) → GoesBy r x → GoesBy r y → GoesBy r (cond b x y)
either_by r true x y a b = a
either_by r false x y a b = b

slot_by : (rd n : ℕ) (c : Core) (x : Option ℕ) → GoesBy (LoadsSlot rd n) (slot_loaded rd c x)
slot_by rd n c None = tt
slot_by rd n c (Some v) = tt

call_by : (call : CallSite) (t : CallTarget) (vs outgoing : List ℕ) (c : Core) (rs : List Reply) → GoesBy (Calls call) (exec_external_call t vs outgoing c rs)
call_by call t vs outgoing c [] = tt
call_by call t vs outgoing c (x ∷ rs) = either_by (Calls call) (call_faults c outgoing x) Traps _ tt tt

does_by : (r : Row) (c : Core) → GoesBy r (does r c)
unfolding does
does_by (Loads rd op b o) c = either_by (Loads rd op b o) (is_fault b c (address_at c b o) (load_width op)) Traps _ tt tt
does_by (Stores op rs b o) c = either_by (Stores op rs b o) (is_fault b c (address_at c b o) (store_width op)) Traps _ tt tt
does_by (LoadsSlot rd n) c = slot_by rd n c (c.slots n)
does_by (Branches op a b t) c = either_by (Branches op a b t) (taken op (read c a) (read c b)) (Goes t c) (Falls c) tt tt
does_by (Calls call) c = call_by call (called_at c call.callee) (passed c call) call.outgoing c c.script
does_by _ c = tt

act_by : (r : Row) (c : Core) → GoesBy r (act r c)
unfolding act
act_by r c = either_by r (are_written c (reads r)) (does r c) Traps (does_by r c) tt

going : (r : Row) (j : Core → Core) (x : Outcome) (n : ℕ) (e : Core) → GoesBy r x → with_core j x ≡ Goes n e → IsGoing r
going r j (Falls c) n e h w = cc
going r j (Goes m c) n e h w = h
going r j (Gives v) n e h w = cc
going r j Traps n e h w = cc
going r j Asks n e h w = cc
going r j Breaks n e h w = cc

row_moves : (src : Program) (r : Row) (source_end : ℕ) (o : Origin) → RowFits src r source_end o → IsGoing r →
    since_of (waits_at (is_jump_row r) o) ≡ After
row_moves src (Branches op a b t) source_end (Kept p) f h = refl
row_moves src (Branches op a b t) source_end (Before p) f h = absurd f
row_moves src (Jumps t) source_end (Kept p) f h = refl
row_moves src (Jumps t) source_end (Before p) f h = refl
row_moves src _ source_end o f h = absurd h

-- after a branch the source moves on: a conditional one is kept
pub branch_moves : (src f : Program) (source_end : ℕ) (x : Item) → KindFits src x.kind source_end x.origin → (c e : Core) (n : ℕ) →
    do_item f x.kind c ≡ Goes n e → since_item ByItems x ≡ After
branch_moves src f source_end x fits c e n go = by_kind x.kind fits go where
  by_kind : (k : ItemKind) → KindFits src k source_end x.origin → do_item f k c ≡ Goes n e → since_of (waits_at (is_jump k) x.origin) ≡ After
  by_kind (Code i m) h w = row_moves src (row_of i) source_end x.origin h (going (row_of i) _ (act (row_of i) c) n e (act_by (row_of i) c) w)
  by_kind (Mark v m) h w = cc
  by_kind (Phi p m) h w = cc

-- ---- what is read where control leaves a function back to its caller

abbrev pub IsResult : ℕ → Type 0
IsResult r = IsPassed r

none : All IsResult []
none = All-nil IsResult

results_read : (os : List Operand) → list_all is_result os ≡ true → All IsResult (implicit_uses os)
results_read [] h = none
results_read (ImplicitUse r ∷ os) h =
    let p = and_parts (nat_le 10 r && nat_le r 17) (list_all is_result os) h in
    let q = and_parts (nat_le 10 r) (nat_le r 17) p.0 in
    by_test (nat_eq r 2) (results_read os p.1) (inr (inl (leb-true 10 r q.0, leb-true r 17 q.1))) where
      by_test : (b : Bool) → All IsResult (implicit_uses os) → IsResult r → All IsResult (cond b (implicit_uses os) (r ∷ implicit_uses os))
      by_test true more here = more
      by_test false more here = All-cons IsResult r (implicit_uses os) here more
results_read (GlobalRegisters ∷ os) h = results_read os h
results_read (_ ∷ os) h = cc

immediate_on : (op : ImmediateOp) (rd a n : ℕ) → row_leads_back (immediate_row op rd a n) ≡ true → All IsResult (reads (immediate_row op rd a n))
immediate_on Addi rd zero n h = cc
immediate_on Addi rd (suc r) zero h = cc
immediate_on Addi rd (suc r) (suc n) h = cc
immediate_on _ rd a n h = cc

object_on : (op : ImmediateOp) (rd n o : ℕ) → row_leads_back (object_row op rd n o) ≡ true → All IsResult (reads (object_row op rd n o))
object_on Addi rd n o h = cc
object_on _ rd n o h = none

move_on : (rd rs : ℕ) → row_leads_back (move_row rd rs) ≡ true → All IsResult (reads (move_row rd rs))
move_on rd zero h = cc
move_on rd (suc r) h = cc

-- a call in tail position reads such registers
of_tail : (r : ℕ) → IsTailRegister r → IsResult r
of_tail r (inl seven) = inl (omega (arith, seven), omega (arith, seven))
of_tail r (inr (inl is)) = inr (inl is)
of_tail r (inr (inr is)) = inr (inr is.0)

of_callee : (r : ℕ) → (r ≡ 6) ⊎ IsTailRegister r → IsResult r
of_callee r (inl six) = inl (omega (arith, six), omega (arith, six))
of_callee r (inr is) = of_tail r is

held_tails_read : (os : List Operand) → list_all is_held_tail_use os ≡ true → All IsResult (implicit_uses os)
held_tails_read os h = uses_hold IsResult is_held_tail_use by_use os h where
  by_use : (r : ℕ) → is_held_tail_use (ImplicitUse r) ≡ true → (r ≡ 2) ⊎ IsResult r
  by_use r h = elim (held_tail_use r h) as (λ _. (r ≡ 2) ⊎ IsResult r) [ inl two ↦ inl two | inr is ↦ inr (of_callee r is) ]

tails_read : (os : List Operand) → list_all is_tail_use os ≡ true → All IsResult (implicit_uses os)
tails_read os h = held_tails_read os (held_tail_uses os h)

held_tail_on : (xs : List ℕ) → All IsResult xs → All IsResult (reads (held_tail xs))
held_tail_on [] h = none
held_tail_on (r ∷ xs) h = h

held_gone_on : (xs : List ℕ) → row_leads_back (held_gone xs) ≡ true → All IsResult (reads (held_gone xs))
held_gone_on [] h = none
held_gone_on (r ∷ xs) h = cc

final_by : (op : Op) (os : List Operand) → has_form op os ≡ true → row_leads_back (row_by op os) ≡ true → All IsResult (reads (row_by op os))
final_by (Registers op) (Def rd ∷ Use a ∷ Use b ∷ rest) h e = cc
final_by (Immediate op) (Def rd ∷ Use a ∷ Imm i ∷ rest) h e = immediate_on op rd a (word i) e
final_by (Immediate op) (Def rd ∷ Object n ∷ Imm i ∷ rest) h e = object_on op rd n (word i) e
final_by (Immediate op) (Def rd ∷ Use a ∷ Part half y ∷ rest) h e = cc
final_by Lui (Def rd ∷ Imm i ∷ rest) h e = cc
final_by Lui (Def rd ∷ Part half y ∷ rest) h e = cc
final_by (Branch op) (Use a ∷ Use b ∷ Block target ∷ rest) h e = cc
final_by (Load op) (Def rd ∷ Use base ∷ Imm i ∷ rest) h e = cc
final_by (Load op) (Def rd ∷ Slot n ∷ rest) h e = cc
final_by (Load op) (Def rd ∷ Object n ∷ Imm i ∷ rest) h e = cc
final_by (Load op) (Def rd ∷ Use base ∷ Part half y ∷ rest) h e = cc
final_by (Store op) (Use rs ∷ Use base ∷ Imm i ∷ rest) h e = cc
final_by (Store op) (Use rs ∷ Slot n ∷ rest) h e = cc
final_by (Store op) (Use rs ∷ Object n ∷ Imm i ∷ rest) h e = cc
final_by (Store op) (Use rs ∷ Use base ∷ Part half y ∷ rest) h e = cc
final_by Copy (Def rd ∷ Use rs ∷ rest) h e = move_on rd rs e
final_by PseudoBr (Block target ∷ rest) h e = cc
final_by PseudoCall (Symbol name ∷ rest) h e = cc
final_by PseudoRet os h e = results_read os h
final_by PseudoCallIndirect (Use r ∷ rest) h e = cc
final_by PseudoTail (Symbol name ∷ rest) h e = tails_read rest h
final_by PseudoTailIndirect (ImplicitUse r ∷ rest) h e =
    let p = and_parts (is_held_tail_register r) (list_all is_held_tail_use rest) h in
    held_tail_on (implicit_uses (ImplicitUse r ∷ rest))
    (one_more IsResult r (implicit_uses rest) (inr (of_callee r (tail_callee r p.0))) (held_tails_read rest p.1))
final_by PseudoTailIndirect os h e = absurd cc
final_by NoReturnCall (Symbol name ∷ rest) h e = cc
final_by NoReturnCallIndirect os h e = held_gone_on (implicit_uses os) e
final_by _ _ h e = none

abbrev pub ReadsResults : ItemKind → Type 0
ReadsResults (Code i k) = All IsResult (reads (row_of i))
ReadsResults (Mark v m) = Unit {0}
ReadsResults (Phi p k) = Unit {0}

pub final_reads : (k : ItemKind) → HasForm k → leads_back k ≡ true → ReadsResults k
final_reads (Code i n) h e = final_by i.op i.operands h e
final_reads (Mark v m) h e = tt
final_reads (Phi p n) h e = tt
