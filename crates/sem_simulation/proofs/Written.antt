-- A register that is written stays so along a run; so a source doesn't fault where it returns physical registers.
use Rattle.std.proofs.Common.{◌≡◌, ℕ, zero, suc, ◌<◌, List, [], ◌∷◌, All, Option, Some, None, Bool, true, false, cond, nat_eq, nat_le, is_some, ◌&&◌, refl}
use Rattle.std.proofs.Common.{sym, ap, ◌∙◌, subst, inl, inr, arith, ◌++◌}
use Rattle.std.specs.List.{list_all}
use Rattle.std.proofs.lemmas.Bool.{cases_eq, and_parts, leb-true}
use Rattle.std.proofs.lemmas.List.Elements.{All-cons, All-head, All-tail, All-nil}
use Rattle.sem_mir.specs.rv64_instr.declared.op.Op.{Op}
use Rattle.sem_mir.specs.rv64_instr.declared.op.Op.TheVariants.{Registers, Immediate, Lui, Branch as BranchOn, Load, Store as StoreOf, Copy}
use Rattle.sem_mir.specs.rv64_instr.declared.op.Op.TheVariants.{PseudoBr, PseudoCall, PseudoRet, PseudoCallIndirect}
use Rattle.sem_mir.specs.rv64_instr.declared.op.Op.TheVariants.{PseudoTail, PseudoTailIndirect, NoReturnCall, NoReturnCallIndirect}
use Rattle.sem_mir.specs.rv64_instr.declared.op.ImmediateOp.{ImmediateOp}
use Rattle.sem_mir.specs.rv64_instr.declared.op.ImmediateOp.TheVariants.{Addi}
use Rattle.sem_mir.specs.rv64_instr.declared.operand.Operand.{Operand}
use Rattle.sem_mir.specs.rv64_instr.declared.operand.Operand.TheVariants.{Def, Use, ImplicitUse, GlobalRegisters, Imm, Slot as SlotOperand, Object, Block, Symbol, Mask}
use Rattle.sem_mir.specs.rv64_instr.Instruction.{Instruction}
use Rattle.sem_mir.specs.rv64_instr.Form.{is_result, has_form}
use Rattle.sem_mir.specs.rv64_instr.Arithmetic.{word}
use Rattle.sem_mir.specs.rv64_instr.Row.{Row, Fixes, Moves, Sets, Addresses, Loads, Stores, LoadsSlot, StoresSlot, Branches, Jumps, Calls, Returns, Unfit, row_of}
use Rattle.sem_mir.specs.rv64_instr.Row.{row_by, implicit_uses, move_row, immediate_row, object_row, held_tail, held_gone}
use Rattle.sem_mir.specs.rv64_instr.DefsAndUses.{caller_saved, reads, way_reads}
use Rattle.sem_mir.proofs.rv64_instr.Tails.{tails_low, held_low, arguments_low, held_gone_low, last_arguments}
use Rattle.sem_mir.specs.mir_func.declared.object.Object as stack_object
use Rattle.sem_mir.specs.mir_func.declared.position.Pos.{Pos}
use Rattle.sem_mir.specs.mir_func.declared.item.Item.{Item}
use Rattle.sem_mir.specs.mir_func.declared.item.ItemKind.{ItemKind}
use Rattle.sem_mir.specs.mir_func.declared.item.ItemKind.TheVariants.{Code, Mark, Phi}
use Rattle.sem_mir.specs.State.{Reply, Core, State, content, put, put_all}
use Rattle.sem_mir.specs.Step.{Went, Outcome, Falls, Goes, Gives, Traps, Asks}
use Rattle.sem_mir.specs.Step.{Breaks, moved, set_register, exec_external_call, slot_loaded, does, are_written}
use Rattle.sem_mir.specs.Step.{act, with_core, numbered, do_item, do_fetch, step, called_at, result_at, passed, call_faults}
use Rattle.sem_mir.specs.rv64_instr.LocationEffects.{is_call}
use Rattle.sem_mir.specs.mir_func.Graph.{Program, Fetch, Here, EndOfBlock, Outside}
use Rattle.sem_mir.specs.Align.{Arrives, here, onward}
use Rattle.sem_mir.specs.InitialState.{IsInitialState}
use Rattle.sem_mir.specs.Follow.{OnRow}
use Rattle.sem_mir.specs.rv64_instr.View.{class_of, Return}
use Rattle.sem_mir.specs.rv64_instr.declared.start.CallTarget.{CallTarget}
use Rattle.sem_simulation.specs.Refinement.{FaultsAt}
use Rattle.sem_simulation.proofs.Outcomes.{faults_traps}
use Rattle.sem_mir.specs.Effects.{OnCore}
use Rattle.sem_mir.proofs.Outcomes.{on_either, step_item}
use Rattle.sem_mir.proofs.Places.{put_same, put_other}
use Rattle.sem_mir.proofs.Alignment.{arrives_at}

-- what is written in c is written in d
abbrev pub StaysWritten : Core → Core → Type 0
StaysWritten c d = (r v : ℕ) → content c.regs r ≡ Some v → (w : ℕ) × (content d.regs r ≡ Some w)

put_written : (rd x r v : ℕ) (regs : ℕ → Option ℕ) → content regs r ≡ Some v → (w : ℕ) × (content (put rd x regs) r ≡ Some w)
put_written rd x zero v regs e = (0, refl)
put_written rd x (suc r) v regs e =
    elim (cases_eq (suc r) rd) as (λ _. (w : ℕ) × (content (put rd x regs) (suc r) ≡ Some w)) [
      | inl same ↦ (x, subst (λ (q : ℕ). content (put q x regs) (suc r) ≡ Some x) same (put_same (suc r) x regs (λ z. cc)))
      | inr ne ↦ (v, put_other rd (suc r) x regs ne ∙ e)
    ]

put_all_written : (rs vs : List ℕ) (r v : ℕ) (regs : ℕ → Option ℕ) → content regs r ≡ Some v → (w : ℕ) × (content (put_all rs vs regs) r ≡ Some w)
put_all_written [] vs r v regs e = (v, e)
put_all_written (q ∷ rs) [] r v regs e = let k = put_written q 0 r v regs e in put_all_written rs [] r k.0 (put q 0 regs) k.1
put_all_written (q ∷ rs) (x ∷ vs) r v regs e = let k = put_written q x r v regs e in put_all_written rs vs r k.0 (put q x regs) k.1

set_written : (rd x : ℕ) (c : Core) → StaysWritten c (set_register rd x c)
set_written rd x c r v e = put_written rd x r v c.regs e

same_written : (c : Core) → StaysWritten c c
same_written c r v e = (v, e)

does_written : (r : Row) (c : Core) → OnCore (StaysWritten c) (does r c)
unfolding does
does_written (Fixes rd n) c = set_written rd _ c
does_written (Moves rd rs) c = set_written rd _ c
does_written (Sets rd op a b) c = set_written rd _ c
does_written (Addresses rd n o) c = set_written rd _ c
does_written (Loads rd op b o) c = search (on_either, set_written)
does_written (Stores op rs b o) c = search (on_either, same_written)
does_written (LoadsSlot rd n) c = by_slot (c.slots n) where
  by_slot : (x : Option ℕ) → OnCore (StaysWritten c) (slot_loaded rd c x)
  by_slot None = tt
  by_slot (Some x) = set_written rd x c
does_written (StoresSlot rs n) c = λ r v e. (v, e)
does_written (Branches op a b t) c = search (on_either, same_written)
does_written (Jumps t) c = λ r v e. (v, e)
does_written (Calls call) c = by_script (called_at c call.callee) (passed c call) call.outgoing c.script where
  by_script : (t : CallTarget) (vs os : List ℕ) (rs : List Reply) → OnCore (StaysWritten c) (exec_external_call t vs os c rs)
  by_script t vs os [] = tt
  by_script t vs os (q ∷ rs) = on_either (StaysWritten c) (call_faults c os q) _ _ tt (λ r v e. put_all_written caller_saved q.regs r v c.regs e)
does_written (Returns v) c = tt
does_written Unfit c = tt

act_written : (r : Row) (c : Core) → OnCore (StaysWritten c) (act r c)
unfolding act
act_written r c = on_either (StaysWritten c) (are_written c (reads r)) (does r c) Traps (does_written r c) tt

item_written : (g : Program) (k : ItemKind) (c : Core) → OnCore (StaysWritten c) (do_item g k c)
item_written g (Code i n) c = by_outcome (act (row_of i) c) n (act_written (row_of i) c) where
  by_outcome : (o : Outcome) (n : Option ℕ) → OnCore (StaysWritten c) o →
      OnCore (StaysWritten c) (with_core (numbered g.sees_pointer (is_call (row_of i)) n i.operands) o)
  by_outcome (Falls d) None h = h
  by_outcome (Falls d) (Some k) h = h
  by_outcome (Goes t d) None h = h
  by_outcome (Goes t d) (Some k) h = h
  by_outcome (Gives v) n h = tt
  by_outcome Traps n h = tt
  by_outcome Asks n h = tt
  by_outcome Breaks n h = tt
item_written g (Mark x m) c = λ r v e. (v, e)
item_written g (Phi p n) c = λ r v e. (v, e)

went_written : (g : Program) (s u : State) → step g s ≡ Went u → StaysWritten s.core u.core
went_written g s u go = by_outcome (do_fetch g (g.fetch s.pos) s.core) (by_fetch (g.fetch s.pos)) go where
  by_fetch : (x : Fetch) → OnCore (StaysWritten s.core) (do_fetch g x s.core)
  by_fetch (Here i) = item_written g i.kind s.core
  by_fetch (EndOfBlock k n) = λ r v e. (v, e)
  by_fetch Outside = tt

  by_outcome : (o : Outcome) → OnCore (StaysWritten s.core) o → moved g.enter s.pos o ≡ Went u → StaysWritten s.core u.core
  by_outcome (Falls c) h e = let k : c ≡ u.core = cc in subst (StaysWritten s.core) k h
  by_outcome (Goes n c) h e = let k : c ≡ u.core = cc in subst (StaysWritten s.core) k h
  by_outcome (Gives v) h e = cc
  by_outcome Traps h e = cc
  by_outcome Asks h e = cc
  by_outcome Breaks h e = cc

pub run_written : (g : Program) (A : Pos → Type 0) (p : Pos) {s t : State} → Arrives g A p s t → StaysWritten s.core t.core
run_written g A p (here e) r v k = (v, k)
run_written g A p (onward {s = s} {u = u} free go rest) r v k = let z = went_written g s u go r v k in run_written g A p rest r z.0 z.1

-- where all that a return reads is written, it doesn't trap
reads_written : (c : Core) (rs : List ℕ) → ((r : ℕ) → r < 32 → (v : ℕ) × (content c.regs r ≡ Some v)) → All (λ r. r < 32) rs → are_written c rs ≡ true
reads_written c [] has low = refl
reads_written c (r ∷ rs) has low =
    let k = has r (All-head (λ r. r < 32) r rs low) in
    ap (λ (x : Option ℕ). is_some x && are_written c rs) k.1 ∙ reads_written c rs has (All-tail (λ r. r < 32) r rs low)

-- what a return reads are physical registers
abbrev pub HasPhysicalResults : Row → Type 0
HasPhysicalResults (Returns ending) = All (λ r. r < 32) (way_reads ending.way ++ ending.values)
HasPhysicalResults _ = ⊥

-- as the form of returns has it
results_are_physical : (os : List Operand) → list_all is_result os ≡ true → All (λ r. r < 32) (implicit_uses os)
results_are_physical [] e = All-nil (λ r. r < 32)
results_are_physical (ImplicitUse r ∷ rest) e = by_test (results_are_physical rest (and_parts (is_result (ImplicitUse r)) (list_all is_result rest) e).1)
    (nat_eq r 2) where
      low : r < 32
      low =
          let is = (and_parts (is_result (ImplicitUse r)) (list_all is_result rest) e).0 in
          let k = leb-true r 17 (and_parts (nat_le 10 r) (nat_le r 17) is).1 in
          omega (arith, k)

      by_test : All (λ r. r < 32) (implicit_uses rest) → (b : Bool) → All (λ r. r < 32) (cond b (implicit_uses rest) (r ∷ implicit_uses rest))
      by_test more true = more
      by_test more false = All-cons (λ r. r < 32) r (implicit_uses rest) low more
results_are_physical (GlobalRegisters ∷ rest) e = results_are_physical rest e
results_are_physical (_ ∷ rest) e = cc

-- and those of calls in tail position and of calls that don't return
held_tail_physical : (xs : List ℕ) → All (λ r. r < 32) xs → class_of (held_tail xs) ≡ Return → HasPhysicalResults (held_tail xs)
held_tail_physical [] low c = cc
held_tail_physical (r ∷ xs) low c = low

held_gone_physical : (xs : List ℕ) → All (λ r. r < 32) xs → class_of (held_gone xs) ≡ Return → HasPhysicalResults (held_gone xs)
held_gone_physical [] low c = cc
held_gone_physical (r ∷ xs) low c = low

immediate_goes_on : (op : ImmediateOp) (rd a n : ℕ) → class_of (immediate_row op rd a n) ≡ Return → ⊥
immediate_goes_on Addi rd zero n h = cc
immediate_goes_on Addi rd (suc r) zero h = cc
immediate_goes_on Addi rd (suc r) (suc n) h = cc
immediate_goes_on _ rd a n h = cc

object_goes_on : (op : ImmediateOp) (rd n offset : ℕ) → class_of (object_row op rd n offset) ≡ Return → ⊥
object_goes_on Addi rd n offset h = cc
object_goes_on _ rd n offset h = cc

copy_goes_on : (rd rs : ℕ) → class_of (move_row rd rs) ≡ Return → ⊥
copy_goes_on rd zero h = cc
copy_goes_on rd (suc r) h = cc

row_physical : (op : Op) (os : List Operand) → has_form op os ≡ true → class_of (row_by op os) ≡ Return → HasPhysicalResults (row_by op os)
row_physical PseudoRet os e c = results_are_physical os e
row_physical (Registers op) (Def rd ∷ Use a ∷ Use b ∷ rest) e c = cc
row_physical (Immediate op) (Def rd ∷ Use a ∷ Imm i ∷ rest) e c = absurd (immediate_goes_on op rd a (word i) c)
row_physical (Immediate op) (Def rd ∷ Object n ∷ Imm i ∷ rest) e c = absurd (object_goes_on op rd n (word i) c)
row_physical Lui (Def rd ∷ Imm i ∷ rest) e c = cc
row_physical (Load op) (Def rd ∷ Use base ∷ Imm i ∷ rest) e c = cc
row_physical (Load op) (Def rd ∷ SlotOperand n ∷ rest) e c = cc
row_physical (Load op) (Def rd ∷ Object n ∷ Imm i ∷ rest) e c = cc
row_physical (StoreOf op) (Use rs ∷ Use base ∷ Imm i ∷ rest) e c = cc
row_physical (StoreOf op) (Use rs ∷ SlotOperand n ∷ rest) e c = cc
row_physical (StoreOf op) (Use rs ∷ Object n ∷ Imm i ∷ rest) e c = cc
row_physical (BranchOn op) (Use a ∷ Use b ∷ Block target ∷ rest) e c = cc
row_physical Copy (Def rd ∷ Use rs ∷ rest) e c = absurd (copy_goes_on rd rs c)
row_physical PseudoBr (Block target ∷ rest) e c = cc
row_physical PseudoCall (Symbol name ∷ rest) e c = cc
row_physical PseudoCallIndirect (Use r ∷ rest) e c = cc
row_physical PseudoTail (Symbol name ∷ rest) e c = tails_low rest e
row_physical PseudoTailIndirect (ImplicitUse r ∷ rest) e c =
    held_tail_physical (implicit_uses (ImplicitUse r ∷ rest)) (held_low r rest e) c
row_physical NoReturnCall (Symbol name ∷ Mask ∷ rest) e c = arguments_low rest (last_arguments rest e)
row_physical NoReturnCallIndirect (ImplicitUse r ∷ Mask ∷ rest) e c =
    held_gone_physical (implicit_uses (ImplicitUse r ∷ Mask ∷ rest)) (held_gone_low r rest e) c
row_physical _ _ e c = cc

-- so an instruction in its form that returns gives physical registers
pub has_physical_results : (i : Instruction) → has_form i.op i.operands ≡ true → class_of (row_of i) ≡ Return → HasPhysicalResults (row_of i)
has_physical_results i e c = row_physical i.op i.operands e c

row_returns : (g : Program) (k : ItemKind) (c : Core) → ((r : ℕ) → r < 32 → (v : ℕ) × (content c.regs r ≡ Some v)) → OnRow HasPhysicalResults k →
    do_item g k c ≡ Traps → ⊥
unfolding act does
row_returns g (Code i n) c has low e = by_row (row_of i) low e where
  by_row : (r : Row) → HasPhysicalResults r → with_core (numbered g.sees_pointer (is_call (row_of i)) n i.operands) (act r c) ≡ Traps → ⊥
  by_row (Returns ending) low e =
      let w = reads_written c (way_reads ending.way ++ ending.values) has low in
      let k : with_core (numbered g.sees_pointer (is_call (row_of i)) n i.operands) (cond true (Gives (result_at c ending)) Traps) ≡ Traps =
      ap (λ (b : Bool). with_core (numbered g.sees_pointer (is_call (row_of i)) n i.operands) (cond b (Gives (result_at c ending)) Traps)) (sym w) ∙ e in
      cc
  by_row _ low e = absurd low
row_returns g (Mark v m) c has low e = low
row_returns g (Phi p n) c has low e = low

-- so from a start, the source doesn't fault where it has a return
pub returns_never_fault : (src : Program) (stack : List stack_object.Object) (first : ℕ) (s0 : State) → IsInitialState stack first s0 → (p : Pos) (i : Item) →
    src.fetch p ≡ Here i →
    OnRow HasPhysicalResults i.kind → FaultsAt src s0 p → ⊥
returns_never_fault src stack first s0 start p i fi low (s, comes, st) =
    row_returns src i.kind s.core (λ r lt. let k = start.regs r lt in run_written src (λ q. ⊥) p comes r k.0 k.1) low
    (faults_traps src.enter s.pos (do_item src i.kind s.core)
    (sym (step_item src s i (do_item src i.kind s.core) (ap src.fetch (arrives_at src (λ q. ⊥) p comes) ∙ fi) refl) ∙ st))
