-- The machine at the address of code, row by row: its step is that of the function with its frame.
use Rattle.std.proofs.Common.{◌≡◌, ℕ, suc, ◌+◌, ◌-◌, ◌%◌, ◌^◌, ◌<◌, ℤ, pos, ◌-ℤ◌, List, map, All, Contains, Option, Some, None, Bool, true, false}
use Rattle.std.proofs.Common.{cond, refl, sym, ap, ◌∙◌, subst, inl, inr, arith}
use Rattle.rv64_instr.specs.declared.op.BranchOp.{BranchOp}
use Rattle.rv64_instr.specs.Arithmetic.{word, taken}
use Rattle.rv64_instr.specs.Instruction.{Instruction}
use Rattle.rv64_instr.specs.Row.{Row, Branches, Calls, Returns, Unfit, row_of, CallSite, Callee, Ending}
use Rattle.rv64_instr.specs.DefsAndUses.{reads}
use Rattle.rv64_instr.specs.LocationEffects.{is_call}
use Rattle.rv64_instr.proofs.Halves.{adds_part}
use Rattle.rv64_word.specs.Linked.{immediate_of}
use Rattle.rv64_word.specs.MachineRow.{placed}
use Rattle.rv64_instr.specs.LocationEffects.{object_named}
use Rattle.mir_func.specs.declared.debug_substitution.OperandPair.{OperandPair}
use Rattle.mir_func.specs.declared.item.Item.{Item}
use Rattle.mir_func.specs.declared.item.ItemKind.{ItemKind}
use Rattle.mir_func.specs.declared.item.ItemKind.TheVariants.{Code}
use Rattle.mir_func.specs.declared.position.Pos.{Pos}
use Rattle.mir_func.specs.Function.{FramedFunction}
use Rattle.mir_func.specs.Graph.{Here, below, block_start, index_of}
use Rattle.mir_func.specs.Sound.{SlotsIn, ObjectsIn, SlotIn, ObjectIn, BeginWith, PassesFirst, KindPassesFirst}
use Rattle.mir_func.proofs.Passed.{slots_passed, passed_slots, begin_longer, first_doublewords}
use Rattle.mir_func.specs.SoundFrame.{adds_to_pointer, body_of, HasPhysical, slot_offsets, IsFramed, AreDoublewords}
use Rattle.sem_mir.specs.State.{Core, State, content, RunResult}
use Rattle.sem_mir.specs.Step.{Outcome, Falls, Goes, Gives, Traps, Asks, Breaks, act, does, read, or_zero, numbered, with_core, result_at}
use Rattle.sem_mir.specs.Step.{do_item, moved, step, set_register}
use Rattle.sem_mir.proofs.InRange.{row_in_range, step_in_range}
use Rattle.sem_mir.proofs.Outcomes.{step_item}
use Rattle.sem_machine.specs.Image.{Image}
use Rattle.sem_machine.specs.Machine.{Machine, register}
use Rattle.sem_machine.specs.MachineStep.{Stepped, Continues, Ends, past, at, machine_step}
use Rattle.sem_machine.specs.MachineStep as machine
use Rattle.machine_steps_proof.specs.Beside.{frame_low, Beside}
use Rattle.machine_steps_proof.specs.Laid.{fetched, target_of, start_of, HasWord, HasTwoWords, HasCall, HasReturn, HasRow, IsLaidAt}
use Rattle.machine_steps_proof.specs.Pointer.{lowered_by, IsPointerAt}
use Rattle.machine_steps_proof.specs.Steps.{framed_run, Level, OneStep, goes, gives, waits, faults, TwoSteps, over, through, AtCode, single, double}
use Rattle.machine_steps_proof.proofs.Rows.{IsWordRow, FollowsRow, NeedsFrame, acts, rows, beside_at, below as below_word}
use Rattle.machine_steps_proof.proofs.Calls.{FollowsCall, calls, beside_numbered, result_same}
use Rattle.machine_steps_proof.proofs.Registers.{reads_physical}
use Rattle.machine_steps_proof.proofs.Points.{of_item, PointerMotion, keeps, lowers, raises, leaves, pointer_motion, start_down}
use Rattle.machine_steps_proof.proofs.Pointers.{SamePointer, row_keeps, adds_falls, final_needs, adds_needs, final_stops, on_falls, on_goes, falls_one}
use Rattle.machine_steps_proof.proofs.Pointers.{lowers_to}
use Rattle.machine_steps_proof.proofs.Pointers.{raises_to, not_zero, goes_target, goes_into, falls_stays, word_goes, call_goes, numbered_code}
use Rattle.machine_steps_proof.proofs.Lands.{Lands, below_lands, target_lands}
use Rattle.mir_func.specs.Exits.{exit_of, row_exit, Leaves}
use Rattle.mir_func.specs.Sound.{TargetsIn, ids_of}
use Rattle.sem_mir.specs.Step.{Went, Returned, Faulted, Waits, Lost}
use Rattle.sem_simulation.specs.Words.{SameCode}
use Rattle.emit_code.specs.Rule.{object_offset}

module _ (f : FramedFunction) (framed : IsFramed f) (resolve : OperandPair →
    Option OperandPair) (image : Image) (laid : IsLaidAt f image) (t : State) (m : Machine)
    (level : Level f resolve image laid t m) (i : Item) (here : fetched f t.pos ≡ Here i) (c : Instruction) (k : Option ℕ) (kind : i.kind ≡ Code c k) where
  abbrev r : Row
  r = row_of c

  h : Beside f t.core m
  h = level.beside

  physical : All (λ r. r < 32) (reads r)
  physical = reads_physical c (subst HasPhysical kind (of_item f (λ (j : Item). HasPhysical j.kind) framed.physical t.pos i here))

  named_in : SlotsIn (slot_offsets f) (Code c k)
  named_in = subst (SlotsIn (slot_offsets f)) kind (of_item f (λ (j : Item). SlotsIn (slot_offsets f) j.kind) framed.slots t.pos i here)

  slots_in : SlotIn (slot_offsets f) r
  slots_in = named_in.0

  -- the slots that a call passes are the frame's
  declared : (call : CallSite) → r ≡ Calls call → All (Contains (slot_offsets f)) call.outgoing
  declared call e = subst (λ (x : Row). All (Contains (slot_offsets f)) (slots_passed x)) e (passed_slots (slot_offsets f) c named_in.1)

  -- and lie one behind the other from x2 on
  laid_words : (call : CallSite) → r ≡ Calls call → AreDoublewords 0 call.outgoing
  laid_words call e =
      let first = subst (KindPassesFirst (map (λ s. s.offset) f.offsets)) kind
      (of_item f (λ (j : Item). KindPassesFirst (map (λ s. s.offset) f.offsets) j.kind) framed.passed t.pos i here) in
      let begin : BeginWith (map (λ s. s.offset) f.offsets) call.outgoing = subst (PassesFirst (map (λ s. s.offset) f.offsets)) e first in
      first_doublewords 0 (slot_offsets f) call.outgoing framed.offsets_laid
      (begin_longer (map (λ s. s.offset) f.offsets) (map (λ s. s.offset) f.saved) call.outgoing begin)

  objects_in : ObjectIn f.objects r
  objects_in = subst (ObjectsIn f.objects) kind (of_item f (λ (j : Item). ObjectsIn f.objects j.kind) framed.objects t.pos i here)

  done : act r t.core ≡ does r t.core
  done = acts r t.core h.written physical

  motion : PointerMotion f t.pos (Code c k)
  motion = subst (PointerMotion f t.pos) kind (pointer_motion f framed t.pos i here)

  two_below : read t.core 2 < 2 ^ 64
  two_below = below_word f framed t.core m h (content t.core.regs 2) (level.range.regs 2)

  code_of : (d : Instruction) → Code c k ≡ Code d None → c ≡ d
  code_of d e = cc

  needs : NeedsFrame r → read t.core 2 ≡ frame_low f t.core
  needs = by_motion motion where
    by_motion : PointerMotion f t.pos (Code c k) → NeedsFrame r → read t.core 2 ≡ frame_low f t.core
    by_motion (keeps leave here_at next on) n = level.pointer ∙ ap (λ (x : ℕ). t.core.entry - x) here_at
    by_motion (lowers e ne here_at next) n = absurd (adds_needs (word (pos 0 -ℤ pos f.size)) (subst (λ (x : Instruction). NeedsFrame (row_of x)) (code_of
        (adds_to_pointer (pos 0 -ℤ pos f.size)) e) n))
    by_motion (raises e ne here_at next) n = absurd (adds_needs (word (pos f.size)) (subst (λ (x : Instruction). NeedsFrame (row_of x)) (code_of
        (adds_to_pointer (pos f.size)) e) n))
    by_motion (leaves e) n = absurd (final_needs r e n)

  adds_row : (z : ℤ) → c ≡ adds_to_pointer z → does r t.core ≡ Falls (set_register 2 ((read t.core 2 + word z) % 2 ^ 64) t.core)
  adds_row z e = ap (λ (x : Instruction). does (row_of x) t.core) e ∙ adds_falls t.core (word z) two_below

  set_two : (v w : ℕ) (p : Pos) (d : Core) → does r t.core ≡ Falls (set_register 2 v t.core) → does r t.core ≡ Falls d → v ≡ t.core.entry - w →
      lowered_by f p ≡ w → IsPointerAt f p d
  set_two v w p d e g q l =
      let same = falls_one (set_register 2 v t.core) d (sym e ∙ g) in
      subst (IsPointerAt f p) same (q ∙ ap (λ (x : ℕ). t.core.entry - x) (sym l))

  kept_pointer : (p : Pos) (d : Core) → SamePointer t.core d → lowered_by f p ≡ lowered_by f t.pos → IsPointerAt f p d
  kept_pointer p d same l =
      ap or_zero same.0 ∙ level.pointer ∙ ap (λ (x : ℕ). t.core.entry - x) (sym l) ∙ ap (λ (x : ℕ). x - lowered_by f p) (sym same.1)

  -- below the code x2 is where its position says
  falls_pointer : (d : Core) → does r t.core ≡ Falls d → IsPointerAt f (below t.pos) d
  falls_pointer d g = by_motion motion where
    by_motion : PointerMotion f t.pos (Code c k) → IsPointerAt f (below t.pos) d
    by_motion (keeps leave here_at next on) = kept_pointer (below t.pos) d (on_falls (SamePointer t.core) (does r t.core) d (row_keeps t.core r leave) g)
        (next ∙ sym here_at)
    by_motion (lowers e ne here_at next) =
        let z = not_zero f.size ne in
        let p = level.pointer ∙ ap (λ (x : ℕ). t.core.entry - x) here_at in
        let value : (read t.core 2 + word (pos 0 -ℤ pos f.size)) % 2 ^ 64 ≡ t.core.entry - f.size =
        ap (λ (x : ℕ). (x + word (pos 0 -ℤ pos f.size)) % 2 ^ 64) p
        ∙ (let q : t.core.entry - 0 ≡ t.core.entry = omega arith in ap (λ (x : ℕ). (x + word (pos 0 -ℤ pos f.size)) % 2 ^ 64) q)
        ∙ lowers_to t.core.entry f.size z.0 z.1 framed.small h.room h.top in
        set_two ((read t.core 2 + word (pos 0 -ℤ pos f.size)) % 2 ^ 64) f.size (below t.pos) d (adds_row (pos 0 -ℤ pos f.size) (code_of (adds_to_pointer (pos
        0 -ℤ pos f.size)) e)) g value next
    by_motion (raises e ne here_at next) =
        let p = level.pointer ∙ ap (λ (x : ℕ). t.core.entry - x) here_at in
        let q : t.core.entry ≡ t.core.entry - 0 = omega arith in
        let value : (read t.core 2 + word (pos f.size)) % 2 ^ 64 ≡ t.core.entry - 0 =
        ap (λ (x : ℕ). (x + word (pos f.size)) % 2 ^ 64) p ∙ raises_to t.core.entry f.size framed.small h.room h.top ∙ q in
        set_two ((read t.core 2 + word (pos f.size)) % 2 ^ 64) 0 (below t.pos) d (adds_row (pos f.size) (code_of (adds_to_pointer (pos f.size)) e)) g value next
    by_motion (leaves e) = absurd (on_falls (λ (d : Core). ⊥) (does r t.core) d (final_stops r t.core e) g)

  -- and at the start of a block
  goes_pointer : (n q : ℕ) (d : Core) → does r t.core ≡ Goes n d → IsPointerAt f (block_start (suc q)) d
  goes_pointer n q d g = by_motion motion where
    by_motion : PointerMotion f t.pos (Code c k) → IsPointerAt f (block_start (suc q)) d
    by_motion (keeps leave here_at next on) = kept_pointer (block_start (suc q)) d (on_goes (SamePointer t.core) (does r t.core) n d (row_keeps t.core r
        leave) g)
        (start_down f framed q ∙ sym here_at)
    by_motion (lowers e ne here_at next) =
        let bad : Falls (set_register 2 ((read t.core 2 + word (pos 0 -ℤ pos f.size)) % 2 ^ 64) t.core) ≡ Goes n d =
        sym (adds_row (pos 0 -ℤ pos f.size) (code_of (adds_to_pointer (pos 0 -ℤ pos f.size)) e)) ∙ g in cc
    by_motion (raises e ne here_at next) =
        let bad : Falls (set_register 2 ((read t.core 2 + word (pos f.size)) % 2 ^ 64) t.core) ≡ Goes n d =
        sym (adds_row (pos f.size) (code_of (adds_to_pointer (pos f.size)) e)) ∙ g in cc
    by_motion (leaves e) = absurd (on_goes (λ (d : Core). ⊥) (does r t.core) n d (final_stops r t.core e) g)

  -- ---- the step

  abbrev named : Core → Core
  named d = numbered false (is_call r) k c.operands d

  stepped : step (framed_run f resolve image laid) t ≡ moved (framed_run f resolve image laid).enter t.pos (with_core named (does r t.core))
  stepped = step_item (framed_run f resolve image laid) t i (with_core named (does r t.core)) here
      (ap (λ (x : ItemKind). do_item (framed_run f resolve image laid) x t.core) kind ∙ ap (with_core named) done)

  steps_as : (x : Outcome) → does r t.core ≡ x →
      step (framed_run f resolve image laid) t ≡ moved (framed_run f resolve image laid).enter t.pos (with_core named x)
  steps_as x e = stepped ∙ ap (λ (o : Outcome). moved (framed_run f resolve image laid).enter t.pos (with_core named o)) e

  named_pointer : (n : Option ℕ) (p : Pos) (d : Core) → IsPointerAt f p d → IsPointerAt f p (numbered false (is_call r) n c.operands d)
  named_pointer None p d q = q
  named_pointer (Some n) p d q = q

  abbrev below_state : Core → State
  below_state d = record { pos = below t.pos; core = named d }

  abbrev start_state : ℕ → Core → State
  start_state b d = record { pos = block_start (suc (index_of (body_of f.blocks) b)); core = named d }

  level_falls : (d : Core) (n : Machine) → does r t.core ≡ Falls d → Beside f d n → n.counter ≡ laid.address (below t.pos) →
      Level f resolve image laid (below_state d) n
  level_falls d n e b at_next = record {
    beside = beside_numbered f framed d n b false (is_call r) k c.operands;
    range = step_in_range (framed_run f resolve image laid) t (below_state d) level.range (steps_as (Falls d) e);
    pointer = named_pointer k (below t.pos) d (falls_pointer d e);
    counter = at_next;
  }

  level_goes : (b : ℕ) (d : Core) (n : Machine) → does r t.core ≡ Goes b d → Beside f d n → n.counter ≡ start_of f image laid.address b →
      Level f resolve image laid (start_state b d) n
  level_goes b d n e x at_start = record {
    beside = beside_numbered f framed d n x false (is_call r) k c.operands;
    range = step_in_range (framed_run f resolve image laid) t (start_state b d) level.range (steps_as (Goes b d) e);
    pointer = named_pointer k (block_start (suc (index_of (body_of f.blocks) b))) d (goes_pointer b (index_of (body_of f.blocks) b) d e);
    counter = at_start;
  }

  named_code : (d : Core) → SameCode (named d) d
  named_code d = numbered_code false (is_call r) k c.operands d

  by_outcome : (x : Outcome) (st : Stepped) → does r t.core ≡ x → machine_step image m ≡ st → ((result : RunResult) → st ≡ Ends result → ⊥) →
      laid.address (below t.pos) ≡ laid.address t.pos + 4 →
      FollowsRow f (start_of f image laid.address (target_of r)) m x st → OneStep f resolve image laid t m
  by_outcome (Falls d) st e s never next (n, q, counter, b) =
      goes (below_state d) n (steps_as (Falls d) e) (s ∙ q)
      (level_falls d n e b (counter ∙ ap (λ (a : ℕ). a + 4) level.counter ∙ sym next))
  by_outcome (Goes b d) st e s never next (q, x) =
      let target = goes_target r t.core b d e in
      goes (start_state b d) (at (start_of f image laid.address (target_of r)) m) (steps_as (Goes b d) e) (s ∙ q)
      (level_goes b d (at (start_of f image laid.address (target_of r)) m) e x (ap (start_of f image laid.address) target))
  by_outcome Traps st e s never next x = faults (steps_as Traps e) (λ v q. never v (sym s ∙ q))
  by_outcome (Gives v) st e s never next x = absurd x
  by_outcome Asks st e s never next x = absurd x
  by_outcome Breaks st e s never next x = absurd x

  line_is : (l : Rattle.sem_machine.specs.Image.CodeLine) → Rattle.sem_machine.specs.Image.line_at image.lines (laid.address t.pos) ≡ Some l →
      Rattle.sem_machine.specs.Image.line_at image.lines m.counter ≡ Some l
  line_is l e = ap (Rattle.sem_machine.specs.Image.line_at image.lines) level.counter ∙ e

  at_word : IsWordRow r → HasWord f image laid.address t.pos i r → AtCode f resolve image laid t m i
  at_word is w = single w.line (line_is w.line w.stands) w.origin
      (by_outcome (does r t.core)
      (machine.does (placed (start_of f image laid.address (target_of r)) (object_offset f (object_named r)) (immediate_of m.symbols r) r) m) refl
      (w.step m level.counter)
      (word_goes (start_of f image laid.address (target_of r)) (object_offset f (object_named r)) (immediate_of m.symbols r) r m) w.next
      (rows f framed t.core m h (start_of f image laid.address (target_of r)) r is (adds_part c) (row_in_range c) level.range needs slots_in objects_in))

  at_branch : (op : BranchOp) (a b n : ℕ) → r ≡ Branches op a b n → HasTwoWords f image laid.address t.pos i op a b n → AtCode f resolve image laid t m i
  unfolding does
  at_branch op a b n e w = double w.line w.jump_line (line_is w.line w.stands)
      (ap (λ (x : ℕ). Rattle.sem_machine.specs.Image.line_at image.lines (x + 4)) level.counter ∙ w.jump_stands) w.origin w.jump_origin n (ap exit_of kind
      ∙ ap row_exit e)
      (by_taken (taken op (read t.core a) (read t.core b)) (ap (λ (x : Row). does x t.core) e)
      (w.step m level.counter ∙ ap (λ (z : Bool). Continues (cond z (past 4 m) (past 8 m)))
      (ap (λ (x : ℕ). taken op x (register m b)) (h.regs a) ∙ ap (taken op (read t.core a)) (h.regs b)))) where
        by_taken : (z : Bool) → does r t.core ≡ cond z (Goes n t.core) (Falls t.core) → machine_step image m ≡ Continues (cond z (past 4 m) (past 8 m)) →
            TwoSteps f resolve image laid t m
        by_taken true d s =
            let k4 = past 4 m in
            let at_jump : k4.counter ≡ laid.address t.pos + 4 = ap (λ (x : ℕ). x + 4) level.counter in
            let to = at (start_of f image laid.address n) k4 in
            let b4 = beside_at f framed t.core m h (m.counter + 4) in
            through (start_state n t.core) k4 to (steps_as (Goes n t.core) d) s refl b4 (w.jump_step k4 at_jump)
            (named_code t.core) (level_goes n t.core to d (beside_at f framed t.core k4 b4 (start_of f image laid.address n)) refl)
        by_taken false d s =
            let k8 = past 8 m in
            over (below_state t.core) k8 (steps_as (Falls t.core) d) s refl (named_code t.core)
            (level_falls t.core k8 d (beside_at f framed t.core m h (m.counter + 8)) (ap (λ (x : ℕ). x + 8) level.counter ∙ sym w.next))

  at_call : (call : CallSite) → r ≡ Calls call → HasCall f image laid.address t.pos i call → AtCode f resolve image laid t m i
  at_call call e w = single w.line (line_is w.line w.stands) w.origin
      (by_call (does r t.core) refl (machine.step_call (machine.callee_size call.callee) (machine.called_at m call.callee) (machine.passed m call)
      call.outgoing m
      m.script) (w.step m level.counter)
      (subst (λ (x : Row). FollowsCall f m (machine.callee_size call.callee) (does x t.core)
      (machine.step_call (machine.callee_size call.callee) (machine.called_at m call.callee) (machine.passed m call) call.outgoing m m.script)) (sym e)
      (calls f framed t.core m h call level.range (needs (subst NeedsFrame (sym e) tt)) (declared call e) (laid_words call e)))) where
        by_call : (x : Outcome) → does r t.core ≡ x → (st : Stepped) → machine_step image m ≡ st → FollowsCall f m (machine.callee_size call.callee) x st →
            OneStep f resolve image laid t m
        by_call (Falls d) g st s (n, q, counter, b) =
            goes (below_state d) n (steps_as (Falls d) g) (s ∙ q)
            (level_falls d n g b (counter ∙ ap (λ (a : ℕ). a + machine.callee_size call.callee) level.counter ∙ sym w.next))
        by_call Asks g st s x = waits (steps_as Asks g) (s ∙ x)
        by_call Traps g st s x = faults (steps_as Traps g)
            (λ v q. call_goes (machine.callee_size call.callee) (machine.called_at m call.callee) (machine.passed m call) call.outgoing m m.script v
            (sym (w.step m level.counter) ∙ q))
        by_call (Goes b d) g st s x = absurd x
        by_call (Gives v) g st s x = absurd x
        by_call Breaks g st s x = absurd x

  at_return : (ending : Ending Callee) → r ≡ Returns ending → HasReturn f image laid.address t.pos i ending → AtCode f resolve image laid t m i
  unfolding does
  at_return ending e w = single w.line (line_is w.line w.stands) w.origin
      (gives (result_at t.core ending) (steps_as (Gives (result_at t.core ending)) (ap (λ (x : Row). does x t.core) e))
      (w.step m level.counter ∙ ap Ends (result_same f framed t.core m h ending)))

  by_row : (x : Row) → r ≡ x → HasRow f image laid.address t.pos i x → AtCode f resolve image laid t m i
  by_row (Branches op a b n) e (inl w) = at_word (subst IsWordRow (sym e) tt) (subst (HasWord f image laid.address t.pos i) (sym e) w)
  by_row (Branches op a b n) e (inr w) = at_branch op a b n e w
  by_row (Calls call) e w = at_call call e w
  by_row (Returns ending) e w = at_return ending e w
  by_row Unfit e w = absurd w
  by_row _ e w = at_word (subst IsWordRow (sym e) tt) (subst (HasWord f image laid.address t.pos i) (sym e) w)

  -- at the address of code the machine does what the code does
  pub at_code : AtCode f resolve image laid t m i
  at_code = by_row r refl (laid.code t.pos i c k here kind)

  -- where it goes on, control comes to code
  pub step_lands : (u : State) → step (framed_run f resolve image laid) t ≡ Went u → Lands f u.pos
  step_lands u e = by_next (does r t.core) refl (sym stepped ∙ e) where
    by_next : (x : Outcome) → does r t.core ≡ x → moved (framed_run f resolve image laid).enter t.pos (with_core named (does r t.core)) ≡ Went u → Lands f u.pos
    by_next (Falls d) g s =
        let made : Went (below_state d) ≡ Went u = sym (ap (λ (o : Outcome). moved (framed_run f resolve image laid).enter t.pos (with_core named o)) g) ∙ s in
        let same : below_state d ≡ u = cc in
        subst (λ (z : State). Lands f z.pos) same (below_lands f framed t.pos i here (λ l. falls_stays r t.core d g (subst (λ (z : ItemKind). Leaves (exit_of
        z)) kind l)))
    by_next (Goes b d) g s =
        let made : Went (start_state b d) ≡ Went u = sym (ap (λ (o : Outcome). moved (framed_run f resolve image laid).enter t.pos (with_core named o)) g)
        ∙ s in
        let same : start_state b d ≡ u = cc in
        let targets = subst (TargetsIn (ids_of (body_of f.blocks))) kind
        (of_item f (λ (j : Item). TargetsIn (ids_of (body_of f.blocks)) j.kind) framed.targets t.pos i here) in
        subst (λ (z : State). Lands f z.pos) same (target_lands f framed b (goes_into (ids_of (body_of f.blocks)) r t.core b d targets g))
    by_next (Gives v) g s = let bad : Returned v ≡ Went u = sym (ap (λ (o : Outcome). moved (framed_run f resolve image laid).enter t.pos (with_core named
        o)) g) ∙ s in cc
    by_next Traps g s = let bad : Faulted ≡ Went u = sym (ap (λ (o : Outcome). moved (framed_run f resolve image laid).enter t.pos (with_core named o)) g)
        ∙ s in cc
    by_next Asks g s = let bad : Waits ≡ Went u = sym (ap (λ (o : Outcome). moved (framed_run f resolve image laid).enter t.pos (with_core named o)) g)
        ∙ s in cc
    by_next Breaks g s = let bad : Lost ≡ Went u = sym (ap (λ (o : Outcome). moved (framed_run f resolve image laid).enter t.pos (with_core named o)) g)
        ∙ s in cc
