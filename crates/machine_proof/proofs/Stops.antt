-- Whatever the source does, the machine's counter goes from line to line.
use Rattle.std.proofs.Common.{◌≡◌, ◌⊎◌, ℕ, ℤ, zero, suc, ◌+◌, List, Contains, [], ◌∷◌}
use Rattle.std.proofs.Common.{Option, Bool, true, false, cond, refl, sym, ap, ◌∙◌, subst, inl, inr}
use Rattle.rv64_instr.specs.declared.op.BranchOp.{BranchOp}
use Rattle.rv64_instr.specs.Row.{Content, Number, PartOf, PointedBy, ObjectAt, BesidePart}
use Rattle.rv64_instr.specs.declared.symbol.Half.TheVariants.{Upper, Lower}
use Rattle.rv64_instr.specs.Linked.{immediate_value}
use Rattle.rv64_word.specs.Linked.{immediate_of}
use Rattle.rv64_instr.specs.Arithmetic.{taken}
use Rattle.rv64_instr.specs.Instruction.{Instruction}
use Rattle.rv64_instr.specs.Row.{Row, Sets, Addresses, Loads, Stores, Branches, Jumps, Calls, Returns, Unfit, add_row, CallSite, Callee, Ending}
use Rattle.rv64_instr.specs.Row.{row_of}
use Rattle.rv64_word.specs.MachineRow.{Does, placed, from_object}
use Rattle.rv64_instr.specs.LocationEffects.{object_named}
use Rattle.mir_func.specs.declared.position.Pos.{Pos}
use Rattle.mir_func.specs.declared.item.Item.{Item}
use Rattle.mir_func.specs.declared.item.ItemKind.{ItemKind}
use Rattle.mir_func.specs.declared.item.ItemKind.TheVariants.{Code, Mark, Phi}
use Rattle.mir_func.specs.Exits.{row_exit, exit_of, Leaves}
use Rattle.mir_func.specs.Function.{FramedFunction}
use Rattle.mir_func.specs.Graph.{Here, below, block_start, index_of}
use Rattle.mir_func.specs.Sound.{ids_of, TargetIn, TargetsIn}
use Rattle.mir_func.specs.SoundFrame.{body_of, IsFramed}
use Rattle.sem_mir.specs.Align.{is_code}
use Rattle.sem_mir.specs.State.{Reply}
use Rattle.sem_machine.specs.Image.{Image}
use Rattle.sem_machine.specs.Machine.{Machine, register}
use Rattle.sem_machine.specs.MachineStep.{Stepped, Continues, Ends, Awaits, past, at, does_row, step_call, machine_step, Comes, there, steps, IsWell}
use Rattle.sem_machine.specs.MachineStep as machine
use Rattle.emit_code.specs.Rule.{object_offset}
use Rattle.machine_steps_proof.specs.Laid.{fetched, target_of, start_of, HasWord, HasTwoWords, HasCall, HasReturn, HasRow, IsLaidAt}
use Rattle.machine_steps_proof.proofs.Lands.{Lands, Settles, now, past_item, past_end, first_lands, below_lands, target_lands}
use Rattle.machine_steps_proof.proofs.Points.{of_item}
use Rattle.machine_steps_proof.proofs.Rows.{IsWordRow}

-- a word goes on: past itself, or to its target
record GoesOn (target : ℕ) (ids : List ℕ) (r : Row) (m : Machine) (st : Stepped) : Type 0 where
  next : Machine
  continues : st ≡ Continues next
  place : ((next.counter ≡ m.counter + 4) × (Leaves (row_exit r) → ⊥)) ⊎ ((next.counter ≡ target) × Contains ids (target_of r))

falls_on : (target : ℕ) (ids : List ℕ) (r : Row) (m n : Machine) (st : Stepped) → st ≡ Continues n → n.counter ≡ m.counter + 4 → (Leaves (row_exit r) → ⊥) →
    GoesOn target ids r m st
falls_on target ids r m n st e c h = record { next = n; continues = e; place = inl (c, h) }

adds_on : (target rd a k : ℕ) (ids : List ℕ) (r : Row) (m : Machine) → (Leaves (row_exit r) → ⊥) →
    GoesOn target ids r m (machine.does (Does (add_row rd a k)) m)
unfolding does_row
adds_on target rd zero k ids r m h = falls_on target ids r m _ _ refl refl h
adds_on target rd (suc a) zero ids r m h = falls_on target ids r m _ _ refl refl h
adds_on target rd (suc a) (suc k) ids r m h = falls_on target ids r m _ _ refl refl h

branch_on : (target : ℕ) (ids : List ℕ) (op : _) (a b n : ℕ) (m : Machine) (z : Bool) → Contains ids n →
    GoesOn target ids (Branches op a b n) m (Continues (cond z (at target m) (past 4 m)))
branch_on target ids op a b n m true h = record { next = at target m; continues = refl; place = inr (refl, h) }
branch_on target ids op a b n m false h = record { next = past 4 m; continues = refl; place = inl (refl, λ x. x) }

word_on : (target object : ℕ) (part : ℤ) (ids : List ℕ) (r : Row) → IsWordRow r → TargetIn ids r → (m : Machine) →
    GoesOn target ids r m (machine.does (placed target object part r) m)
unfolding does_row
word_on target object part ids (Sets rd op a (Content b)) w t m = falls_on target ids _ m _ _ refl refl (λ x. x)
word_on target object part ids (Sets rd op a (Number n)) w t m = falls_on target ids _ m _ _ refl refl (λ x. x)
word_on target object part ids (Sets rd op a (PartOf Upper y)) w t m = falls_on target ids _ m _ _ refl refl (λ x. x)
word_on target object part ids (Sets rd op a (PartOf Lower y)) w t m = adds_on target rd a (immediate_value Lower part) ids _ m (λ x. x)
word_on target object part ids (Addresses rd n o) w t m = adds_on target rd 2 (from_object object o) ids _ m (λ x. x)
word_on target object part ids (Loads rd op (PointedBy r) o) w t m = falls_on target ids _ m _ _ refl refl (λ x. x)
word_on target object part ids (Loads rd op (ObjectAt n) o) w t m = falls_on target ids _ m _ _ refl refl (λ x. x)
word_on target object part ids (Loads rd op (BesidePart r y) o) w t m = falls_on target ids _ m _ _ refl refl (λ x. x)
word_on target object part ids (Stores op rs (PointedBy r) o) w t m = falls_on target ids _ m _ _ refl refl (λ x. x)
word_on target object part ids (Stores op rs (ObjectAt n) o) w t m = falls_on target ids _ m _ _ refl refl (λ x. x)
word_on target object part ids (Stores op rs (BesidePart r y) o) w t m = falls_on target ids _ m _ _ refl refl (λ x. x)
word_on target object part ids (Branches op a b n) w t m = branch_on target ids op a b n m (taken op (register m a) (register m b)) t
word_on target object part ids (Jumps n) w t m = record { next = at target m; continues = refl; place = inr (refl, t) }
word_on target object part ids (Calls call) w t m = absurd w
word_on target object part ids (Returns ending) w t m = absurd w
word_on target object part ids Unfit w t m = absurd w
word_on target object part ids _ w t m = falls_on target ids _ m _ _ refl refl (λ x. x)

one_next : (x y : Machine) → Continues x ≡ Continues y → x ≡ y
one_next x y e = cc

module _ (f : FramedFunction) (framed : IsFramed f) (image : Image) (laid : IsLaidAt f image) where
  -- the counter is at a place from which control comes to code, or at the second word of a long branch to such a place
  data Stays (m : Machine) : Type 0 where
    at_place : (p : Pos) → Lands f p → m.counter ≡ laid.address p → Stays m
    at_jump : (n : Machine) (p : Pos) → machine_step image m ≡ Continues n → Lands f p → n.counter ≡ laid.address p → Stays m

  same_address : {p q : Pos} → Settles f p q → laid.address q ≡ laid.address p
  same_address now = refl
  same_address (past_item {p = p} i here plain rest) = same_address rest ∙ laid.debug p i here plain
  same_address (past_end {p = p} k n end rest) = same_address rest ∙ laid.ends p k n end

  -- a step from code is well, and its next state stays
  record IsGood (m : Machine) : Type 0 where
    well : IsWell (machine_step image m)
    next : (n : Machine) → machine_step image m ≡ Continues n → Stays n

  continues_good : (m n : Machine) → machine_step image m ≡ Continues n → Stays n → IsGood m
  continues_good m n e s = record { well = subst IsWell (sym e) tt; next = λ k x. subst Stays (one_next n k (sym e ∙ x)) s }

  module _ (m : Machine) (p : Pos) (i : Item) (here : fetched f p ≡ Here i) (c : Instruction) (k : Option ℕ) (kind : i.kind ≡ Code c k)
      (counter : m.counter ≡ laid.address p) where
    ids : List ℕ
    ids = ids_of (body_of f.blocks)

    r : Row
    r = row_of c

    targets : TargetIn (ids_of (body_of f.blocks)) (row_of c)
    targets = subst (TargetsIn (ids_of (body_of f.blocks))) kind
        (of_item f (λ (j : Item). TargetsIn (ids_of (body_of f.blocks)) j.kind) framed.targets p i here)

    below_stays : (n : Machine) → (Leaves (row_exit (row_of c)) → ⊥) → n.counter ≡ laid.address (below p) → Stays n
    below_stays n h e = at_place (below p) (below_lands f framed p i here (λ l. h (subst (λ (x : ItemKind). Leaves (exit_of x)) kind l))) e

    target_stays : (n : Machine) (b : ℕ) → Contains (ids_of (body_of f.blocks)) b → n.counter ≡ start_of f image laid.address b → Stays n
    target_stays n b h e = at_place (block_start (suc (index_of (body_of f.blocks) b))) (target_lands f framed b h) e

    at_word : IsWordRow (row_of c) → HasWord f image laid.address p i (row_of c) → IsGood m
    at_word is w =
        let to = start_of f image laid.address (target_of (row_of c)) in
        let on = word_on to (object_offset f (object_named (row_of c))) (immediate_of m.symbols (row_of c)) (ids_of (body_of f.blocks)) (row_of c) is
        targets m in
        continues_good m on.next (w.step m counter ∙ on.continues) (elim on.place as (λ _. Stays on.next) [
          | inl l ↦ below_stays on.next l.1 (l.0 ∙ ap (λ (x : ℕ). x + 4) counter ∙ sym w.next)
          | inr t ↦ target_stays on.next (target_of (row_of c)) t.1 t.0
        ])

    at_branch : (op : BranchOp) (a b n : ℕ) → row_of c ≡ Branches op a b n → HasTwoWords f image laid.address p i op a b n → IsGood m
    at_branch op a b n e w =
        by_taken (taken op (register m a) (register m b)) (w.step m counter) where
          target : Contains (ids_of (body_of f.blocks)) n
          target = subst (TargetIn (ids_of (body_of f.blocks))) e targets

          by_taken : (z : Bool) → machine_step image m ≡ Continues (cond z (past 4 m) (past 8 m)) → IsGood m
          by_taken true s =
              let k4 = past 4 m in
              let at4 : k4.counter ≡ laid.address p + 4 = ap (λ (x : ℕ). x + 4) counter in
              continues_good m k4 s (at_jump (at (start_of f image laid.address n) k4) (block_start (suc (index_of (body_of f.blocks) n))) (w.jump_step k4 at4)
              (target_lands f framed n target) refl)
          by_taken false s = continues_good m (past 8 m) s
              (below_stays (past 8 m) (λ l. subst (λ (x : Row). Leaves (row_exit x)) e l) (ap (λ (x : ℕ). x + 8) counter ∙ sym w.next))

    at_call : (call : CallSite) → row_of c ≡ Calls call → HasCall f image laid.address p i call → IsGood m
    at_call call e w = by_script m.script (w.step m counter) where
      by_script : (rs : List Reply) → machine_step image m ≡ step_call (machine.callee_size call.callee) (machine.called_at m call.callee)
          (machine.passed m call) call.outgoing m rs → IsGood m
      by_script [] s = record { well = subst IsWell (sym s) tt; next = λ k x. (let bad : Awaits ≡ Continues k = sym s ∙ x in cc) }
      by_script (x ∷ rs) s = continues_good m _ s
          (below_stays _ (λ l. subst (λ (x : Row). Leaves (row_exit x)) e l) (ap (λ (x : ℕ). x + machine.callee_size call.callee) counter ∙ sym w.next))

    at_return : (ending : Ending Callee) → HasReturn f image laid.address p i ending → IsGood m
    at_return ending w =
        let s = w.step m counter in
        record { well = subst IsWell (sym s) tt; next = λ k x. (let bad : Ends (machine.result_at m ending) ≡ Continues k = sym s ∙ x in cc) }

    by_row : (x : Row) → row_of c ≡ x → HasRow f image laid.address p i x → IsGood m
    by_row (Branches op a b n) e (inl w) = at_word (subst IsWordRow (sym e) tt) (subst (HasWord f image laid.address p i) (sym e) w)
    by_row (Branches op a b n) e (inr w) = at_branch op a b n e w
    by_row (Calls call) e w = at_call call e w
    by_row (Returns ending) e w = at_return ending w
    by_row Unfit e w = absurd w
    by_row _ e w = at_word (subst IsWordRow (sym e) tt) (subst (HasWord f image laid.address p i) (sym e) w)

    good : IsGood m
    good = by_row (row_of c) refl (laid.code p i c k here kind)

  good_at : (m : Machine) → Stays m → IsGood m
  good_at m (at_jump n p s l e) = continues_good m n s (at_place p l e)
  good_at m (at_place p l e) = by_kind l.item.kind refl l.code where
    by_kind : (k : ItemKind) → l.item.kind ≡ k → is_code k ≡ true → IsGood m
    by_kind (Code c n) q t = good m l.place l.item l.stands c n q (e ∙ sym (same_address l.settles))
    by_kind (Mark v x) q t = cc
    by_kind (Phi x n) q t = cc

  module _ (m0 : Machine) (start : m0.counter ≡ laid.address (block_start 0)) where
    stays : {m : Machine} → Comes image m0 m → Stays m
    stays there = at_place (block_start 0) (first_lands f framed) start
    stays (steps {t = t} {u = u} before e) = (good_at t (stays before)).next u e

    -- it stops nowhere but where its run ends, or at a call that has no answer
    pub stops_well : (m : Machine) → Comes image m0 m → IsWell (machine_step image m)
    stops_well m comes = (good_at m (stays comes)).well
