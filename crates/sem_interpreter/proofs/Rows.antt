-- What code of each row does, from what is read.
use Rattle.std.proofs.Common.{◌≡◌, ℕ, zero, suc, ◌*◌, List, [], ◌∷◌, Option, Some, None, Bool, true, false, cond, refl, sym, ap, ◌∙◌, subst, inl, inr, arith}
use Rattle.std.specs.Prelude.{is_some, ◌&&◌, nat_eq, slice_index_or, ◌+◌, ◌-◌, ◌%◌, ◌^◌, Result, Ok, Err, IfOk}
use Rattle.std.specs.Map.{lookup}
use Rattle.rv64_instr.specs.Arithmetic.{computed, taken, load_width, store_width, extended}
use Rattle.rv64_instr.specs.DefsAndUses.{reads, input_reads, base_reads}
use Rattle.rv64_instr.specs.declared.op.RegisterOp.{RegisterOp}
use Rattle.rv64_instr.specs.declared.op.BranchOp.{BranchOp}
use Rattle.rv64_instr.specs.declared.op.LoadOp.{LoadOp}
use Rattle.rv64_instr.specs.declared.op.StoreOp.{StoreOp}
use Rattle.rv64_instr.specs.declared.start.CallResult.{CallResult}
use Rattle.rv64_instr.specs.Row.{Row, Fixes, Moves, Sets, Addresses, Loads, Stores, LoadsSlot, StoresSlot, Branches, Jumps}
use Rattle.rv64_instr.specs.Row.{Base, PointedBy, ObjectAt, BesidePart, Input, Content, PartOf}
use Rattle.rv64_instr.specs.declared.decoded.Base as decoded
use Rattle.rv64_instr.specs.declared.symbol.Symbol.{Symbol}
use Rattle.rv64_instr.specs.declared.symbol.LinkedAddress.{LinkedAddress}
use Rattle.rv64_instr.specs.declared.symbol.Half.{Half}
use Rattle.rv64_instr.specs.declared.symbol.Half.TheVariants.{Lower}
use Rattle.rv64_instr.specs.Decoded.{ShowsBase}
use Rattle.rv64_instr.specs.Linked.{addresses_in, linked_value}
use Rattle.std.specs.declared.alloc.AllocError.{AllocError}
use Rattle.sem_interpreter.specs.declared.machine.Outcome.{Outcome}
use Rattle.sem_mir.specs.State.{Core, content, put, updated, spelled, stored, low_bytes, touches_frame}
use Rattle.sem_mir.specs.Step as step
use Rattle.sem_mir.specs.Step.{act, does, are_written, or_zero, input_value, object_address, address_at, is_fault, set_register, loaded}
use Rattle.sem_mir.specs.Step.{put_in_memory, saved, slot_loaded}
use Rattle.sem_interpreter.specs.declared.machine.InterpreterState.{InterpreterState}
use Rattle.sem_interpreter.specs.declared.machine.Outcome.TheVariants.{Falls, Goes, Returns as Ended, Faults, Waits}
use Rattle.sem_interpreter.specs.Memory.{MemoryHolds, number_in}
use Rattle.sem_interpreter.specs.Places.{RegistersHold, SlotsHold}
use Rattle.sem_interpreter.specs.Acts.{MachineHolds, Moved, EndsSo, Leads, GoesNowhere, Acts, Does, InputHolds, AddressHolds, IsBase}

-- code whose registers are written does what its row says
pub act_written : (r : Row) (s : Core) → are_written s (reads r) ≡ true → act r s ≡ does r s
unfolding act
act_written r s h = ap (λ (b : Bool). cond b (does r s) step.Traps) h

pub act_unwritten : (r : Row) (s : Core) → are_written s (reads r) ≡ false → act r s ≡ step.Traps
unfolding act
act_unwritten r s h = ap (λ (b : Bool). cond b (does r s) step.Traps) h

written_one : (s : Core) (a x : ℕ) → content s.regs a ≡ Some x → are_written s (a ∷ []) ≡ true
written_one s a x h = ap (λ (o : Option ℕ). is_some o && true) h

written_more : (s : Core) (a x : ℕ) (rs : List ℕ) → content s.regs a ≡ Some x → are_written s rs ≡ true → are_written s (a ∷ rs) ≡ true
written_more s a x rs h k = ap (λ (o : Option ℕ). is_some o && are_written s rs) h ∙ k

unwritten_first : (s : Core) (a : ℕ) (rs : List ℕ) → content s.regs a ≡ None → are_written s (a ∷ rs) ≡ false
unwritten_first s a rs h = ap (λ (o : Option ℕ). is_some o && are_written s rs) h

unwritten_more : (s : Core) (a : ℕ) (rs : List ℕ) → are_written s rs ≡ false → are_written s (a ∷ rs) ≡ false
unwritten_more s a rs k = ap (λ (b : Bool). is_some (content s.regs a) && b) k ∙ nothing (is_some (content s.regs a))
  where
    nothing : (b : Bool) → (b && false) ≡ false
    nothing true = refl
    nothing false = refl

-- what a register holds, from what is kept
held : (m : InterpreterState) (s : Core) (r : ℕ) (o : Option ℕ) → MachineHolds m s → o ≡ slice_index_or m.registers r None → content s.regs r ≡ o
held m s r o h e = h.registers r ∙ sym e

-- ---- how a row ends, with the places that are kept
pub faults : (m : InterpreterState) (r : Row) → ((s : Core) → MachineHolds m s → act r s ≡ step.Traps) → (answer : Option CallResult) → Acts r answer Faults m m
faults m r h answer = record { ends = λ s holds script. h s holds; stays = refl; leads = tt }

moved_set : (old : InterpreterState) (kept : List (Option ℕ)) (rd v : ℕ) (s : Core) →
    ((f : ℕ → Option ℕ) → RegistersHold old.registers f → RegistersHold kept (put rd v f)) → MachineHolds old s →
    Moved (record old { registers = kept }) s (set_register rd v s)
moved_set old kept rd v s writes holds = record {
  machine = record {
    entry = holds.entry;
    area = holds.area;
    symbols = holds.symbols;
    objects = holds.objects;
    registers = writes s.regs holds.registers;
    slots = holds.slots;
    memory = holds.memory;
  };
  pairs = refl;
  marks = refl;
}

pub sets_so : (old : InterpreterState) (kept : List (Option ℕ)) (r : Row) (rd v : ℕ) → Leads r Falls →
    ((f : ℕ → Option ℕ) → RegistersHold old.registers f → RegistersHold kept (put rd v f)) →
    ((s : Core) → MachineHolds old s → act r s ≡ step.Falls (set_register rd v s)) → (answer : Option CallResult) →
    Acts r answer Falls old (record old { registers = kept })
sets_so old kept r rd v leads writes goes answer = record {
  ends = λ s holds script. (set_register rd v s, goes s holds, moved_set old kept rd v s writes holds);
  stays = tt;
  leads = leads;
}

unmoved : (m : InterpreterState) (s : Core) → MachineHolds m s → Moved m s s
unmoved m s holds = record { machine = holds; pairs = refl; marks = refl }

-- code that goes to no block leads on below
pub leads_below : (r : Row) (o : Outcome) → Leads r Falls → GoesNowhere o → Leads r o
leads_below r Falls below nowhere = below
leads_below r (Goes n) below nowhere = absurd nowhere
leads_below r Ended below nowhere = tt
leads_below r Faults below nowhere = tt
leads_below r Waits below nowhere = tt

-- ---- constant definitions and copies
pub fixes_so : (rd n : ℕ) (s : Core) → act (Fixes rd n) s ≡ step.Falls (set_register rd n s)
unfolding act does
fixes_so rd n s = refl

pub moves_so : (m : InterpreterState) (rd rs v : ℕ) → Some v ≡ slice_index_or m.registers rs None → (s : Core) → MachineHolds m s →
    act (Moves rd rs) s ≡ step.Falls (set_register rd v s)
unfolding does
moves_so m rd rs v e s holds =
    let h = held m s rs (Some v) holds e in
    act_written (Moves rd rs) s (written_one s rs v h) ∙ ap (λ (o : Option ℕ). step.Falls (set_register rd (or_zero o) s)) h

pub moves_faults : (m : InterpreterState) (rd rs : ℕ) → None ≡ slice_index_or m.registers rs None → (s : Core) → MachineHolds m s →
    act (Moves rd rs) s ≡ step.Traps
moves_faults m rd rs e s holds = act_unwritten (Moves rd rs) s (unwritten_first s rs [] (held m s rs None holds e))

-- ---- operations
pub sets_does : (m : InterpreterState) (rd a x y : ℕ) (op : RegisterOp) (b : Input) → Some x ≡ slice_index_or m.registers a None →
    ((s : Core) → MachineHolds m s → InputHolds s b (Some y)) → (s : Core) → MachineHolds m s →
    act (Sets rd op a b) s ≡ step.Falls (set_register rd (computed op x y) s)
unfolding does
sets_does m rd a x y op b e second s holds =
    let h = held m s a (Some x) holds e in
    let k = second s holds in
    act_written (Sets rd op a b) s (written_more s a x (input_reads b) h k.0) ∙
    ap (λ (o : Option ℕ). step.Falls (set_register rd (computed op (or_zero o) (input_value s b)) s)) h ∙
    ap (λ (z : ℕ). step.Falls (set_register rd (computed op x z) s)) k.1

pub sets_faults_first : (m : InterpreterState) (rd a : ℕ) (op : RegisterOp) (b : Input) → None ≡ slice_index_or m.registers a None → (s : Core) →
    MachineHolds m s →
    act (Sets rd op a b) s ≡ step.Traps
sets_faults_first m rd a op b e s holds = act_unwritten (Sets rd op a b) s (unwritten_first s a (input_reads b) (held m s a None holds e))

pub sets_faults_second : (m : InterpreterState) (rd a : ℕ) (op : RegisterOp) (b : Input) → ((s : Core) → MachineHolds m s → InputHolds s b None) → (s : Core) →
    MachineHolds m s → act (Sets rd op a b) s ≡ step.Traps
sets_faults_second m rd a op b second s holds = act_unwritten (Sets rd op a b) s (unwritten_more s a (input_reads b) (second s holds))

pub input_content : (m : InterpreterState) (r : ℕ) (o : Option ℕ) → o ≡ slice_index_or m.registers r None → (s : Core) → MachineHolds m s →
    InputHolds s (Content r) o
input_content m r None e s holds = unwritten_first s r [] (held m s r None holds e)
input_content m r (Some v) e s holds = let h = held m s r (Some v) holds e in (written_one s r v h, ap or_zero h)

pub input_part_of : (m : InterpreterState) (half : Half) (y : LinkedAddress) (s : Core) → MachineHolds m s →
    InputHolds s (PartOf half y) (Some (linked_value (addresses_in m.symbols) half y))
input_part_of m half y s holds = (refl, ap (λ (z : Symbol → ℕ). linked_value z half y) holds.symbols)

-- ---- addresses
pub object_address_is : (m : InterpreterState) (n : ℕ) (s : Core) → MachineHolds m s →
    ((m.entry + (2 ^ 64 - m.area)) % 2 ^ 64 + number_in m.objects n) % 2 ^ 64 ≡ object_address s n
object_address_is m n s holds =
    let e = holds.entry in
    let a = holds.area in
    let o = holds.objects n in
    sym (ap (λ (x : ℕ). (x + (2 ^ 64 - s.area) + s.objects n) % 2 ^ 64) e ∙ ap (λ (x : ℕ). (m.entry + (2 ^ 64 - x) + s.objects n) % 2 ^ 64) a
    ∙ ap (λ (x : ℕ). (m.entry + (2 ^ 64 - m.area) + x) % 2 ^ 64) o ∙ once (m.entry + (2 ^ 64 - m.area)) (number_in m.objects n))
  where
    once : (x y : ℕ) → (x + y) % 2 ^ 64 ≡ (x % 2 ^ 64 + y) % 2 ^ 64
    once x y = omega arith

pub addresses_so : (rd n offset v : ℕ) (s : Core) → v ≡ address_at s (ObjectAt n) offset → act (Addresses rd n offset) s ≡ step.Falls (set_register rd v s)
unfolding act does
addresses_so rd n offset v s e = ap (λ (x : ℕ). step.Falls (set_register rd x s)) (sym e)

pub pointed_at : (m : InterpreterState) (r b offset : ℕ) → Some b ≡ slice_index_or m.registers r None → (s : Core) → MachineHolds m s →
    AddressHolds s (PointedBy r) offset (Some ((b + offset) % 2 ^ 64))
pointed_at m r b offset e s holds = let h = held m s r (Some b) holds e in (written_one s r b h, ap (λ (o : Option ℕ). (or_zero o + offset) % 2 ^ 64) h)

pub pointed_nowhere : (m : InterpreterState) (r offset : ℕ) → None ≡ slice_index_or m.registers r None → (s : Core) → MachineHolds m s →
    AddressHolds s (PointedBy r) offset None
pointed_nowhere m r offset e s holds = unwritten_first s r [] (held m s r None holds e)

pub object_at : (n offset v : ℕ) (s : Core) → v ≡ object_address s n → AddressHolds s (ObjectAt n) offset (Some ((v + offset) % 2 ^ 64))
object_at n offset v s e = (refl, ap (λ (x : ℕ). (x + offset) % 2 ^ 64) (sym e))

pub beside_at : (m : InterpreterState) (r b offset : ℕ) (y : LinkedAddress) → Some b ≡ slice_index_or m.registers r None → (s : Core) → MachineHolds m s →
    AddressHolds s (BesidePart r y) offset (Some (((b + linked_value (addresses_in m.symbols) Lower y) % 2 ^ 64 + offset) % 2 ^ 64))
beside_at m r b offset y e s holds =
    let h = held m s r (Some b) holds e in
    (written_one s r b h, (λ i. ((or_zero (h i) + linked_value (holds.symbols i) Lower y) % 2 ^ 64 + offset) % 2 ^ 64))

pub beside_nowhere : (m : InterpreterState) (r offset : ℕ) (y : LinkedAddress) → None ≡ slice_index_or m.registers r None → (s : Core) → MachineHolds m s →
    AddressHolds s (BesidePart r y) offset None
beside_nowhere m r offset y e s holds = unwritten_first s r [] (held m s r None holds e)

-- ---- loads and stores
pub loads_so : (m new : InterpreterState) (o : Outcome) (rd a offset : ℕ) (op : LoadOp) (base : Base) →
    ((s : Core) → MachineHolds m s → AddressHolds s base offset (Some a)) → Does (loaded rd op base a) o m new → (answer : Option CallResult) →
    Acts (Loads rd op base offset) answer o m new
unfolding does
loads_so m new o rd a offset op base at h answer = record {
  ends = λ s holds script.
      let k = at s holds in
      let same = act_written (Loads rd op base offset) s k.0 ∙ ap (λ (x : ℕ). loaded rd op base x s) k.1 in
      subst (λ (x : step.Outcome). EndsSo o new s x) (sym same) (h.ends s holds);
  stays = h.stays;
  leads = leads_below (Loads rd op base offset) o (λ p. refl) h.leads;
}

pub loads_faults : (m : InterpreterState) (rd offset : ℕ) (op : LoadOp) (base : Base) → ((s : Core) → MachineHolds m s → AddressHolds s base offset None) →
    (s : Core) → MachineHolds m s → act (Loads rd op base offset) s ≡ step.Traps
loads_faults m rd offset op base at s holds = act_unwritten (Loads rd op base offset) s (at s holds)

pub stores_so : (m new : InterpreterState) (o : Outcome) (rs v a offset : ℕ) (op : StoreOp) (base : Base) → Some v ≡ slice_index_or m.registers rs None →
    ((s : Core) → MachineHolds m s → AddressHolds s base offset (Some a)) → Does (put_in_memory op base a v) o m new → (answer : Option CallResult) →
    Acts (Stores op rs base offset) answer o m new
unfolding does
stores_so m new o rs v a offset op base e at h answer = record {
  ends = λ s holds script.
      let j = held m s rs (Some v) holds e in
      let k = at s holds in
      let same = act_written (Stores op rs base offset) s (written_more s rs v (base_reads base) j k.0) ∙
      ap (λ (x : ℕ). put_in_memory op base x (or_zero (content s.regs rs)) s) k.1 ∙ ap (λ (x : Option ℕ). put_in_memory op base a (or_zero x) s) j in
      subst (λ (x : step.Outcome). EndsSo o new s x) (sym same) (h.ends s holds);
  stays = h.stays;
  leads = leads_below (Stores op rs base offset) o (λ p. refl) h.leads;
}

pub stores_faults_first : (m : InterpreterState) (rs offset : ℕ) (op : StoreOp) (base : Base) → None ≡ slice_index_or m.registers rs None → (s : Core) →
    MachineHolds m s → act (Stores op rs base offset) s ≡ step.Traps
stores_faults_first m rs offset op base e s holds =
    act_unwritten (Stores op rs base offset) s (unwritten_first s rs (base_reads base) (held m s rs None holds e))

pub stores_faults_second : (m : InterpreterState) (rs offset : ℕ) (op : StoreOp) (base : Base) →
    ((s : Core) → MachineHolds m s → AddressHolds s base offset None) →
    (s : Core) → MachineHolds m s → act (Stores op rs base offset) s ≡ step.Traps
stores_faults_second m rs offset op base at s holds = act_unwritten (Stores op rs base offset) s (unwritten_more s rs (base_reads base) (at s holds))

-- ---- slots
pub slot_loads_so : (m : InterpreterState) (rd n v : ℕ) → Some v ≡ lookup (nat_eq n) m.slots → (s : Core) →
    MachineHolds m s → act (LoadsSlot rd n) s ≡ step.Falls (set_register rd v s)
unfolding act does
slot_loads_so m rd n v e s holds = ap (slot_loaded rd s) (holds.slots n ∙ sym e)

pub slot_loads_faults : (m : InterpreterState) (rd n : ℕ) → None ≡ lookup (nat_eq n) m.slots → (s : Core) →
    MachineHolds m s → act (LoadsSlot rd n) s ≡ step.Traps
unfolding act does
slot_loads_faults m rd n e s holds = ap (slot_loaded rd s) (holds.slots n ∙ sym e)

pub slot_stores_so : (old : InterpreterState) (kept : List (ℕ × ℕ)) (rs n v : ℕ) → Some v ≡ slice_index_or old.registers rs None →
    ((f : ℕ → Option ℕ) → SlotsHold old.slots f → SlotsHold kept (updated n (Some v) f)) → (answer : Option CallResult) →
    Acts (StoresSlot rs n) answer Falls old (record old { slots = kept })
unfolding does
slot_stores_so old kept rs n v e writes answer = record {
  ends = λ s holds script.
      let k = held old s rs (Some v) holds e in (
        record s { slots = updated n (Some v) s.slots },
        act_written (StoresSlot rs n) s (written_one s rs v k)
            ∙ ap (λ (o : Option ℕ). step.Falls (record s { slots = updated n (Some (or_zero o)) s.slots })) k,
        record {
          machine = record {
            entry = holds.entry;
            area = holds.area;
            symbols = holds.symbols;
            objects = holds.objects;
            registers = holds.registers;
            slots = writes s.slots holds.slots;
            memory = holds.memory;
          };
          pairs = refl;
          marks = refl;
        },
      );
  stays = tt;
  leads = λ p. refl;
}

pub slot_stores_faults : (m : InterpreterState) (rs n : ℕ) → None ≡ slice_index_or m.registers rs None → (s : Core) → MachineHolds m s →
    act (StoresSlot rs n) s ≡ step.Traps
slot_stores_faults m rs n e s holds = act_unwritten (StoresSlot rs n) s (unwritten_first s rs [] (held m s rs None holds e))

-- ---- branches
branches_act : (m : InterpreterState) (a b x y target : ℕ) (op : BranchOp) → Some x ≡ slice_index_or m.registers a None →
    Some y ≡ slice_index_or m.registers b None →
    (s : Core) → MachineHolds m s → act (Branches op a b target) s ≡ cond (taken op x y) (step.Goes target s) (step.Falls s)
unfolding does
branches_act m a b x y target op e f s holds =
    let j = held m s a (Some x) holds e in
    let k = held m s b (Some y) holds f in
    act_written (Branches op a b target) s (written_more s a x (b ∷ []) j (written_one s b y k)) ∙
    ap (λ (o : Option ℕ). cond (taken op (or_zero o) (or_zero (content s.regs b))) (step.Goes target s) (step.Falls s)) j ∙
    ap (λ (o : Option ℕ). cond (taken op x (or_zero o)) (step.Goes target s) (step.Falls s)) k

pub branches_goes : (m : InterpreterState) (a b x y target : ℕ) (op : BranchOp) → Some x ≡ slice_index_or m.registers a None →
    Some y ≡ slice_index_or m.registers b None → taken op x y ≡ true → (answer : Option CallResult) → Acts (Branches op a b target) answer (Goes target) m m
branches_goes m a b x y target op e f t answer = record {
  ends = λ s holds script. (
    s,
    branches_act m a b x y target op e f s holds
        ∙ ap (λ (z : Bool). cond z (step.Goes target s) (step.Falls s)) t,
    unmoved m s holds,
  );
  stays = tt;
  leads = λ p. inl refl;
}

pub branches_falls : (m : InterpreterState) (a b x y target : ℕ) (op : BranchOp) → Some x ≡ slice_index_or m.registers a None →
    Some y ≡ slice_index_or m.registers b None → taken op x y ≡ false → (answer : Option CallResult) → Acts (Branches op a b target) answer Falls m m
branches_falls m a b x y target op e f t answer = record {
  ends = λ s holds script. (
    s,
    branches_act m a b x y target op e f s holds
        ∙ ap (λ (z : Bool). cond z (step.Goes target s) (step.Falls s)) t,
    unmoved m s holds,
  );
  stays = tt;
  leads = λ p. inr refl;
}

pub branches_faults_first : (m : InterpreterState) (a b target : ℕ) (op : BranchOp) → None ≡ slice_index_or m.registers a None → (s : Core) → MachineHolds m s →
    act (Branches op a b target) s ≡ step.Traps
branches_faults_first m a b target op e s holds = act_unwritten (Branches op a b target) s (unwritten_first s a (b ∷ []) (held m s a None holds e))

pub branches_faults_second : (m : InterpreterState) (a b target : ℕ) (op : BranchOp) → None ≡ slice_index_or m.registers b None → (s : Core) →
    MachineHolds m s →
    act (Branches op a b target) s ≡ step.Traps
branches_faults_second m a b target op e s holds =
    act_unwritten (Branches op a b target) s (unwritten_more s a (b ∷ []) (unwritten_first s b [] (held m s b None holds e)))

pub jumps_so : (m : InterpreterState) (target : ℕ) (answer : Option CallResult) → Acts (Jumps target) answer (Goes target) m m
unfolding act does
jumps_so m target answer = record { ends = λ s holds script. (s, refl, unmoved m s holds); stays = tt; leads = λ p. refl }

-- ---- memory and answers
spelled_alike : (f g : ℕ → ℕ) → ((a : ℕ) → f a ≡ g a) → (a n : ℕ) → spelled f a n ≡ spelled g a n
spelled_alike f g h a zero = refl
spelled_alike f g h a (suc n) = λ i. h (a % 2 ^ 64) i + 256 * spelled_alike f g h (a + 1) n i

pub pointed_fault : (m : InterpreterState) (r a n : ℕ) (b : Bool) → b ≡ touches_frame m.entry m.area a n → (s : Core) → MachineHolds m s →
    b ≡ is_fault (PointedBy r) s a n
pointed_fault m r a n b e s holds = e ∙ sym (λ i. touches_frame (holds.entry i) (holds.area i) a n)

pub loaded_faults : (m : InterpreterState) (rd a : ℕ) (op : LoadOp) (base : Base) → ((s : Core) → MachineHolds m s → true ≡ is_fault base s a (load_width op)) →
    Does (loaded rd op base a) Faults m m
loaded_faults m rd a op base e = record {
  ends = λ s holds. ap (λ (b : Bool). cond b step.Traps (step.Falls (set_register rd (extended op (spelled s.memory a (load_width op))) s))) (sym (e s holds));
  stays = refl;
  leads = tt;
}

pub loaded_falls : (old : InterpreterState) (kept : List (Option ℕ)) (rd a v : ℕ) (op : LoadOp) (base : Base) →
    ((s : Core) → MachineHolds old s → false ≡ is_fault base s a (load_width op)) →
    v ≡ extended op (spelled (number_in old.memory) a (load_width op)) →
    ((f : ℕ → Option ℕ) → RegistersHold old.registers f → RegistersHold kept (put rd v f)) →
    Does (loaded rd op base a) Falls old (record old { registers = kept })
loaded_falls old kept rd a v op base e is writes = record {
  ends = λ s holds. (
    set_register rd v s,
    ap (λ (b : Bool). cond b step.Traps (step.Falls (set_register rd (extended op (spelled s.memory a (load_width op))) s))) (sym (e s holds))
        ∙ ap (λ (n : ℕ). step.Falls (set_register rd (extended op n) s)) (spelled_alike s.memory (number_in old.memory) holds.memory a (load_width op))
        ∙ ap (λ (n : ℕ). step.Falls (set_register rd n s)) (sym is),
    moved_set old kept rd v s writes holds,
  );
  stays = tt;
  leads = tt;
}

pub put_faults : (m : InterpreterState) (v a : ℕ) (op : StoreOp) (base : Base) → ((s : Core) → MachineHolds m s → true ≡ is_fault base s a (store_width op)) →
    Does (put_in_memory op base a v) Faults m m
put_faults m v a op base e = record {
  ends = λ s holds. ap (λ (b : Bool). cond b step.Traps (step.Falls (saved a (low_bytes (store_width op) v) s))) (sym (e s holds));
  stays = refl;
  leads = tt;
}

pub put_falls : (old : InterpreterState) (kept : List (ℕ × ℕ)) (v a : ℕ) (op : StoreOp) (base : Base) →
    ((s : Core) → MachineHolds old s → false ≡ is_fault base s a (store_width op)) →
    ((f : ℕ → ℕ) → MemoryHolds old.memory f → MemoryHolds kept (stored f a (low_bytes (store_width op) v))) →
    Does (put_in_memory op base a v) Falls old (record old { memory = kept })
put_falls old kept v a op base e writes = record {
  ends = λ s holds. (
    saved a (low_bytes (store_width op) v) s,
    ap (λ (b : Bool). cond b step.Traps (step.Falls (saved a (low_bytes (store_width op) v) s))) (sym (e s holds)),
    record {
      machine = record {
        entry = holds.entry;
        area = holds.area;
        symbols = holds.symbols;
        objects = holds.objects;
        registers = holds.registers;
        slots = holds.slots;
        memory = writes s.memory holds.memory;
      };
      pairs = refl;
      marks = refl;
    },
  );
  stays = tt;
  leads = tt;
}

-- ---- the same under a result that may lack memory
pub stores_ok : (m new : InterpreterState) (rs v a offset : ℕ) (op : StoreOp) (base : decoded.Base) (linked : Option LinkedAddress) →
    Some v ≡ slice_index_or m.registers rs None →
    ((x : Base) → IsBase base linked x → (s : Core) → MachineHolds m s → AddressHolds s x offset (Some a)) → (r : Result Outcome AllocError) →
    IfOk r (λ o. (x : Base) → ShowsBase base x → Does (put_in_memory op x a v) o m new) →
    IfOk r (λ o. (x : Base) → IsBase base linked x → (answer : Option CallResult) → Acts (Stores op rs x offset) answer o m new)
stores_ok m new rs v a offset op base linked e at (Ok o) h = λ x is. stores_so m new o rs v a offset op x e (at x is) (h x is.0)
stores_ok m new rs v a offset op base linked e at (Err y) h = h

pub at_row : (r q : Row) (answer : Option CallResult) (o : Outcome) (m new : InterpreterState) → r ≡ q → Acts q answer o m new → Acts r answer o m new
at_row r q answer o m new e h = subst (λ (x : Row). Acts x answer o m new) (sym e) h

pub at_row_ok : (r q : Row) (answer : Option CallResult) (m new : InterpreterState) → r ≡ q → (x : Result Outcome AllocError) →
    IfOk x (λ o. (a : Option CallResult) → Acts q a o m new) → IfOk x (λ o. Acts r answer o m new)
at_row_ok r q answer m new e (Ok o) h = at_row r q answer o m new e (h answer)
at_row_ok r q answer m new e (Err x) h = h

-- a store by a base that was decoded so
pub at_base_ok : (r : Row) (b : decoded.Base) (linked : Option LinkedAddress) (base : Base) (op : StoreOp) (rs offset : ℕ) (answer : Option CallResult)
    (m new : InterpreterState) → r ≡ Stores op rs base offset → IsBase b linked base → (x : Result Outcome AllocError) →
    IfOk x (λ o. (y : Base) → IsBase b linked y → (a : Option CallResult) → Acts (Stores op rs y offset) a o m new) → IfOk x (λ o. Acts r answer o m new)
at_base_ok r b linked base op rs offset answer m new e is (Ok o) h = at_row r (Stores op rs base offset) answer o m new e (h base is answer)
at_base_ok r b linked base op rs offset answer m new e is (Err y) h = h
