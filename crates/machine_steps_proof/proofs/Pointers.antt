-- What the rows of code do with x2, and where they go.
use Rattle.std.proofs.Common.{◌≡◌, ℕ, zero, suc, ◌+◌, ◌-◌, ◌%◌, ◌^◌, ◌<◌, ◌≤◌, ℤ, pos}
use Rattle.std.proofs.Common.{negsuc, ◌-ℤ◌, List, [], ◌∷◌, All, Contains, Option, Some, None, Bool}
use Rattle.std.proofs.Common.{true, false}
use Rattle.std.proofs.Common.{cond, nat_eq, nat_le, le-leb, refl, sym, ap, ◌∙◌, subst, arith}
use Rattle.std.proofs.lemmas.List.Elements.{All-head, All-tail, All-weaker, All-contains_itself}
use Rattle.rv64_instr.specs.Row.{PointedBy, ObjectAt, BesidePart}
use Rattle.rv64_instr.specs.Arithmetic.{word, taken, computed, load_width, store_width}
use Rattle.rv64_instr.specs.Row.{Row, Fixes, Moves, Sets, Addresses, Loads, Stores, LoadsSlot, StoresSlot, Branches, Jumps, Calls, Returns, Unfit, add_row}
use Rattle.rv64_instr.specs.Row.{Callee, Named, Held, Way, Back, Tail, Never}
use Rattle.rv64_instr.specs.DefsAndUses.{caller_saved}
use Rattle.mir_func.specs.declared.exit.Exit.TheVariants.{Final}
use Rattle.mir_func.specs.Exits.{row_exit, Leaves}
use Rattle.mir_func.specs.Sound.{TargetIn}
use Rattle.rv64_word.specs.MachineRow.{placed, placed_callee, placed_way}
use Rattle.sem_machine.specs.Machine.{Machine}
use Rattle.sem_machine.specs.MachineStep.{Ends, does_row}
use Rattle.sem_machine.specs.MachineStep as machine
use Rattle.rv64_instr.specs.declared.operand.Operand.{Operand}
use Rattle.rv64_instr.specs.declared.start.CallTarget.{CallTarget}
use Rattle.sem_mir.specs.Step.{numbered, called_at}
use Rattle.sem_simulation.specs.Words.{SameCode}
use Rattle.sem_simulation.proofs.Turns.{same_code}
use Rattle.sem_mir.specs.State.{Core, Reply, content, put, put_all, RunResult}
use Rattle.sem_mir.specs.Step.{Outcome, Falls, Goes, Traps, does, read}
use Rattle.sem_mir.specs.Step.{is_fault, address_at, exec_external_call, call_faults, passed, slot_loaded, set_register}
use Rattle.sem_mir.specs.Effects.{OnCore}
use Rattle.sem_mir.proofs.Outcomes.{on_either}
use Rattle.machine_steps_proof.specs.Laid.{target_of}
use Rattle.machine_steps_proof.proofs.Rows.{NeedsFrame}
use Rattle.machine_steps_proof.proofs.Registers.{LeavesTwo}
use Rattle.machine_steps_proof.proofs.Motions.{not_two}

-- ---- x2

-- a core with the same x2 and stack pointer at entry
abbrev pub SamePointer : Core → Core → Type 0
SamePointer c d = (content d.regs 2 ≡ content c.regs 2) × (d.entry ≡ c.entry)

put_two : (rd v : ℕ) (regs : ℕ → Option ℕ) → (rd ≡ 2 → ⊥) → content (put rd v regs) 2 ≡ content regs 2
put_two rd v regs ne = Rattle.sem_mir.proofs.Places.put_other rd 2 v regs (λ e. ne (sym e))

two_kept : (rs vs : List ℕ) (regs : ℕ → Option ℕ) → All (λ r. r ≡ 2 → ⊥) rs → content (put_all rs vs regs) 2 ≡ content regs 2
two_kept [] vs regs h = refl
two_kept (r ∷ rs) [] regs h =
    two_kept rs [] (put r 0 regs) (All-tail (λ (r : ℕ). r ≡ 2 → ⊥) r rs h)
    ∙ put_two r 0 regs (All-head (λ (r : ℕ). r ≡ 2 → ⊥) r rs h)
two_kept (r ∷ rs) (v ∷ vs) regs h =
    two_kept rs vs (put r v regs) (All-tail (λ (r : ℕ). r ≡ 2 → ⊥) r rs h)
    ∙ put_two r v regs (All-head (λ (r : ℕ). r ≡ 2 → ⊥) r rs h)

apart : (rs : List ℕ) → Rattle.std.specs.List.list_any (nat_eq 2) rs ≡ false → All (λ r. r ≡ 2 → ⊥) rs
apart rs none = All-weaker (Contains rs) (λ (r : ℕ). r ≡ 2 → ⊥) (λ r c. not_two rs r none c) rs (All-contains_itself rs)

module _ (c : Core) where
  set_keeps : (rd v : ℕ) → (rd ≡ 2 → ⊥) → SamePointer c (set_register rd v c)
  set_keeps rd v ne = (put_two rd v c.regs ne, refl)

  answer_keeps : (t : CallTarget) (args outgoing : List ℕ) (rs : List Reply) → OnCore (SamePointer c) (exec_external_call t args outgoing c rs)
  answer_keeps t args outgoing [] = tt
  answer_keeps t args outgoing (r ∷ rs) = on_either (SamePointer c) (call_faults c outgoing r) Traps _ tt
      (two_kept caller_saved r.regs c.regs (apart caller_saved refl), refl)

  slot_keeps : (rd : ℕ) (x : Option ℕ) → (rd ≡ 2 → ⊥) → OnCore (SamePointer c) (slot_loaded rd c x)
  slot_keeps rd None ne = tt
  slot_keeps rd (Some v) ne = set_keeps rd v ne

  -- code that doesn't set x2 keeps it
  pub row_keeps : (r : Row) → LeavesTwo r → OnCore (SamePointer c) (does r c)
  unfolding does
  row_keeps (Fixes rd n) ne = set_keeps rd _ ne
  row_keeps (Moves rd rs) ne = set_keeps rd _ ne
  row_keeps (Sets rd op a b) ne = set_keeps rd _ ne
  row_keeps (Addresses rd n o) ne = set_keeps rd _ ne
  row_keeps (Loads rd op b o) ne = on_either (SamePointer c) (is_fault b c (address_at c b o) (load_width op)) Traps _ tt (set_keeps rd _ ne)
  row_keeps (Stores op rs b o) ne = on_either (SamePointer c) (is_fault b c (address_at c b o) (store_width op)) Traps _ tt (refl, refl)
  row_keeps (LoadsSlot rd n) ne = slot_keeps rd (c.slots n) ne
  row_keeps (StoresSlot rs n) ne = (refl, refl)
  row_keeps (Branches op a b t) ne = on_either (SamePointer c) (taken op (read c a) (read c b)) (Goes t c) (Falls c) (refl, refl) (refl, refl)
  row_keeps (Jumps t) ne = (refl, refl)
  row_keeps (Calls call) ne = answer_keeps (called_at c call.callee) (passed c call) call.outgoing c.script
  row_keeps (Returns v) ne = tt
  row_keeps Unfit ne = tt

  -- `ADDI x2, x2, n`
  pub adds_falls : (n : ℕ) → read c 2 < 2 ^ 64 → does (add_row 2 2 n) c ≡ Falls (set_register 2 ((read c 2 + n) % 2 ^ 64) c)
  unfolding does computed
  adds_falls zero lt = let e : read c 2 ≡ (read c 2 + 0) % 2 ^ 64 = omega (arith, lt) in ap (λ (x : ℕ). Falls (set_register 2 x c)) e
  adds_falls (suc n) lt = refl

-- ---- rows of code

pub final_needs : (r : Row) → row_exit r ≡ Final → NeedsFrame r → ⊥
final_needs (Addresses rd n o) e h = cc
final_needs (Loads rd op (ObjectAt n) o) e h = cc
final_needs (Stores op rs (ObjectAt n) o) e h = cc
final_needs (LoadsSlot rd n) e h = cc
final_needs (StoresSlot rs n) e h = cc
final_needs (Calls call) e h = cc
final_needs _ e h = absurd h

pub adds_needs : (n : ℕ) → NeedsFrame (add_row 2 2 n) → ⊥
adds_needs zero h = h
adds_needs (suc n) h = h

-- code that returns, or is none, goes nowhere
pub final_stops : (r : Row) (c : Core) → row_exit r ≡ Final → OnCore (λ d. ⊥) (does r c)
unfolding does
final_stops (Returns v) c e = tt
final_stops Unfit c e = tt
final_stops _ c e = cc

pub on_falls : (P : Core → Type 0) (x : Outcome) (d : Core) → OnCore P x → x ≡ Falls d → P d
on_falls P x d h e = subst (OnCore P) e h

pub on_goes : (P : Core → Type 0) (x : Outcome) (n : ℕ) (d : Core) → OnCore P x → x ≡ Goes n d → P d
on_goes P x n d h e = subst (OnCore P) e h

-- where code goes to a block it is its target
abbrev IsTarget : ℕ → Outcome → Type 0
IsTarget q (Goes n d) = q ≡ n
IsTarget q _ = Unit {0}

either_target : (q : ℕ) (b : Bool) (x y : Outcome) → IsTarget q x → IsTarget q y → IsTarget q (cond b x y)
either_target q true x y a b = a
either_target q false x y a b = b

loaded_target : (c : Core) (rd : ℕ) (x : Option ℕ) → IsTarget 0 (slot_loaded rd c x)
loaded_target c rd None = tt
loaded_target c rd (Some v) = tt

answered_target : (c : Core) (t : CallTarget) (args outgoing : List ℕ) (rs : List Reply) → IsTarget 0 (exec_external_call t args outgoing c rs)
answered_target c t args outgoing [] = tt
answered_target c t args outgoing (x ∷ rs) = either_target 0 (call_faults c outgoing x) Traps _ tt tt

row_target : (r : Row) (c : Core) → IsTarget (target_of r) (does r c)
unfolding does
row_target (Loads rd op b o) c = either_target 0 (is_fault b c (address_at c b o) (load_width op)) Traps _ tt tt
row_target (Stores op rs b o) c = either_target 0 (is_fault b c (address_at c b o) (store_width op)) Traps _ tt tt
row_target (LoadsSlot rd n) c = loaded_target c rd (c.slots n)
row_target (Branches op a b n) c = either_target n (taken op (read c a) (read c b)) (Goes n c) (Falls c) refl tt
row_target (Jumps n) c = refl
row_target (Calls call) c = answered_target c (called_at c call.callee) (passed c call) call.outgoing c.script
row_target _ c = tt

pub goes_target : (r : Row) (c : Core) (n : ℕ) (d : Core) → does r c ≡ Goes n d → target_of r ≡ n
goes_target r c n d e = subst (IsTarget (target_of r)) e (row_target r c)

pub falls_one : (c d : Core) → Falls c ≡ Falls d → c ≡ d
falls_one c d e = cc

minus : (z : ℕ) → pos 0 -ℤ pos (suc z) ≡ negsuc z
minus z =
    let t : nat_le 1 (suc z) ≡ true = le-leb 1 (suc z) (omega arith) in
    let q : suc z - 1 ≡ z = omega arith in
    ap (λ (b : Bool). cond b (negsuc (suc z - 1)) (pos (0 - suc z))) t ∙ ap negsuc q

pub lowers_to : (entry size z : ℕ) → size ≡ suc z → size ≤ 2032 → 2048 ≤ entry → entry < 2 ^ 64 →
    (entry + word (pos 0 -ℤ pos size)) % 2 ^ 64 ≡ entry - size
lowers_to entry size z e small room top =
    let w : word (pos 0 -ℤ pos size) ≡ 2 ^ 64 - 1 - z % 2 ^ 64 = ap (λ (n : ℕ). word (pos 0 -ℤ pos n)) e ∙ ap word (minus z) in
    omega (arith, e, small, room, top, w)

pub raises_to : (entry size : ℕ) → size ≤ 2032 → 2048 ≤ entry → entry < 2 ^ 64 → ((entry - size) + word (pos size)) % 2 ^ 64 ≡ entry
raises_to entry size small room top = let w : word (pos size) ≡ size % 2 ^ 64 = refl in omega (arith, small, room, top, w)

pub not_zero : (n : ℕ) → (n ≡ 0 → ⊥) → (z : ℕ) × (n ≡ suc z)
not_zero zero h = absurd (h refl)
not_zero (suc z) h = (z, refl)

-- a branch goes to one of these blocks
abbrev OnGoes : (ℕ → Type 0) → Outcome → Type 0
OnGoes P (Goes n d) = P n
OnGoes P _ = Unit {0}

either_goes : (P : ℕ → Type 0) (b : Bool) (x y : Outcome) → OnGoes P x → OnGoes P y → OnGoes P (cond b x y)
either_goes P true x y a b = a
either_goes P false x y a b = b

loaded_goes : (P : ℕ → Type 0) (c : Core) (rd : ℕ) (x : Option ℕ) → OnGoes P (slot_loaded rd c x)
loaded_goes P c rd None = tt
loaded_goes P c rd (Some v) = tt

answered_goes : (P : ℕ → Type 0) (c : Core) (t : CallTarget) (args outgoing : List ℕ) (rs : List Reply) → OnGoes P (exec_external_call t args outgoing c rs)
answered_goes P c t args outgoing [] = tt
answered_goes P c t args outgoing (x ∷ rs) = either_goes P (call_faults c outgoing x) Traps _ tt tt

row_contains : (ids : List ℕ) (r : Row) (c : Core) → TargetIn ids r → OnGoes (Contains ids) (does r c)
unfolding does
row_contains ids (Loads rd op b o) c h = either_goes (Contains ids) (is_fault b c (address_at c b o) (load_width op)) Traps _ tt tt
row_contains ids (Stores op rs b o) c h = either_goes (Contains ids) (is_fault b c (address_at c b o) (store_width op)) Traps _ tt tt
row_contains ids (LoadsSlot rd n) c h = loaded_goes (Contains ids) c rd (c.slots n)
row_contains ids (Branches op a b n) c h = either_goes (Contains ids) (taken op (read c a) (read c b)) (Goes n c) (Falls c) h tt
row_contains ids (Jumps n) c h = h
row_contains ids (Calls call) c h = answered_goes (Contains ids) c (called_at c call.callee) (passed c call) call.outgoing c.script
row_contains ids _ c h = tt

pub goes_into : (ids : List ℕ) (r : Row) (c : Core) (n : ℕ) (d : Core) → TargetIn ids r → does r c ≡ Goes n d → Contains ids n
goes_into ids r c n d h e = subst (OnGoes (Contains ids)) e (row_contains ids r c h)

-- code that falls through doesn't leave
pub falls_stays : (r : Row) (c d : Core) → does r c ≡ Falls d → Leaves (row_exit r) → ⊥
unfolding does
falls_stays (Jumps n) c d e h = cc
falls_stays (Returns v) c d e h = cc
falls_stays Unfit c d e h = cc
falls_stays _ c d e h = h

-- ---- words that don't return

row_ends : (x : Row) (m : Machine) (v : RunResult) → does_row x m ≡ Ends v → ⊥
unfolding does_row
row_ends (Loads rd op (PointedBy r) o) m v e = cc
row_ends (Loads rd op (ObjectAt n) o) m v e = cc
row_ends (Loads rd op (BesidePart r y) o) m v e = cc
row_ends (Stores op rs (PointedBy r) o) m v e = cc
row_ends (Stores op rs (ObjectAt n) o) m v e = cc
row_ends (Stores op rs (BesidePart r y) o) m v e = cc
row_ends _ m v e = cc

callee_goes : (link : ℕ) (callee : Callee) (m : Machine) (v : RunResult) → machine.does (placed_callee link callee) m ≡ Ends v → ⊥
callee_goes link (Named name) m v e = row_ends Unfit m v e
callee_goes link (Held r) m v e = cc

way_goes : (way : Way Callee) (m : Machine) (v : RunResult) → machine.does (placed_way way) m ≡ Ends v → ⊥
way_goes Back m v e = cc
way_goes (Tail callee) m v e = callee_goes 0 callee m v e
way_goes (Never callee) m v e = callee_goes 1 callee m v e

pub word_goes : (target object : ℕ) (part : ℤ) (r : Row) (m : Machine) (v : RunResult) → machine.does (placed target object part r) m ≡ Ends v → ⊥
word_goes target object part (Calls call) m v e = callee_goes 1 call.callee m v e
word_goes target object part (Returns ending) m v e = way_goes ending.way m v e
word_goes target object part _ m v e = row_ends _ m v e

pub call_goes : (size : ℕ) (t : CallTarget) (args outgoing : List ℕ) (m : Machine) (rs : List Reply) (v : RunResult) →
    machine.step_call size t args outgoing m rs ≡ Ends v → ⊥
call_goes size t args outgoing m [] v e = cc
call_goes size t args outgoing m (r ∷ rs) v e = cc

-- a number changes no place
pub numbered_code : (sp call : Bool) (k : Option ℕ) (os : List Operand) (c : Core) → SameCode (numbered sp call k os c) c
numbered_code sp call None os c = same_code c
numbered_code sp call (Some k) os c =
    record { entry = refl; area = refl; objects = refl; symbols = refl; regs = refl; slots = refl; memory = refl; script = refl; events = refl }
