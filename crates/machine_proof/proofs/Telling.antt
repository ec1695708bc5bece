-- What the function with its frame tells, carried along its run and past its stop, and what lists give of it: a place that a list gives
-- holds at the machine what a run of the function knows of it, and this the source tells.
use Rattle.std.proofs.Common.{◌≡◌, ℕ, ◌+◌, List, [], ◌∷◌, Option, Some, None, Bool, true, false, cond, refl, sym, ap, ◌∙◌, subst}
use Rattle.rv64_instr.specs.declared.operand.Operand.{Operand}
use Rattle.rv64_instr.specs.declared.place.Place.{Place}
use Rattle.rv64_instr.specs.Arithmetic.{taken, load_width, store_width}
use Rattle.rv64_instr.specs.DefsAndUses.{reads}
use Rattle.rv64_instr.specs.Instruction.{Instruction}
use Rattle.rv64_instr.specs.LocationEffects.{is_call}
use Rattle.rv64_instr.specs.Row.{Row, Loads, Stores, LoadsSlot, Branches, Calls, Returns, Unfit, row_of}
use Rattle.rv64_instr.specs.declared.start.CallTarget.{CallTarget}
use Rattle.mir_func.specs.declared.debug_substitution.OperandPair.{OperandPair}
use Rattle.mir_func.specs.declared.item.Item.{Item}
use Rattle.mir_func.specs.declared.item.ItemKind.{ItemKind}
use Rattle.mir_func.specs.declared.item.ItemKind.TheVariants.{Code, Mark, Phi}
use Rattle.mir_func.specs.declared.position.Pos.{Pos}
use Rattle.mir_func.specs.declared.variable.MarkValue.{MarkValue}
use Rattle.mir_func.specs.declared.variable.VarId.{VarId}
use Rattle.mir_func.specs.Function.{FramedFunction}
use Rattle.mir_func.specs.Graph.{Here, EndOfBlock, Program, below, block_start}
use Rattle.mir_func.specs.SoundFrame.{IsFramed}
use Rattle.mir_func.specs.Variables.{is_same, overlaps, part_value}
use Rattle.sem_mir.specs.Align.{is_code, Since, SyncPoint, MatchedUpTo, begin, other, met, Tells}
use Rattle.sem_mir.specs.Effects.{OnCore}
use Rattle.sem_mir.specs.State.{Core, State, Reply, updated, content, spelled, assigned}
use Rattle.sem_mir.specs.Step.{Went, Outcome, Falls, Goes, Gives, Traps, Asks}
use Rattle.sem_mir.specs.Step.{Breaks, act, does, are_written, is_fault, address_at, exec_external_call, call_faults, passed, slot_loaded}
use Rattle.sem_mir.specs.Step.{numbered, with_core, part_of, mark_value, place_value, do_item, moved, step, read, called_at}
use Rattle.sem_mir.specs.ValueId.{Token, register_token, Path}
use Rattle.sem_mir.proofs.Outcomes.{on_either, step_item, step_end}
use Rattle.machine_steps_proof.proofs.sem_value_ids.Along.{good_names}
use Rattle.machine_steps_proof.proofs.sem_value_ids.Naming.{Holds}
use Rattle.sem_simulation.specs.Words.{SameCode}
use Rattle.sem_machine.specs.Image.{Image}
use Rattle.sem_machine.specs.Machine.{Machine, place_content}
use Rattle.machine_steps_proof.specs.Beside.{frame_low, Beside}
use Rattle.machine_steps_proof.specs.Laid.{IsLaidAt}
use Rattle.machine_steps_proof.specs.Pointer.{IsPointerAt}
use Rattle.machine_steps_proof.specs.Steps.{framed_run, Level}
use Rattle.machine_steps_proof.proofs.Known.{Known, known_step}
use Rattle.machine_steps_proof.proofs.Places.{places_hold}
use Rattle.machine_steps_proof.proofs.Slots.{slot_offset}
use Rattle.machine_proof.specs.Lists.{GiveSitting, IsPointAt}
use Rattle.machine_proof.specs.Runs.{AssignsNothing}
use Rattle.machine_proof.proofs.Late.{filled, level_filled}

-- what the one tells, the other tells too
abbrev pub Telling : State → State → Type 0
Telling c s = (v : VarId) (x : ℕ) → Tells c v x → Tells s v x

-- ---- code gives no variable a value

module _ (c : Core) where
  abbrev SameMarks : Core → Type 0
  SameMarks d = d.marks ≡ c.marks

  answer_marks : (t : CallTarget) (args outgoing : List ℕ) (rs : List Reply) → OnCore SameMarks (exec_external_call t args outgoing c rs)
  answer_marks t args outgoing [] = tt
  answer_marks t args outgoing (r ∷ rs) = on_either SameMarks (call_faults c outgoing r) Traps _ tt refl

  slot_marks : (rd : ℕ) (x : Option ℕ) → OnCore SameMarks (slot_loaded rd c x)
  slot_marks rd None = tt
  slot_marks rd (Some v) = refl

  does_marks : (r : Row) → OnCore SameMarks (does r c)
  unfolding does
  does_marks (Loads rd op b o) = on_either SameMarks (is_fault b c (address_at c b o) (load_width op)) Traps _ tt refl
  does_marks (Stores op rs b o) = on_either SameMarks (is_fault b c (address_at c b o) (store_width op)) Traps _ tt refl
  does_marks (LoadsSlot rd n) = slot_marks rd (c.slots n)
  does_marks (Branches op a b t) = on_either SameMarks (taken op (read c a) (read c b)) (Goes t c) (Falls c) refl refl
  does_marks (Calls call) = answer_marks (called_at c call.callee) (passed c call) call.outgoing c.script
  does_marks (Returns v) = tt
  does_marks Unfit = tt
  does_marks _ = refl

  act_marks : (r : Row) → OnCore SameMarks (act r c)
  unfolding act
  act_marks r = on_either SameMarks (are_written c (reads r)) (does r c) Traps (does_marks r) tt

  numbered_marks : (sp call : Bool) (k : Option ℕ) (os : List Operand) (d : Core) → SameMarks d → SameMarks (numbered sp call k os d)
  numbered_marks sp call None os d h = h
  numbered_marks sp call (Some k) os d h = h

  with_marks : (j : Core → Core) → ((d : Core) → SameMarks d → SameMarks (j d)) → (x : Outcome) → OnCore SameMarks x → OnCore SameMarks (with_core j x)
  with_marks j w (Falls d) h = w d h
  with_marks j w (Goes n d) h = w d h
  with_marks j w (Gives v) h = tt
  with_marks j w Traps h = tt
  with_marks j w Asks h = tt
  with_marks j w Breaks h = tt

  moved_marks : (enter : ℕ → ℕ) (p : Pos) (x : Outcome) (u : State) → OnCore SameMarks x → moved enter p x ≡ Went u → SameMarks u.core
  moved_marks enter p (Falls d) u h e = let made : State = record { pos = below p; core = d } in let w : made ≡ u = cc in
      subst (λ (z : State). SameMarks z.core) w h
  moved_marks enter p (Goes n d) u h e = let made : State = record { pos = block_start (enter n); core = d } in let w : made ≡ u = cc in
      subst (λ (z : State). SameMarks z.core) w h
  moved_marks enter p (Gives v) u h e = cc
  moved_marks enter p Traps u h e = cc
  moved_marks enter p Asks u h e = cc
  moved_marks enter p Breaks u h e = cc

tells_by : (h u : State) → u.core.marks ≡ h.core.marks → Telling u h
tells_by h u same v x e = ap (λ (ms : List (VarId × Option ℕ)). assigned v ms) (sym same) ∙ e

-- after code nothing more is told
pub code_tells : (g : Program) (h u : State) (i : Item) (c : Instruction) (k : Option ℕ) → g.fetch h.pos ≡ Here i → i.kind ≡ Code c k → step g h ≡ Went u →
    Telling u h
code_tells g h u i c k here kind went =
    let j = numbered g.sees_pointer (is_call (row_of c)) k c.operands in
    tells_by h u (moved_marks h.core g.enter h.pos (with_core j (act (row_of c) h.core)) u
    (with_marks h.core j (numbered_marks h.core g.sees_pointer (is_call (row_of c)) k c.operands) (act (row_of c) h.core) (act_marks h.core (row_of c)))
    (sym (step_item g h i (with_core j (act (row_of c) h.core)) here (ap (λ (x : ItemKind). do_item g x h.core) kind)) ∙ went))

-- ---- nor do debug items that assign nothing, nor ends of blocks

unmarked : (v w : VarId) (y : Option ℕ) (ms : List (VarId × Option ℕ)) (x : ℕ) → y ≡ None → assigned v ((w, y) ∷ ms) ≡ Some x → assigned v ms ≡ Some x
unmarked v w y ms x none e = by_case (is_same v w) (overlaps v w) e where
  by_case : (a b : Bool) → cond a y (cond b None (assigned v ms)) ≡ Some x → assigned v ms ≡ Some x
  by_case true b h = let bad : None ≡ Some x = sym none ∙ h in cc
  by_case false true h = cc
  by_case false false h = h

pub debug_tells : (g : Program) (h u : State) (i : Item) → g.fetch h.pos ≡ Here i → is_code i.kind ≡ false → AssignsNothing i.kind → step g h ≡ Went u →
    Telling u h
debug_tells g h u i here plain none went v x e = by_kind i.kind refl plain none where
  after : (d : Core) → do_item g i.kind h.core ≡ Falls d → assigned v d.marks ≡ Some x
  after d done =
      let made : State = record { pos = below h.pos; core = d } in
      let both : Went made ≡ Went u = sym (step_item g h i (Falls d) here done) ∙ went in
      let same : made ≡ u = cc in
      ap (λ (z : State). assigned v z.core.marks) same ∙ e

  by_kind : (k : ItemKind) → i.kind ≡ k → is_code k ≡ false → AssignsNothing k → Tells h v x
  by_kind (Code c n) q p a = cc
  by_kind (Mark w m) q p a =
      let y = part_of w (mark_value g m h.core) in
      let d : Core = record h.core { marks = (w, y) ∷ h.core.marks } in
      unmarked v w y h.core.marks x (ap (λ (z : MarkValue). part_of w (mark_value g z h.core)) a)
      (after d (ap (λ (z : ItemKind). do_item g z h.core) q))
  by_kind (Phi r n) q p a =
      let d : Core = record h.core { pairs = updated n (updated 0 (place_value r h.core) (h.core.pairs n)) h.core.pairs } in
      after d (ap (λ (z : ItemKind). do_item g z h.core) q)

pub end_tells : (g : Program) (h u : State) (k n : ℕ) → g.fetch h.pos ≡ EndOfBlock k n → step g h ≡ Went u → Telling u h
end_tells g h u k n end went =
    let made : State = record { pos = block_start (g.enter n); core = h.core } in
    let both : Went made ≡ Went u = sym (step_end g h k n end) ∙ went in
    let same : made ≡ u = cc in
    tells_by h u (ap (λ (z : State). z.core.marks) (sym same))

-- ---- what is known

-- along a run beside the source's
pub known_along : (src g : Program) (sync_points : Pos → Option SyncPoint) (Stops : Pos → Pos → Type 0) (s0 g0 : State) {t s : State} {m : Since} →
    MatchedUpTo src g sync_points Stops s0 g0 t s m → Known g g0.pos g0 → Known g g0.pos t
known_along src g sync_points Stops s0 g0 begin k = k
known_along src g sync_points Stops s0 g0 (other {t = t} {t' = t'} a none go) k = known_step g g0.pos t t' (known_along src g sync_points Stops s0 g0 a k) go
known_along src g sync_points Stops s0 g0 (met {t = t} {t' = t'} i a at al go) k = known_step g g0.pos t t' (known_along src g sync_points Stops s0 g0 a k) go

module _ (f : FramedFunction) (framed : IsFramed f) (resolve : OperandPair → Option OperandPair) (image : Image) (laid : IsLaidAt f image) where
  abbrev G : Program
  G = framed_run f resolve image laid

  -- with the slots as the frame's bytes have them: what is known of a slot with a token is what the bytes have
  pub known_filled : (first t : State) (m : Machine) → Known G (block_start 0) first → first.pos ≡ t.pos → SameCode t.core first.core →
      Level f resolve image laid t m → Known G (block_start 0) (record { pos = t.pos; core = filled f t.core first.core m })
  known_filled first t m k pos code level = record {
    count = k.count;
    tokens = k.tokens;
    value = k.value;
    path = subst (λ (p : Pos). Path G (block_start 0) k.count p k.tokens) pos k.path;
    good = record {
      numbers = k.good.numbers;
      regs = λ r. subst (λ (regs : ℕ → Option ℕ). Holds k.value (register_token k.tokens.regs r) (content regs r)) (sym code.regs) (k.good.regs r);
      slots = λ o. by_token o (k.tokens.slots o) refl (k.good.slots o);
      pairs = k.good.pairs;
      variables = k.good.variables;
    };
    old = k.old;
    range = (level_filled f framed resolve image laid t first.core m level k.range).range;
  } where
    by_token : (o : ℕ) (x : Option Token) → k.tokens.slots o ≡ x → Holds k.value x (first.core.slots o) →
        Holds k.value x (Some (spelled m.memory (frame_low f t.core + o) 8))
    by_token o None e h = tt
    by_token o (Some q) e h =
        let written : t.core.slots o ≡ Some (k.value q) = ap (λ (slots : ℕ → Option ℕ). slots o) code.slots ∙ h in
        ap Some (sym (level.beside.slots o (k.value q) (slot_offset f framed resolve k.path o q e) written))

  -- ---- what lists give

  module _ (lists : VarId → (address : ℕ) → Place → Type 0) (sitting : GiveSitting G (IsPointAt f laid.address) lists) where
    -- each place that a list gives a part of a variable at the machine's counter holds the value of its newest assignment
    abbrev pub Held : Machine → State → Type 0
    Held m s = (v : VarId) (place : Place) → lists v m.counter place → Tells s v (part_value v (place_content place m))

    -- c is known, and the machine is beside d, which has the same places
    pub held_by : (c : State) (d : Core) (m : Machine) (s : State) → Known G (block_start 0) c → Telling c s → SameCode d c.core → Beside f d m →
        IsPointerAt f c.pos d → IsPointAt f laid.address m.counter c.pos → Held m s
    held_by c d m s k told same bk pointer at v place given =
        let sits = (sitting v m.counter place given c.pos at).same k.count k.tokens k.path in
        let names = good_names k.value k.tokens c.core k.good in
        let held = places_hold f framed resolve k.count c.pos k.tokens k.path k.value c.core d names same m bk pointer place sits.0 sits.2 in
        told v (part_value v (k.value sits.0)) (names.variables v sits.0 sits.1) ∙ ap (λ (x : ℕ). Some (part_value v x)) (sym held)
