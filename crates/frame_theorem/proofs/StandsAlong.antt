-- At each line that the machine comes to, the frame stands at the line's point, unless the source stopped on a frame fault before.
use Rattle.std.proofs.Common.{◌≡◌, ◌⊎◌, ℕ, suc, ◌+◌, ◌-◌, ◌<◌, ◌≤◌, ◌^◌, Contains, Option, Some, None, IsSome, is_some}
use Rattle.std.proofs.Common.{Bool, true, false, cond, not, nat_eq, ◌||◌}
use Rattle.std.proofs.Common.{refl, sym, ap, ◌∙◌, subst, inl, inr, arith, eqb-true}
use Rattle.rv64_instr.specs.declared.place.Place.{Place}
use Rattle.mir_func.specs.declared.debug_substitution.OperandPair.{OperandPair}
use Rattle.mir_func.specs.declared.item.Item.{Item}
use Rattle.mir_func.specs.declared.position.Origin.{Origin}
use Rattle.mir_func.specs.declared.position.Origin.TheVariants.{Kept, Before}
use Rattle.mir_func.specs.declared.position.Pos.{Pos}
use Rattle.mir_func.specs.declared.variable.VarId.{VarId}
use Rattle.mir_func.specs.Function.{Function, FramedFunction}
use Rattle.mir_func.specs.Graph.{Here, Program, below, block_start, program_of, framed_program}
use Rattle.mir_func.specs.Positions.{position_of}
use Rattle.mir_func.specs.Sound.{IsSound}
use Rattle.mir_func.specs.SoundFrame.{SAVED, IsFramed}
use Rattle.sem_mir.specs.Align.{is_code, waits_at, SyncPoint, Since, Same, After, since_of, First, MatchedUpTo, begin, other, met}
use Rattle.sem_mir.specs.State.{Core, State, content, spelled}
use Rattle.sem_mir.specs.Step.{Went, Faulted, or_zero, step}
use Rattle.sem_mir.proofs.Alignment.{aligns_at, aligns_not_fails}
use Rattle.sem_mir.proofs.InRange.{spelled_below}
use Rattle.sem_simulation.specs.Words.{SameCode, Shown}
use Rattle.sem_machine.specs.Headline.{StartsAt, FailsBeforeLine, MachineAlong, at_start, after_step}
use Rattle.sem_machine.specs.Image.{CodeLine, Image, line_at}
use Rattle.sem_machine.specs.Machine.{Machine, machine_start}
use Rattle.sem_machine.specs.MachineStep.{Continues, machine_step}
use Rattle.frame_rule.specs.Rule.{framed_of, size_of}
use Rattle.frame_proof.specs.Stands.{FrameState, frame_state, FrameStands, IsEntered}
use Rattle.machine_steps_proof.specs.Beside.{Beside, frame_low}
use Rattle.machine_steps_proof.specs.Laid.{fetched, IsLaidAt}
use Rattle.machine_steps_proof.specs.Pointer.{is_as_at_entry, lowered_by, IsPointerAt}
use Rattle.machine_steps_proof.specs.Steps.{framed_run, Level, goes, gives, waits, faults, over, through, AtCode, single, double}
use Rattle.machine_steps_proof.proofs.Lands.{Lands, Settles, now, past_item, past_end, first_lands}
use Rattle.machine_steps_proof.proofs.Quiet.{past_debug, past_end as past_block, steps_beside}
use Rattle.machine_steps_proof.proofs.Sites.{step_lands}
use Rattle.machine_proof.specs.Lists.{GiveSitting, IsPointAt, at_code, at_jump}
use Rattle.machine_proof.specs.Runs.{ComesFrom, start_beside, RunsBeside}
use Rattle.machine_proof.proofs.Headline.{stage_along}
use Rattle.machine_proof.proofs.Late.{IsFilled, steps_quietly}
use Rattle.machine_proof.proofs.Meets.{g_start, gives_no_step, waits_no_step}
use Rattle.machine_proof.proofs.Sources.{IsWritten}
use Rattle.machine_proof.proofs.Stages.{as_code, one_machine, long_branch, Stage, level, second, late, late_second, dead}
use Rattle.frame_theorem.specs.Laws.{StandsBeside}
use Rattle.frame_theorem.specs.StandsOn.{StandsOn, start, stepped, filled}
use Rattle.frame_theorem.proofs.Finds.{below_32}
use Rattle.frame_theorem.proofs.StandsOn.{frame_stands_on}

-- ---- slots with contents

-- the content, or where there is none the given one
abbrev or_else : Option ℕ → ℕ → Option ℕ
or_else None v = Some v
or_else (Some x) v = Some x

-- a core with each slot that isn't written as it is in memory
abbrev filled_up : FramedFunction → Core → Machine → Core
filled_up f c m = record c { slots = λ o. or_else (c.slots o) (spelled m.memory (frame_low f c + o) 8) }

same_value : (a b : ℕ) → Some a ≡ Some b → b ≡ a
same_value a b e = cc

value_of : (x : Option ℕ) (w v : ℕ) → or_else x w ≡ Some v → (x ≡ Some v) ⊎ (v ≡ w)
value_of None w v e = inr (same_value w v e)
value_of (Some x) w v e = inl e

some_else : (x : Option ℕ) (w : ℕ) → IsSome (or_else x w)
some_else None w = refl
some_else (Some x) w = refl

keeps_value : (x : Option ℕ) (w v : ℕ) → x ≡ Some v → or_else x w ≡ Some v
keeps_value None w v e = cc
keeps_value (Some x) w v e = e

-- ---- the entry's stack pointer

abbrev state_as : FramedFunction → Pos → (as_found : Bool) → FrameState
state_as f p b = cond b (record { lowered = 0; saved = false }) (record { lowered = f.size; saved = not (nat_eq p.block 0) })

-- x2 is lowered as the frame's state says
pub lowered_alike : (f : FramedFunction) (p : Pos) → (frame_state f p).lowered ≡ lowered_by f p
lowered_alike f p = by_size (nat_eq f.size 0) refl (is_as_at_entry f p) where
  by_size : (none : Bool) → nat_eq f.size 0 ≡ none → (entry : Bool) → (state_as f p (none || entry)).lowered ≡ cond entry 0 f.size
  by_size true empty true = refl
  by_size true empty false = sym (eqb-true f.size 0 empty)
  by_size false some true = refl
  by_size false some false = refl

module _ (source f : Function) (resolve fresolve : OperandPair → Option OperandPair) (image : Image) (sound : IsSound f) (small : size_of f ≤ 2032)
    (framed : IsFramed (framed_of f)) (from : ComesFrom (program_of true source.blocks resolve) (framed_of f))
    (beside : RunsBeside source (framed_of f) resolve fresolve) (laid : IsLaidAt (framed_of f) image) (same_objects : (framed_of f).objects ≡ source.objects)
    (s0 : State) (starts : StartsAt source s0) (entered : IsEntered s0.core) where
  abbrev pub F : FramedFunction
  F = framed_of f

  abbrev pub S : Program
  S = program_of true source.blocks resolve

  abbrev pub G : Program
  G = framed_run (framed_of f) fresolve image laid

  abbrev pub M0 : Machine
  M0 = machine_start image s0

  -- no place is listed
  abbrev nowhere : VarId → (address : ℕ) → Place → Type 0
  nowhere v a place = ⊥

  none_wanted : GiveSitting (framed_program (framed_of f).blocks fresolve) (IsPointAt (framed_of f) laid.address) nowhere
  none_wanted v a place none p at = absurd none

  abbrev StageAt : Machine → State → Since → Type 0
  StageAt m s since = Stage source F resolve fresolve image framed from beside laid nowhere s0 starts m s since

  abbrev pub IsOn : State → Type 0
  IsOn h = StandsOn f fresolve s0.core h.pos h.core

  written_start : (r : ℕ) → Contains SAVED r → IsSome (content s0.core.regs r)
  written_start r among = let w = starts.regs r (below_32 r among) in ap is_some w.1

  -- ---- beside a core

  stands_at : (h : State) → IsOn h → FrameStands F s0.core h.pos h.core
  stands_at h on = frame_stands_on f fresolve sound small s0.core entered written_start h.pos h.core on

  stands_beside : (p : Pos) (c : Core) (m : Machine) → Beside F c m → IsPointerAt F p c → FrameStands F s0.core p c → StandsBeside F s0.core p m
  stands_beside p c m bk pointer stands = record {
    core = c;
    entry = (let at : s0.core.entry - (frame_state F p).lowered ≡ c.entry - lowered_by F p = sym (ap or_zero stands.pointer) ∙ pointer in
        let same = lowered_alike F p in
        let low = lowered_low p in
        omega (arith, at, same, low, small, bk.room, entered.room));
    beside = bk;
    stands = stands;
  } where
    lowered_low : (p : Pos) → lowered_by F p ≤ size_of f
    lowered_low p = by (is_as_at_entry F p) where
      by : (b : Bool) → cond b 0 (size_of f) ≤ size_of f
      by true = omega arith
      by false = omega arith

  -- ---- the machine beside a state with all slots written

  pub record IsFull (h : State) (m : Machine) : Type 0 where
    pub on : IsOn h
    pub full : IsFilled F h.core
    pub level : Level F fresolve image laid h m
    pub lands : Lands F h.pos

  abbrev fill : State → Machine → State
  fill t m = record { pos = t.pos; core = filled_up F t.core m }

  -- what the frame's bytes have at a slot
  abbrev in_bytes : State → Machine → (slot : ℕ) → ℕ
  in_bytes t m o = spelled m.memory (frame_low F t.core + o) 8

  fill_level : (t : State) (m : Machine) → Level F fresolve image laid t m → Level F fresolve image laid (fill t m) m
  fill_level t m l = record {
    beside = record {
      room = l.beside.room;
      top = l.beside.top;
      area = l.beside.area;
      objects = l.beside.objects;
      written = l.beside.written;
      same_entry = l.beside.same_entry;
      same_area = l.beside.same_area;
      same_symbols = l.beside.same_symbols;
      regs = l.beside.regs;
      memory = l.beside.memory;
      bytes = l.beside.bytes;
      slots = λ o v is h. elim (value_of (t.core.slots o) (in_bytes t m o) v h) as (λ _. v ≡ in_bytes t m o) [
        | inl old ↦ l.beside.slots o v is old
        | inr new ↦ new
      ];
      script = l.beside.script;
      events = l.beside.events;
    };
    range = record {
      regs = l.range.regs;
      slots = λ o v h. elim (value_of (t.core.slots o) (in_bytes t m o) v h) as (λ _. v < 2 ^ 64) [
        | inl old ↦ l.range.slots o v old
        | inr new ↦ subst (λ (x : ℕ). x < 2 ^ 64) (sym new) (spelled_below m.memory l.beside.bytes 8 (frame_low F t.core + o))
      ];
      memory = l.range.memory;
      script = l.range.script;
      pairs = l.range.pairs;
      marks = l.range.marks;
    };
    pointer = l.pointer;
    counter = l.counter;
  }

  filled_full : (t : State) (m : Machine) → IsOn t → Level F fresolve image laid t m → Lands F t.pos → IsFull (fill t m) m
  filled_full t m on l lands = record {
    on = filled t.pos t.core (filled_up F t.core m) refl
        (λ o v e. keeps_value (t.core.slots o) (in_bytes t m o) v e) on;
    full = λ o is. some_else (t.core.slots o) (in_bytes t m o);
    level = fill_level t m l;
    lands = lands;
  }

  -- ---- runs

  -- what a matched run leads to
  run_on : (points : Pos → Option SyncPoint) {t s : State} {since : Since} → MatchedUpTo S G points First s0 (start_beside s0) t s since → IsOn t
  run_on points begin = start
  run_on points (other {t = t} {t' = u} along none went) = stepped t u (run_on points along) went
  run_on points (met {t = t} {t' = u} i along at aligned went) = stepped t u (run_on points along) went

  shown_stands : (t s : State) → Shown S G s0 (start_beside s0) t s → FrameStands F s0.core t.pos t.core
  shown_stands t s shown =
      let there = stands_at shown.first (run_on _ shown.along) in
      let at_place : FrameStands F s0.core t.pos shown.first.core = subst (λ (p : Pos). FrameStands F s0.core p shown.first.core) shown.pos there in
      record {
        pointer = ap (λ (regs : ℕ → Option ℕ). content regs 2) shown.code.regs ∙ at_place.pointer;
        kept = λ none r among. ap (λ (regs : ℕ → Option ℕ). content regs r) shown.code.regs ∙ at_place.kept none r among;
        in_places = λ some s listed. ap (λ (slots : ℕ → Option ℕ). slots s.offset) shown.code.slots ∙ at_place.in_places some s listed;
        others = λ some r among free. ap (λ (regs : ℕ → Option ℕ). content regs r) shown.code.regs ∙ at_place.others some r among free;
      }

  -- ---- where the frame stands as the machine runs

  -- the machine is beside a state with all slots written, or at the second word of a long branch from one to another
  pub data Standing (m : Machine) : Type 0 where
    at_state : (h : State) → IsFull h m → Standing m
    at_second : (p : Pos) → StandsBeside F s0.core p m → IsPointAt F laid.address m.counter p → (h : State) (n : Machine) →
        machine_step image m ≡ Continues n → IsFull h n → Standing m

  -- over debug items and ends of blocks
  record IsAt (q : Pos) (m : Machine) : Type 0 where
    state : State
    at : state.pos ≡ q
    on : IsOn state
    full : IsFilled F state.core
    level : Level F fresolve image laid state m

  still_full : (c d : Core) → SameCode d c → IsFilled F c → IsFilled F d
  still_full c d code full o is = subst (λ (slots : ℕ → Option ℕ). IsSome (slots o)) (sym code.slots) (full o is)

  settle : {p q : Pos} → Settles F p q → (h : State) (m : Machine) → h.pos ≡ p → IsOn h → IsFilled F h.core → Level F fresolve image laid h m → IsAt q m
  settle now h m e on full l = record { state = h; at = e; on = on; full = full; level = l }
  settle (past_item i here plain rest) h m e on full l =
      let k = past_debug F framed fresolve image laid h m l i (ap (fetched F) e ∙ here) plain in
      settle rest k.next m (k.at ∙ ap below e) (stepped h k.next on k.went) (still_full h.core k.next.core k.code full) k.level
  settle (past_end j n end rest) h m e on full l =
      let k = past_block F framed fresolve image laid h m l j n (ap (fetched F) e ∙ end) in
      settle rest k.next m (k.at ∙ ap (λ (p : Pos). block_start (suc p.block)) e) (stepped h k.next on k.went)
      (still_full h.core k.next.core k.code full) k.level

  -- at the code to which a state lands
  record IsCodeAt (m : Machine) : Type 0 where
    state : State
    item : Item
    here : fetched F state.pos ≡ Here item
    code : is_code item.kind ≡ true
    on : IsOn state
    full : IsFilled F state.core
    level : Level F fresolve image laid state m

  code_at : (h : State) (m : Machine) → IsFull h m → IsCodeAt m
  code_at h m is =
      let z = settle is.lands.settles h m refl is.on is.full is.level in
      record {
        state = z.state;
        item = is.lands.item;
        here = ap (fetched F) z.at ∙ is.lands.stands;
        code = is.lands.code;
        on = z.on;
        full = z.full;
        level = z.level;
      }

  beside_code : (m : Machine) (z : IsCodeAt m) → StandsBeside F s0.core z.state.pos m
  beside_code m z = stands_beside z.state.pos z.state.core m z.level.beside z.level.pointer (stands_at z.state z.on)

  -- the point of a line at which the frame stands
  pub point_of : (m : Machine) → Standing m → (p : Pos) × StandsBeside F s0.core p m × IsPointAt F laid.address m.counter p
  point_of m (at_state h is) = let z = code_at h m is in (z.state.pos, beside_code m z, at_code z.item z.here z.code z.level.counter)
  point_of m (at_second p stands at h n goes_on is) = (p, stands, at)

  -- ---- a step

  -- with all slots written the function stops on a frame fault, at code from this origin
  record IsStuck (m : Machine) (o : Origin) : Type 0 where
    at : IsCodeAt m
    from_there : o ≡ at.item.origin
    stops : step G at.state ≡ Faulted

  one_line : (a b : CodeLine) → Some a ≡ Some b → a ≡ b
  one_line a b e = cc

  module _ (m n : Machine) (l : CodeLine) (line : line_at image.lines m.counter ≡ Some l) (continues : machine_step image m ≡ Continues n) where
    to_state : (z : IsCodeAt m) (u : State) (x : Machine) → step G z.state ≡ Went u → machine_step image m ≡ Continues x →
        Level F fresolve image laid u x → Standing n
    to_state z u x went cont lev =
        let ic = as_code z.item z.code in
        let lands = step_lands F framed fresolve image laid z.state m z.level z.item z.here ic.code ic.number ic.kind u went in
        subst Standing (one_machine x n (sym cont ∙ continues)) (at_state (fill u x) (filled_full u x (stepped z.state u z.on went) lev lands))

    from_code : (z : IsCodeAt m) → AtCode F fresolve image laid z.state m z.item → Standing n ⊎ IsStuck m l.origin
    from_code z (single l0 at o (goes u x went cont lev)) = inl (to_state z u x went cont lev)
    from_code z (single l0 at o (gives v ret ends)) = absurd (gives_no_step v n (sym ends ∙ continues))
    from_code z (single l0 at o (waits w a)) = absurd (waits_no_step n (sym a ∙ continues))
    from_code z (single l0 at o (faults flt never)) =
        inr (record { at = z; from_there = ap (λ (x : CodeLine). x.origin) (one_line l l0 (sym line ∙ at)) ∙ o; stops = flt })
    from_code z (double l0 j at at_j o oj b exit (over u x went cont place same lev)) = inl (to_state z u x went cont lev)
    from_code z (double l0 j at at_j o oj b exit (through u k x went cont counter bk cont_x same lev)) =
        let t = z.state in
        let ic = as_code z.item z.code in
        let lands = step_lands F framed fresolve image laid t m z.level z.item z.here ic.code ic.number ic.kind u went in
        let size = long_branch source F resolve fresolve image framed from beside laid nowhere s0 starts t.pos z.item l0 b z.here exit
        (ap (line_at image.lines) (sym z.level.counter) ∙ at) o in
        inl (subst Standing (one_machine k n (sym cont ∙ continues)) (at_second t.pos
        (stands_beside t.pos t.core k bk z.level.pointer (stands_at t z.on))
        (at_jump z.item b z.here exit size (counter ∙ ap (λ (c : ℕ). c + 4) z.level.counter))
        (fill u x) x cont_x (filled_full u x (stepped t u z.on went) lev lands)))

    next_standing : Standing m → Standing n ⊎ IsStuck m l.origin
    next_standing (at_state h is) = let z = code_at h m is in
        from_code z (steps_beside F framed fresolve image laid z.state m z.level z.item z.here z.code)
    next_standing (at_second p stands at h k goes_on is) = inl (subst Standing (one_machine k n (sym goes_on ∙ continues)) (at_state h is))

  -- ---- stops

  -- the source stops one step before
  abbrev pub HasStopped : State → Since → Type 0
  HasStopped s since = (step S s ≡ Faulted) × (since ≡ After)

  -- where the function is stuck at code that was added before a position, the source isn't about to stop there
  not_added : (m : Machine) (o : Origin) → IsStuck m o → (s : State) → s.pos ≡ position_of o → IsWritten s.core → step S s ≡ Faulted →
      Same ≡ since_of (waits_at false o) → ⊥
  not_added m (Kept q) stuck s at written stops e = cc
  not_added m (Before q) stuck s at written stops e =
      let z = stuck.at in
      let ic = as_code z.item z.code in
      elim (from.added z.state.pos z.item ic.code ic.number q z.here ic.kind (sym stuck.from_there)) as (λ _. ⊥) [
        | inl harmless ↦
            let quiet = steps_quietly F framed fresolve image laid z.state m z.level z.item z.here ic.code ic.number ic.kind harmless z.full in
            let bad : Went quiet.next ≡ Faulted = sym quiet.went ∙ stuck.stops in
            cc
        | inr never ↦ never s at written stops
      ]

  -- so from there on the function's run stands anew, or the source has stopped
  past_stop : (m n : Machine) (o : Origin) → IsStuck m o → (s : State) → s.pos ≡ position_of o → IsWritten s.core → (since : Since) →
      since ≡ since_of (waits_at false o) → StageAt n s since → Standing n ⊎ HasStopped s since
  past_stop m n o stuck s at written since e (level t since_g along stands lands counts) =
      inl (at_state (fill t n) (filled_full t n (run_on _ along) stands lands))
  past_stop m n o stuck s at written since e (second t u i j k at_j oj place shown bk pointer point cont stands lands along) =
      inl (at_second t.pos (stands_beside t.pos t.core n bk pointer (shown_stands t s shown)) point (fill u k) k cont
      (filled_full u k (run_on _ along) stands lands))
  past_stop m n o stuck s at written since e (late h carried stands lands quiet) = absurd (not_added m o stuck s at written carried.stops e)
  past_stop m n o stuck s at written since e (late_second h j k carried at_j kept bk pointer point cont) =
      absurd (not_added m o stuck s at written carried.stops e)
  past_stop m n o stuck s at written since e (dead stops) = inr (stops, refl)

  -- it fails before each line that comes
  pub stopped_fails : (s : State) (since : Since) (l : CodeLine) → HasStopped s since → FailsBeforeLine S l since s
  stopped_fails s since l (stops, e) = subst (λ (x : Since). FailsBeforeLine S l x s) (sym e) (inl stops)

  -- wherever the machine's run has come beside the source's
  pub standing_along : {m : Machine} {s : State} {since : Since} → MachineAlong S image M0 s0 m s since → Standing m ⊎ HasStopped s since
  standing_along at_start =
      inl (at_state (fill (start_beside s0) M0) (filled_full (start_beside s0) M0 start
      (g_start source F resolve fresolve image framed from beside laid nowhere none_wanted s0 starts same_objects) (first_lands F framed)))
  standing_along (after_step {m} {m'} {s} {s'} {since} l along line aligned continues) =
      let p = position_of l.origin in
      let after = stage_along source F resolve fresolve image framed from beside laid nowhere none_wanted s0 starts same_objects
      (after_step l along line aligned continues) in
      elim (standing_along along) as (λ _. Standing m' ⊎ HasStopped s' (since_of (waits_at false l.origin))) [
        | inl standing ↦ elim (next_standing m m' l line continues standing) as (λ _. Standing m' ⊎ HasStopped s' (since_of (waits_at false l.origin))) [
          | inl next ↦ inl next
          | inr stuck ↦ past_stop m m' l.origin stuck s' (aligns_at S (First p) p since s s' aligned) after.1 (since_of (waits_at false l.origin)) refl after.0
        ]
        | inr stopped ↦ absurd (aligns_not_fails S (First p) p refl since s s' aligned (stopped_fails s since l stopped))
      ]
