-- The headline of an image in which a function with its frame lies.
use Rattle.std.proofs.Common.{◌≡◌, ◌⊎◌, ℕ, ◌+◌, List, [], ◌∷◌, Option, Some, None, Bool, true, false, refl, sym, ap, ◌∙◌, subst, inl, inr}
use Rattle.rv64_instr.specs.Instruction.{Instruction}
use Rattle.rv64_instr.specs.Row.{Row, row_of}
use Rattle.rv64_instr.specs.declared.place.Place.{Place}
use Rattle.mir_func.specs.declared.debug_substitution.OperandPair.{OperandPair}
use Rattle.mir_func.specs.declared.exit.Exit.TheVariants.{Perhaps, Final}
use Rattle.mir_func.specs.declared.item.Item.{Item}
use Rattle.mir_func.specs.declared.item.ItemKind.{ItemKind}
use Rattle.mir_func.specs.declared.item.ItemKind.TheVariants.{Code}
use Rattle.mir_func.specs.declared.position.Origin.{Origin}
use Rattle.mir_func.specs.declared.position.Origin.TheVariants.{Kept, Before}
use Rattle.mir_func.specs.declared.position.Pos.{Pos}
use Rattle.mir_func.specs.declared.variable.VarId.{VarId}
use Rattle.mir_func.specs.Exits.{exit_of}
use Rattle.mir_func.specs.Function.{Function, FramedFunction}
use Rattle.mir_func.specs.Graph.{Here, Program, below, block_start, program_of, framed_program}
use Rattle.mir_func.specs.SoundFrame.{IsFramed}
use Rattle.sem_mir.specs.Align.{is_code, waits_at, ByWords, sync_point_of, Since, Start, Same, After, since_of, First, MatchesNext}
use Rattle.sem_mir.specs.Align.{begin, FailsBefore}
use Rattle.sem_mir.specs.State.{Core, State, RunResult}
use Rattle.sem_mir.specs.Step.{Returned, read, step, called_at}
use Rattle.sem_simulation.specs.Words.{Shown}
use Rattle.sem_simulation.proofs.Order.{cases_pos}
use Rattle.sem_simulation.proofs.Stations.{code_sync_point}
use Rattle.sem_machine.specs.Image.{CodeLine, Image, line_at}
use Rattle.sem_machine.specs.Machine.{Machine, machine_start}
use Rattle.sem_machine.specs.MachineStep.{Continues, Ends, machine_step}
use Rattle.sem_machine.specs.Headline.{StartsAt, MachineAgrees}
use Rattle.machine_steps_proof.specs.Beside.{Beside}
use Rattle.machine_steps_proof.specs.Laid.{fetched, IsLaidAt}
use Rattle.machine_steps_proof.specs.Steps.{framed_run, Level, OneStep, goes, gives, waits, faults, TwoSteps, over, through, AtCode, single, double}
use Rattle.machine_steps_proof.proofs.Lands.{Lands}
use Rattle.machine_steps_proof.proofs.Quiet.{steps_beside}
use Rattle.machine_steps_proof.proofs.Sites.{step_lands}
use Rattle.machine_proof.specs.Runs.{FallsTo, ComesFrom, start_beside, RunsBeside}
use Rattle.machine_proof.proofs.Sources.{IsWritten, aligns_written}
use Rattle.sem_mir.specs.Step.{Outcome, Falls, Goes, Gives, Traps, Asks, Breaks}
use Rattle.sem_mir.specs.Step.{act, does, with_core, numbered, moved, do_item, exec_external_call, call_faults, passed, slot_loaded}
use Rattle.sem_mir.specs.Step.{is_fault, address_at}
use Rattle.sem_mir.specs.State.{Reply}
use Rattle.mir_func.specs.Exits.{row_exit}
use Rattle.rv64_instr.specs.Row.{Loads, Stores, LoadsSlot, Branches, Calls, Returns}
use Rattle.rv64_instr.specs.Arithmetic.{taken, load_width, store_width}
use Rattle.rv64_instr.specs.declared.start.CallTarget.{CallTarget}
use Rattle.machine_proof.proofs.Stages.{falls_to, one_machine, IsCode, as_code, g, AlongWords, Counts, Stage, level, second, late, late_second, dead, MetAt}
use Rattle.machine_proof.proofs.Stages.{IsCarried, IsQuiet, falls_on, long_branch}
use Rattle.machine_proof.proofs.Telling.{code_tells, held_by}
use Rattle.machine_proof.specs.Lists.{GiveSitting, IsPointAt, at_code, at_jump}
use Rattle.machine_steps_proof.proofs.Known.{known_step}
use Rattle.sem_simulation.proofs.Turns.{same_code}
use Rattle.machine_steps_proof.specs.Pointer.{IsPointerAt}
use Rattle.machine_proof.proofs.Stages.{Settled, settle, SettledLate, settle_late, filled_by, late_step}
use Rattle.mir_func.specs.Objects.{area_of}
use Rattle.mir_func.specs.Positions.{position_of}
use Rattle.sem_mir.proofs.Alignment.{aligns_once, aligns_not_fails}
use Rattle.sem_machine.specs.Headline.{AlignsWith, MachineAlong, at_start, after_step, Headline}
use Rattle.machine_steps_proof.proofs.Lands.{first_lands}
use Rattle.machine_proof.specs.Runs.{LaidCodeMeetsTheHeadline}
use Rattle.machine_proof.proofs.Meets.{ends_no_step, waits_no_step, waits_no_end, agree_on, one_met, two_met, g_start, HeldAt, held_shown}
use Rattle.sem_mir.proofs.Outcomes.{step_item}
use Rattle.machine_proof.proofs.Stops.{stops_well}

-- ---- returns

abbrev OnGives : Type 0 → Outcome → Type 0
OnGives P (Gives v) = P
OnGives P _ = Unit {0}

either_gives : (P : Type 0) (b : Bool) (x y : Outcome) → OnGives P x → OnGives P y → OnGives P (Rattle.std.proofs.Common.cond b x y)
either_gives P true x y a b = a
either_gives P false x y a b = b

loaded_gives : (P : Type 0) (c : Core) (rd : ℕ) (x : Option ℕ) → OnGives P (slot_loaded rd c x)
loaded_gives P c rd None = tt
loaded_gives P c rd (Some v) = tt

answered_gives : (P : Type 0) (c : Core) (t : CallTarget) (args outgoing : List ℕ) (rs : List Reply) → OnGives P (exec_external_call t args outgoing c rs)
answered_gives P c t args outgoing [] = tt
answered_gives P c t args outgoing (x ∷ rs) = either_gives P (call_faults c outgoing x) Traps _ tt tt

row_gives : (r : Row) (c : Core) → OnGives (row_exit r ≡ Final) (does r c)
unfolding does
row_gives (Loads rd op b o) c = either_gives _ (is_fault b c (address_at c b o) (load_width op)) Traps _ tt tt
row_gives (Stores op rs b o) c = either_gives _ (is_fault b c (address_at c b o) (store_width op)) Traps _ tt tt
row_gives (LoadsSlot rd n) c = loaded_gives _ c rd (c.slots n)
row_gives (Branches op a b t) c = either_gives _ (taken op (read c a) (read c b)) (Goes t c) (Falls c) tt tt
row_gives (Calls call) c = answered_gives _ c (called_at c call.callee) (passed c call) call.outgoing c.script
row_gives (Returns v) c = refl
row_gives _ c = tt

act_gives : (r : Row) (c : Core) → OnGives (row_exit r ≡ Final) (act r c)
unfolding act
act_gives r c = either_gives _ _ (does r c) Traps (row_gives r c) tt

with_gives : (P : Type 0) (j : Core → Core) (x : Outcome) → OnGives P x → OnGives P (with_core j x)
with_gives P j (Falls c) h = tt
with_gives P j (Goes n c) h = tt
with_gives P j (Gives v) h = h
with_gives P j Traps h = tt
with_gives P j Asks h = tt
with_gives P j Breaks h = tt

moved_gives : (P : Type 0) (enter : ℕ → ℕ) (p : Pos) (x : Outcome) (v : RunResult) → OnGives P x → moved enter p x ≡ Returned v → P
moved_gives P enter p (Gives w) v h e = h
moved_gives P enter p (Falls c) v h e = cc
moved_gives P enter p (Goes n c) v h e = cc
moved_gives P enter p Traps v h e = cc
moved_gives P enter p Asks v h e = cc
moved_gives P enter p Breaks v h e = cc

-- a step that returns is a return's
step_final : (g : Program) (t : State) (i : Item) (c : Instruction) (k : Option ℕ) (v : RunResult) → g.fetch t.pos ≡ Here i → i.kind ≡ Code c k →
    step g t ≡ Returned v → exit_of i.kind ≡ Final
step_final g t i c k v here kind e =
    let j = numbered g.sees_pointer (Rattle.rv64_instr.specs.LocationEffects.is_call (row_of c)) k c.operands in
    ap exit_of kind ∙ moved_gives (row_exit (row_of c) ≡ Final) g.enter t.pos (with_core j (act (row_of c) t.core)) v
    (with_gives (row_exit (row_of c) ≡ Final) j (act (row_of c) t.core) (act_gives (row_of c) t.core))
    (sym (step_item g t i (with_core j (act (row_of c) t.core)) here (ap (λ (x : ItemKind). do_item g x t.core) kind)) ∙ e)

one_line : (a b : CodeLine) → Some a ≡ Some b → a ≡ b
one_line a b e = cc

module _ (source : Function) (f : FramedFunction) (resolve fresolve : OperandPair → Option OperandPair) (image : Image) (framed : IsFramed f)
    (from : ComesFrom (program_of true source.blocks resolve) f) (beside : RunsBeside source f resolve fresolve) (laid : IsLaidAt f image)
    (lists : VarId → (address : ℕ) → Place → Type 0)
    (wanted : GiveSitting (framed_program f.blocks fresolve) (IsPointAt f laid.address) lists) (s0 : State) (start : StartsAt source s0)
    (same_objects : f.objects ≡ source.objects) where
  abbrev S : Program
  S = program_of true source.blocks resolve

  abbrev G : Program
  G = framed_run f fresolve image laid

  abbrev M0 : Machine
  M0 = machine_start image s0

  abbrev StageAt : Machine → State → Since → Type 0
  StageAt m s since = Stage source f resolve fresolve image framed from beside laid lists s0 start m s since

  abbrev Met : Machine → State → Since → Origin → Type 0
  Met m s since o = MetAt source f resolve fresolve image framed from beside laid lists s0 start m s since o

  -- the alignment counts as the function's does
  aligned_as : (s s' : State) (p q : Pos) (since since_g : Since) →
      Counts source f resolve fresolve image framed from beside laid lists s0 start s p since since_g →
      (since_g ≡ After → (s.pos ≡ q → ⊥) ⊎ (since ≡ since_g)) → MatchesNext S (First q) q since_g s s' → MatchesNext S (First q) q since s s'
  aligned_as s s' p q since since_g (inl e) ne a = subst (λ (z : Since). MatchesNext S (First q) q z s s') (sym e) a
  aligned_as s s' p q since since_g (inr (e, eg, apart)) ne a = elim (ne eg) as (λ _. MatchesNext S (First q) q since s s') [
    | inl other_place ↦ subst (λ (z : Since). MatchesNext S (First q) q z s s') (sym e) (inr (
      other_place,
      subst (λ (z : Since). MatchesNext S
          (First q) q z s s') eg a,
    ))
    | inr same ↦ subst (λ (z : Since). MatchesNext S (First q) q z s s') (sym same) a
  ]

  fails_as : (s : State) (p q : Pos) (since since_g : Since) → Counts source f resolve fresolve image framed from beside laid lists s0 start s p since since_g →
      (since_g ≡ After → (s.pos ≡ q → ⊥) ⊎ (since ≡ since_g)) → FailsBefore S (First q) q since_g s → FailsBefore S (First q) q since s
  fails_as s p q since since_g (inl e) ne a = subst (λ (z : Since). FailsBefore S (First q) q z s) (sym e) a
  fails_as s p q since since_g (inr (e, eg, apart)) ne a = elim (ne eg) as (λ _. FailsBefore S (First q) q since s) [
    | inl other_place ↦ subst (λ (z : Since). FailsBefore S (First q) q z s) (sym e) (other_place, subst (λ (z : Since). FailsBefore S (First q) q z s) eg a)
    | inr same ↦ subst (λ (z : Since). FailsBefore S (First q) q z s) (sym same) a
  ]

  differs : (s : State) (p q : Pos) (i : Item) (since since_g : Since) →
      Counts source f resolve fresolve image framed from beside laid lists s0 start s p since since_g →
      FallsTo f p q → fetched f q ≡ Here i → is_code i.kind ≡ true → since_g ≡ After → (s.pos ≡ position_of i.origin → ⊥) ⊎ (since ≡ since_g)
  differs s p q i since since_g (inl e) ft here code eg = inr e
  differs s p q i since since_g (inr (e, eg', apart)) ft here code eg = inl (λ z. apart q i ft here code (sym z))

  level_met : (m : Machine) (s : State) (since : Since) (l : CodeLine) → IsWritten s.core → (t : State) (since_g : Since) →
      AlongWords source f resolve fresolve image framed from beside laid lists s0 start t s since_g → Level f fresolve image laid t m → Lands f t.pos →
      Counts source f resolve fresolve image framed from beside laid lists s0 start s t.pos since since_g → line_at image.lines m.counter ≡ Some l →
      Met m s since l.origin
  level_met m s since l written t since_g along stands lands counts line = by_code (steps_beside f framed fresolve image laid t' m z.stands i here code) where
    z : Settled source f resolve fresolve image framed from beside laid lists s0 start lands.place s since_g m
    z = settle source f resolve fresolve image framed from beside laid lists s0 start lands.settles t s since_g m refl along stands

    t' : State
    t' = z.state

    i : Item
    i = lands.item

    code : is_code i.kind ≡ true
    code = lands.code

    here : fetched f t'.pos ≡ Here i
    here = ap (fetched f) z.at ∙ lands.stands

    q : Pos
    q = position_of i.origin

    ne : since_g ≡ After → (s.pos ≡ q → ⊥) ⊎ (since ≡ since_g)
    ne = differs s t.pos lands.place i since since_g counts (falls_to lands.settles) lands.stands code

    owed : ((s' : State) × MatchesNext S (First q) q since_g s s' × Shown S G s0 (start_beside s0) t' s') ⊎ FailsBefore S (First q) q since_g s
    owed = beside.follows s0 start t' s since_g (sync_point_of ByWords i) z.along (code_sync_point ByWords G t'.pos i here code)

    by_code : AtCode f fresolve image laid t' m i → Met m s since l.origin
    by_code (single l0 at0 o0 one) =
        let same : l.origin ≡ i.origin = ap (λ (x : CodeLine). x.origin) (one_line l l0 (sym line ∙ at0)) ∙ o0 in
        subst (λ (o : Origin). Met m s since o) (sym same) (elim owed as (λ _. Met m s since i.origin) [
          | inl a ↦
              let w = aligns_written S (First q) q since_g s a.0 a.1 written in
              let r = one_met source f resolve fresolve image framed from beside laid lists wanted s0 start same_objects t' s since_g m i here code z.along
              z.stands
              a.0 w a.1 a.2 one in
              inr (a.0, aligned_as s a.0 t.pos q since since_g counts ne a.1, r.0, r.1)
          | inr e ↦ inl (fails_as s t.pos q since since_g counts ne e)
        ])
    by_code (double l0 j at0 at_j o0 oj b exit two) =
        let same : l.origin ≡ Before q = ap (λ (x : CodeLine). x.origin) (one_line l l0 (sym line ∙ at0)) ∙ o0 in
        subst (λ (o : Origin). Met m s since o) (sym same) (elim owed as (λ _. Met m s since (Before q)) [
          | inl a ↦
              let w = aligns_written S (First q) q since_g s a.0 a.1 written in
              let r = two_met source f resolve fresolve image framed from beside laid lists wanted s0 start same_objects t' s since_g m i here code z.along
              z.stands
              a.0 w a.1 a.2 l0 j at0 o0 at_j oj b exit two in
              inr (a.0, aligned_as s a.0 t.pos q since since_g counts ne a.1, r.0, r.1)
          | inr e ↦ inl (fails_as s t.pos q since since_g counts ne e)
        ])

  second_met : (m : Machine) (s : State) (l : CodeLine) → (t u : State) (i : Item) (j : CodeLine) (n : Machine) → line_at image.lines m.counter ≡ Some j →
      j.origin ≡ i.origin → s.pos ≡ position_of i.origin → Shown S G s0 (start_beside s0) t s → Beside f t.core m → IsPointerAt f t.pos t.core →
      IsPointAt f laid.address m.counter t.pos → machine_step image m ≡ Continues n → Level f fresolve image laid u n → Lands f u.pos →
      AlongWords source f resolve fresolve image framed from beside laid lists s0 start u s (since_of (waits_at false i.origin)) →
      line_at image.lines m.counter ≡ Some l → Met m s Same l.origin
  second_met m s l t u i j n at_j oj place shown bk pointer at cont stands lands along line =
      let same : l.origin ≡ i.origin = ap (λ (x : CodeLine). x.origin) (one_line l j (sym line ∙ at_j)) ∙ oj in
      subst (λ (o : Origin). Met m s Same o) (sym same) (inr (
        s,
        inl (place, refl),
        agree_on source f resolve fresolve image framed from beside laid lists wanted s0 start same_objects m n t s bk.events shown
            (held_shown source f resolve fresolve image framed from beside laid lists wanted s0 start same_objects m t s shown bk pointer at) cont,
        λ k e. subst (λ (x : Machine). StageAt x s (since_of (waits_at false i.origin))) (one_machine n k (sym cont ∙ e))
            (level u (since_of (waits_at false i.origin)) along stands lands (inl refl)),
      ))

  -- what is owed past a stop of the function with its frame
  agree_late : (m : Machine) (s : State) → m.events ≡ s.core.events →
      HeldAt source f resolve fresolve image framed from beside laid lists wanted s0 start same_objects m s →
      ((v : RunResult) → machine_step image m ≡ Ends v → ⊥) → MachineAgrees S image lists M0 m s
  agree_late m s events held never =
      record { events = events; returns = λ v e. absurd (never v e); kept = λ v e. absurd (never v e); places = held }

  -- at code past a stop
  module _ (m : Machine) (s h : State) (i : Item) (here : fetched f h.pos ≡ Here i) (code : is_code i.kind ≡ true) (written : IsWritten s.core)
      (stands : Level f fresolve image laid h m)
      (carried : s.pos ≡ position_of i.origin → IsCarried source f resolve fresolve image framed from beside laid lists s0 start h s) where
    ic : IsCode i
    ic = as_code i code

    module _ (place : s.pos ≡ position_of i.origin) where
      c : IsCarried source f resolve fresolve image framed from beside laid lists s0 start h s
      c = carried place

      held : HeldAt source f resolve fresolve image framed from beside laid lists wanted s0 start same_objects m s
      held = held_by f framed fresolve image laid lists wanted h h.core m s c.known c.told (same_code h.core) stands.beside stands.pointer
          (at_code i here code stands.counter)

      no_return : (v : RunResult) → step G h ≡ Returned v → ⊥
      no_return v ret = from.returns h.pos i here (step_final G h i ic.code ic.number v here ic.kind ret) s place written c.stops

      -- past the position the source has stopped
      onward : (n : Machine) → machine_step image m ≡ Continues n → StageAt n s (since_of (waits_at false i.origin))
      onward n e = by_origin i.origin refl where
        by_origin : (o : Origin) → i.origin ≡ o → StageAt n s (since_of (waits_at false o))
        by_origin (Kept p) eo = dead c.stops
        by_origin (Before p) eo = elim (from.added h.pos i ic.code ic.number p here ic.kind eo) as (λ _. StageAt n s Same) [
          | inl harmless ↦ late_step source f resolve fresolve image framed from beside laid lists s0 start s h m n c stands i here ic.code ic.number ic.kind
              code (eo ∙ ap Before (sym (place ∙ ap position_of eo))) harmless e
          | inr never ↦ absurd (never s (place ∙ ap position_of eo) written c.stops)
        ]

      events : m.events ≡ s.core.events
      events = stands.beside.events ∙ c.events

      pub one_late : OneStep f fresolve image laid h m →
          MachineAgrees S image lists M0 m s × ((n : Machine) → machine_step image m ≡ Continues n → StageAt n s (since_of (waits_at false i.origin)))
      one_late (goes u x went cont k) = (agree_late m s events held (λ v e. ends_no_step v x (sym cont ∙ e)), onward)
      one_late (gives v ret ends) = absurd (no_return v ret)
      one_late (waits w a) = (agree_late m s events held (λ v e. waits_no_end v (sym a ∙ e)), λ n e. absurd (waits_no_step n (sym a ∙ e)))
      one_late (faults flt never) = (agree_late m s events held never, onward)

      -- over the branch the source's position is past
      over_quiet : (b : ℕ) → exit_of i.kind ≡ Perhaps b → (p : Pos) → p ≡ below h.pos →
          IsQuiet source f resolve fresolve image framed from beside laid lists s0 start p s
      over_quiet b exit p at q r d j down here_d on here_j code_j same =
          absurd (from.apart h.pos r i j b here exit (subst (λ (z : Pos). FallsTo f z r) at (falls_on down on)) here_j code_j (same ∙ place))

      pub two_late : (l j : CodeLine) → line_at image.lines m.counter ≡ Some l → l.origin ≡ Before (position_of i.origin) →
          line_at image.lines (m.counter + 4) ≡ Some j → j.origin ≡ i.origin → (b : ℕ) → exit_of i.kind ≡ Perhaps b → TwoSteps f fresolve image laid h m →
          MachineAgrees S image lists M0 m s × ((n : Machine) → machine_step image m ≡ Continues n → StageAt n s Same)
      two_late l j at_l ol at_j oj b exit (over u x went cont at same k) = (
        agree_late m s events held (λ v e. ends_no_step v x (sym cont ∙ e)),
        λ n e. subst (λ (y : Machine). StageAt y s Same) (one_machine x n (sym cont ∙ e)) (late u (record {
          stops = c.stops;
          full = filled_by source f resolve fresolve image framed from beside laid lists s0 start h.core u.core same c.full;
          events = same.events ∙ c.events;
          known = known_step G (block_start 0) h u c.known went;
          told = λ v y t. c.told v y (code_tells G h u i ic.code ic.number here ic.kind went v y t);
        }) k (step_lands f framed fresolve image laid h m stands i here ic.code ic.number ic.kind u went) (over_quiet b exit u.pos at)),
      )
      two_late l j at_l ol at_j oj b exit (through u y x went cont counter bk cont_x same k) = (
        agree_late m s events held (λ v e. ends_no_step v y (sym cont ∙ e)),
        λ n e. subst (λ (w : Machine). StageAt w s Same) (one_machine y n (sym cont ∙ e))
            (late_second h j x c (ap (line_at image.lines) counter ∙ at_j) (λ p eo. from.kept h.pos p i b here exit (sym oj ∙ eo)) bk stands.pointer
            (at_jump i b here exit
            (long_branch source f resolve fresolve image framed from beside laid lists s0 start h.pos i l b here exit
            (ap (line_at image.lines) (sym stands.counter) ∙ at_l) ol)
            (counter ∙ ap (λ (z : ℕ). z + 4) stands.counter)) cont_x),
      )

  late_met : (m : Machine) (s : State) (l : CodeLine) → IsWritten s.core → (h : State) →
      IsCarried source f resolve fresolve image framed from beside laid lists s0 start h s → Level f fresolve image laid h m → Lands f h.pos →
      IsQuiet source f resolve fresolve image framed from beside laid lists s0 start h.pos s → line_at image.lines m.counter ≡ Some l → Met m s Same l.origin
  late_met m s l written h carried stands lands quiet line = by_code (steps_beside f framed fresolve image laid h' m z.stands i here code) where
    z : SettledLate source f resolve fresolve image framed from beside laid lists s0 start lands.place h m
    z = settle_late source f resolve fresolve image framed from beside laid lists s0 start lands.settles h m refl stands

    h' : State
    h' = z.state

    i : Item
    i = lands.item

    code : is_code i.kind ≡ true
    code = lands.code

    here : fetched f h'.pos ≡ Here i
    here = ap (fetched f) z.at ∙ lands.stands

    q : Pos
    q = position_of i.origin

    carried' : s.pos ≡ position_of i.origin → IsCarried source f resolve fresolve image framed from beside laid lists s0 start h' s
    carried' place = record {
      stops = carried.stops;
      full = filled_by source f resolve fresolve image framed from beside laid lists s0 start h.core h'.core z.code carried.full;
      events = z.code.events ∙ carried.events;
      known = z.known carried.known;
      told = λ v x e. carried.told v x
          (z.told (λ r d down here_d on. quiet r lands.place d lands.item down here_d on lands.stands lands.code (sym place)) v x e);
    }

    -- another position comes: the source stops before it
    by_place : (o : Origin) → position_of o ≡ q →
        (s.pos ≡ q → MachineAgrees S image lists M0 m s × ((n : Machine) → machine_step image m ≡ Continues n → StageAt n s (since_of (waits_at false o)))) →
        Met m s Same o
    by_place o eq here_too = elim (cases_pos s.pos (position_of o)) as (λ _. Met m s Same o) [
      | inl e ↦ (let r = here_too (e ∙ eq) in inr (s, inl (e, refl), r.0, r.1))
      | inr ne ↦ inl (ne, inl carried.stops)
    ]

    by_code : AtCode f fresolve image laid h' m i → Met m s Same l.origin
    by_code (single l0 at0 o0 one) =
        let same : l.origin ≡ i.origin = ap (λ (x : CodeLine). x.origin) (one_line l l0 (sym line ∙ at0)) ∙ o0 in
        subst (λ (o : Origin). Met m s Same o) (sym same) (by_place i.origin refl (λ place. one_late m s h' i here code written z.stands carried' place one))
    by_code (double l0 j at0 at_j o0 oj b exit two) =
        let same : l.origin ≡ Before q = ap (λ (x : CodeLine). x.origin) (one_line l l0 (sym line ∙ at0)) ∙ o0 in
        subst (λ (o : Origin). Met m s Same o) (sym same)
        (by_place (Before q) refl (λ place. two_late m s h' i here code written z.stands carried' place l0 j at0 o0 at_j oj b exit two))

  late_second_met : (m : Machine) (s : State) (l : CodeLine) (h : State) (j : CodeLine) (n : Machine) →
      IsCarried source f resolve fresolve image framed from beside laid lists s0 start h s → line_at image.lines m.counter ≡ Some j →
      ((p : Pos) → j.origin ≡ Before p → ⊥) → Beside f h.core m → IsPointerAt f h.pos h.core → IsPointAt f laid.address m.counter h.pos →
      machine_step image m ≡ Continues n → line_at image.lines m.counter ≡ Some l → Met m s Same l.origin
  late_second_met m s l h j n carried at_j kept bk pointer at cont line =
      elim (cases_pos s.pos (position_of l.origin)) as (λ _. Met m s Same l.origin) [
        | inl e ↦ inr (
          s,
          inl (e, refl),
          agree_late m s (bk.events ∙ carried.events)
              (held_by f framed fresolve image laid lists wanted h h.core m s carried.known carried.told (same_code h.core) bk pointer at)
              (λ v x. ends_no_step v n (sym cont ∙ x)),
          λ k x. by_origin k l.origin refl,
        )
        | inr ne ↦ inl (ne, inl carried.stops)
      ] where
        by_origin : (k : Machine) (o : Origin) → l.origin ≡ o → StageAt k s (since_of (waits_at false o))
        by_origin k (Kept p) eo = dead carried.stops
        by_origin k (Before p) eo = absurd (kept p (ap (λ (x : CodeLine). x.origin) (one_line j l (sym at_j ∙ line)) ∙ eo))

  -- at each line
  pub meet : (m : Machine) (s : State) (since : Since) (l : CodeLine) → StageAt m s since → IsWritten s.core → line_at image.lines m.counter ≡ Some l →
      Met m s since l.origin
  meet m s since l (level t since_g along stands lands counts) w line = level_met m s since l w t since_g along stands lands counts line
  meet m s since l (second t u i j n at_j oj place shown bk pointer at cont stands lands along) w line =
      second_met m s l t u i j n at_j oj place shown bk pointer at cont stands lands along line
  meet m s since l (late h carried stands lands quiet) w line = late_met m s l w h carried stands lands quiet line
  meet m s since l (late_second h j n carried at_j kept bk pointer at cont) w line =
      late_second_met m s l h j n carried at_j kept bk pointer at cont line
  meet m s since l (dead stop) w line = inl (inl stop)

  written_start : IsWritten s0.core
  written_start r lt = let w = start.regs r lt in ap Rattle.std.proofs.Common.is_some w.1

  -- wherever the machine's run has come beside the source's
  pub stage_along : {m : Machine} {s : State} {since : Since} → MachineAlong S image M0 s0 m s since → StageAt m s since × IsWritten s.core
  stage_along at_start = (
    level (start_beside s0) Start begin (g_start source f resolve fresolve image framed from beside laid lists wanted s0 start same_objects) (first_lands f
        framed)
        (inl refl),
    written_start,
  )
  stage_along (after_step {m} {m'} {s} {s'} {since} l along line aligned continues) =
      let before = stage_along along in
      let p = position_of l.origin in
      let w = aligns_written S (First p) p since s s' aligned before.1 in
      elim (meet m s since l before.0 before.1 line) as (λ _. StageAt m' s' (since_of (waits_at false l.origin)) × IsWritten s'.core) [
        | inl fails ↦ absurd (aligns_not_fails S (First p) p refl since s s' aligned fails)
        | inr r ↦ (
          subst (λ (z : State). StageAt m' z (since_of (waits_at false l.origin))) (aligns_once S (First p) p refl since s r.0 s' r.1 aligned) (r.3 m'
              continues),
          w,
        )
      ]

  -- what the headline owes of the machine's alignment
  pub agrees_along : (m : Machine) (s : State) (since : Since) (l : CodeLine) → MachineAlong S image M0 s0 m s since → line_at image.lines m.counter ≡ Some l →
      ((s' : State) × AlignsWith S l since s s' × MachineAgrees S image lists M0 m s') ⊎ Rattle.sem_machine.specs.Headline.FailsBeforeLine S l since s
  agrees_along m s since l along line =
      let a = stage_along along in
      elim (meet m s since l a.0 a.1 line) as
      (λ _. ((s' : State) × AlignsWith S l since s s' × MachineAgrees S image lists M0 m s') ⊎ Rattle.sem_machine.specs.Headline.FailsBeforeLine S l since s) [
        | inl fails ↦ inr fails
        | inr r ↦ inl (r.0, r.1, r.2)
      ]

pub laid_code_meets_the_headline : (lists : VarId → (address : ℕ) → Place → Type 0) → LaidCodeMeetsTheHeadline lists
laid_code_meets_the_headline lists source f resolve fresolve image framed same_objects from beside laid wanted = record {
  area = laid.area ∙ ap area_of same_objects;
  agrees = λ s0 start m s since l along line.
      agrees_along source f resolve fresolve image framed from beside laid lists wanted s0 start same_objects m s since l along line;
  stops = λ s0 start m comes. stops_well f framed image laid (machine_start image s0) (sym laid.low) m comes;
}
