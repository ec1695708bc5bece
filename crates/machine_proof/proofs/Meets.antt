-- At each line that the machine comes to: the source comes to the line's origin and both agree, or it stops before it; and the machine's
-- next state stands beside the source again.
use Rattle.std.proofs.Common.{◌≡◌, ◌⊎◌, ℕ, ◌+◌, List, All, Option, Some, true, false, is_some, refl, sym, ap, ◌∙◌, subst, inl, inr}
use Rattle.std.proofs.lemmas.List.Elements.{All-weaker}
use Rattle.rv64_instr.specs.declared.place.Place.{Place}
use Rattle.rv64_instr.specs.Row.{way_leads_back}
use Rattle.mir_func.specs.declared.debug_substitution.OperandPair.{OperandPair}
use Rattle.mir_func.specs.declared.exit.Exit.TheVariants.{Perhaps}
use Rattle.mir_func.specs.declared.item.Item.{Item}
use Rattle.mir_func.specs.declared.position.Origin.{Origin}
use Rattle.mir_func.specs.declared.position.Origin.TheVariants.{Kept, Before}
use Rattle.mir_func.specs.declared.position.Pos.{Pos}
use Rattle.mir_func.specs.declared.variable.VarId.{VarId}
use Rattle.mir_func.specs.Exits.{exit_of}
use Rattle.mir_func.specs.Function.{Function, FramedFunction}
use Rattle.mir_func.specs.Graph.{Here, Program, below, block_start, program_of, framed_program}
use Rattle.mir_func.specs.SoundFrame.{IsFramed}
use Rattle.sem_mir.specs.Align.{is_code, waits_at, ByItems, ByWords, sync_point_of, sync_point_at, Since, Same, After, since_of, First}
use Rattle.sem_mir.specs.Align.{MatchesNext}
use Rattle.sem_mir.specs.Align.{met}
use Rattle.sem_mir.specs.State.{State, RunResult}
use Rattle.sem_mir.specs.Step.{Went, Returned, Faulted, read, step}
use Rattle.sem_mir.proofs.Alignment.{aligns_at}
use Rattle.sem_simulation.specs.Words.{Shown}
use Rattle.sem_simulation.proofs.Stations.{code_sync_point}
use Rattle.sem_machine.specs.Image.{CodeLine, Image, line_at}
use Rattle.sem_machine.specs.Machine.{Machine, register, machine_start}
use Rattle.sem_machine.specs.MachineStep.{Continues, Ends, Awaits, machine_step}
use Rattle.sem_machine.specs.Headline.{StartsAt, KEPT, MachineAgrees}
use Rattle.machine_steps_proof.specs.Laid.{fetched, IsLaidAt}
use Rattle.machine_steps_proof.specs.Steps.{framed_run, Level, OneStep, goes, gives, waits, faults, TwoSteps, over, through}
use Rattle.machine_steps_proof.proofs.Lands.{Lands}
use Rattle.machine_steps_proof.proofs.Sites.{step_lands}
use Rattle.machine_proof.specs.Runs.{FallsTo, ComesFrom, start_beside, RunsBeside}
use Rattle.machine_proof.proofs.Sources.{IsWritten, returns_alike, faults_alike, along_run}
use Rattle.machine_proof.proofs.Late.{filled, level_filled, is_filled}
use Rattle.machine_proof.proofs.Stages.{one_machine, IsCode, as_code, AlongWords, IsCarried, Stage, level, second, dead, MetAt, late_step, long_branch}
use Rattle.machine_proof.proofs.Telling.{known_along, known_filled, Held, held_by}
use Rattle.machine_proof.specs.Lists.{GiveSitting, IsPointAt, at_code, at_jump}
use Rattle.machine_steps_proof.proofs.Known.{Known, known_start}
use Rattle.machine_steps_proof.specs.Beside.{Beside}
use Rattle.machine_steps_proof.specs.Pointer.{IsPointerAt}
use Rattle.machine_steps_proof.proofs.Quiet.{starts_beside}
use Rattle.mir_func.specs.declared.object.Object.{Object}
use Rattle.mir_func.specs.Positions.{position_of}
use Rattle.sem_mir.specs.InitialState.{IsInitialState, first_of}

pub gives_no_step : (v : RunResult) (n : Machine) → Ends v ≡ Continues n → ⊥
gives_no_step v n e = cc

pub ends_no_step : (v : RunResult) (n : Machine) → Continues n ≡ Ends v → ⊥
ends_no_step v n e = cc

pub waits_no_step : (n : Machine) → Awaits ≡ Continues n → ⊥
waits_no_step n e = cc

pub waits_no_end : (v : RunResult) → Awaits ≡ Ends v → ⊥
waits_no_end v e = cc

one_result : (v w : RunResult) → Ends v ≡ Ends w → v ≡ w
one_result v w e = cc

module _ (source : Function) (f : FramedFunction) (resolve fresolve : OperandPair → Option OperandPair) (image : Image) (framed : IsFramed f)
    (from : ComesFrom (program_of true source.blocks resolve) f) (beside : RunsBeside source f resolve fresolve) (laid : IsLaidAt f image)
    (lists : VarId → (address : ℕ) → Place → Type 0)
    (wanted : GiveSitting (framed_program f.blocks fresolve) (IsPointAt f laid.address) lists) (s0 : State) (start : StartsAt source s0)
    (same_objects : f.objects ≡ source.objects) where
  abbrev pub S : Program
  S = program_of true source.blocks resolve

  abbrev pub G : Program
  G = framed_run f fresolve image laid

  abbrev pub M0 : Machine
  M0 = machine_start image s0

  abbrev pub StageAt : Machine → State → Since → Type 0
  StageAt m s since = Stage source f resolve fresolve image framed from beside laid lists s0 start m s since

  abbrev pub Met : Machine → State → Since → Origin → Type 0
  Met m s since o = MetAt source f resolve fresolve image framed from beside laid lists s0 start m s since o

  abbrev pub ShownAt : State → State → Type 0
  ShownAt t s = Shown S G s0 (start_beside s0) t s

  pub g_start : Level f fresolve image laid (start_beside s0) M0
  g_start = starts_beside f framed fresolve image laid (first_of source.blocks) s0
      (subst (λ (os : List Object). IsInitialState os (first_of source.blocks) s0) (sym same_objects) start)

  -- each place that a list gives at the machine's counter holds the value of its part's newest assignment
  abbrev pub HeldAt : Machine → State → Type 0
  HeldAt m s = Held f framed fresolve image laid lists wanted m s

  -- what is known at the start
  pub known_first : Known G (block_start 0) (start_beside s0)
  known_first = known_start G (start_beside s0) (λ r lt. (let w = start.regs r lt in ap is_some w.1)) g_start.range

  -- where the function with its frame is shown, what it told when it was there first is known, and the source's
  pub held_shown : (m : Machine) (t s : State) → ShownAt t s → Beside f t.core m → IsPointerAt f t.pos t.core → IsPointAt f laid.address m.counter t.pos →
      HeldAt m s
  held_shown m t s shown bk pointer at =
      held_by f framed fresolve image laid lists wanted shown.first t.core m s
      (known_along S G (sync_point_at ByItems G) First s0 (start_beside s0) shown.along known_first)
      shown.agrees.told shown.code bk (subst (λ (p : Pos). IsPointerAt f p t.core) (sym shown.pos) pointer)
      (subst (λ (p : Pos). IsPointAt f laid.address m.counter p) (sym shown.pos) at)

  -- what is owed beside a core of the function with its frame
  pub agree : (m : Machine) (t s : State) → m.events ≡ t.core.events → ShownAt t s → HeldAt m s →
      ((result : RunResult) → machine_step image m ≡ Ends result → step S s ≡ Returned result) →
      ((result : RunResult) → machine_step image m ≡ Ends result → way_leads_back result.way ≡ true → All (λ r. register m r ≡ register M0 r) KEPT) →
      MachineAgrees S image lists M0 m s
  agree m t s events shown held returns kept =
      record { events = events ∙ shown.code.events ∙ shown.agrees.events; returns = returns; kept = kept; places = held }

  pub agree_on : (m k : Machine) (t s : State) → m.events ≡ t.core.events → ShownAt t s → HeldAt m s → machine_step image m ≡ Continues k →
      MachineAgrees S image lists M0 m s
  agree_on m k t s events shown held cont = agree m t s events shown held (λ v e. absurd (ends_no_step v k (sym cont
      ∙ e))) (λ v e. absurd (ends_no_step v k (sym cont ∙ e)))

  -- at code at which the function with its frame stands, aligned with the source
  module _ (t s : State) (since : Since) (m : Machine) (i : Item) (here : fetched f t.pos ≡ Here i) (code : is_code i.kind ≡ true)
      (along : AlongWords source f resolve fresolve image framed from beside laid lists s0 start t s since) (stands : Level f fresolve image laid t m)
      (s' : State) (written : IsWritten s'.core) (aligned : MatchesNext S (First (position_of i.origin)) (position_of i.origin) since s s')
      (shown : ShownAt t s')
    where
      ic : IsCode i
      ic = as_code i code

      held : HeldAt m s'
      held = held_shown m t s' shown stands.beside stands.pointer (at_code i here code stands.counter)

      first_stops : step G t ≡ Faulted → step S s' ≡ Faulted
      first_stops e = shown.agrees.faults (faults_alike G shown.first t ic.code ic.number i ic.kind here shown.pos shown.code e)

      first_returns : (v : RunResult) → step G t ≡ Returned v → step S s' ≡ Returned v
      first_returns v e = shown.agrees.returns v (returns_alike G shown.first t ic.code ic.number i ic.kind here shown.pos shown.code v e)

      sync_point : sync_point_at ByWords G t.pos ≡ Some (sync_point_of ByWords i)
      sync_point = code_sync_point ByWords G t.pos i here code

      along_next : (u : State) → step G t ≡ Went u →
          AlongWords source f resolve fresolve image framed from beside laid lists s0 start u s' (since_of (waits_at false i.origin))
      along_next u went = met (sync_point_of ByWords i) along sync_point aligned went

      lands : (u : State) → step G t ≡ Went u → Lands f u.pos
      lands u went = step_lands f framed fresolve image laid t m stands i here ic.code ic.number ic.kind u went

      kept_there : (v : RunResult) → step G t ≡ Returned v → way_leads_back v.way ≡ true → All (λ r. register m r ≡ register M0 r) KEPT
      kept_there v ret leads =
          let r = along_run S G (sync_point_at ByWords G) First s0 (start_beside s0) along in
          All-weaker (λ (r : ℕ). read t.core r ≡ read s0.core r) (λ (r : ℕ). register m r ≡ register M0 r)
          (λ r e. stands.beside.regs r ∙ e ∙ sym (g_start.beside.regs r)) KEPT (beside.keeps s0 start r.0 t v r.1 ret leads)

      -- it stopped: the source is about to, and the machine goes on
      goes_late : (n : Machine) → step G t ≡ Faulted → machine_step image m ≡ Continues n → StageAt n s' (since_of (waits_at false i.origin))
      goes_late n flt e = by_origin i.origin refl where
        place : s'.pos ≡ position_of i.origin
        place = aligns_at S (First (position_of i.origin)) (position_of i.origin) since s s' aligned

        carried : IsCarried source f resolve fresolve image framed from beside laid lists s0 start (record {
          pos = t.pos;
          core = filled f t.core shown.first.core m;
        }) s'
        carried = record {
          stops = first_stops flt;
          full = is_filled f framed fresolve image laid t.core shown.first.core m;
          events = shown.code.events ∙ shown.agrees.events;
          known = known_filled f framed fresolve image laid shown.first t m
              (known_along S G (sync_point_at ByItems G) First s0 (start_beside s0) shown.along known_first) shown.pos shown.code stands;
          told = shown.agrees.told;
        }

        by_origin : (o : Origin) → i.origin ≡ o → StageAt n s' (since_of (waits_at false o))
        by_origin (Kept q) eo = dead (first_stops flt)
        by_origin (Before q) eo = elim (from.added t.pos i ic.code ic.number q here ic.kind eo) as (λ _. StageAt n s' Same) [
          | inl harmless ↦ late_step source f resolve fresolve image framed from beside laid lists s0 start s' (record {
            pos = t.pos;
            core = filled f t.core shown.first.core m;
          }) m n carried
              (level_filled f framed fresolve image laid t shown.first.core m stands
              (known_along S G (sync_point_at ByItems G) First s0 (start_beside s0) shown.along known_first).range)
              i here ic.code ic.number ic.kind code (eo ∙ ap Before (sym (place ∙ ap position_of eo))) harmless e
          | inr never ↦ absurd (never s' (place ∙ ap position_of eo) written (first_stops flt))
        ]

      pub one_met : OneStep f fresolve image laid t m →
          MachineAgrees S image lists M0 m s' × ((n : Machine) → machine_step image m ≡ Continues n → StageAt n s' (since_of (waits_at false i.origin)))
      one_met (goes u x went cont l) = (
        agree_on m x t s' stands.beside.events shown held cont,
        λ n e. (let same = one_machine x n (sym cont ∙ e) in
            level u (since_of (waits_at false i.origin)) (along_next u went) (subst (Level f fresolve image laid u) same l) (lands u went) (inl refl)),
      )
      one_met (gives v ret ends) = (
        agree m t s' stands.beside.events shown held (λ w e. first_returns v ret ∙ ap Returned (one_result v w (sym ends ∙ e)))
            (λ w e leads. kept_there v ret (ap (λ (z : RunResult). way_leads_back z.way) (one_result v w (sym ends ∙ e)) ∙ leads)),
        λ n e. absurd (gives_no_step v n (sym ends ∙ e)),
      )
      one_met (waits w a) = (
        agree m t s' stands.beside.events shown held (λ v e. absurd (waits_no_end v (sym a ∙ e))) (λ v e. absurd (waits_no_end v (sym a ∙ e))),
        λ n e. absurd (waits_no_step n (sym a ∙ e)),
      )
      one_met (faults flt never) = (
        agree m t s' stands.beside.events shown held (λ v e. absurd (never v e)) (λ v e. absurd (never v e)),
        λ n e. goes_late n flt e,
      )

      apart_below : (b : ℕ) → exit_of i.kind ≡ Perhaps b → (p : Pos) → p ≡ below t.pos → (q : Pos) (j : Item) → FallsTo f p q → fetched f q ≡ Here j →
          is_code j.kind ≡ true → position_of j.origin ≡ s'.pos → ⊥
      apart_below b exit p pe q j ft fj cj e =
          from.apart t.pos q i j b here exit (subst (λ (x : Pos). FallsTo f x q) pe ft) fj cj
          (e ∙ aligns_at S (First (position_of i.origin)) (position_of i.origin) since s s' aligned)

      pub two_met : (l j : CodeLine) → line_at image.lines m.counter ≡ Some l → l.origin ≡ Before (position_of i.origin) →
          line_at image.lines (m.counter + 4) ≡ Some j → j.origin ≡ i.origin → (b : ℕ) → exit_of i.kind ≡ Perhaps b → TwoSteps f fresolve image laid t m →
          MachineAgrees S image lists M0 m s' × ((n : Machine) → machine_step image m ≡ Continues n → StageAt n s' Same)
      two_met l j at_l ol at_j oj b exit (over u x went cont place same on) = (
        agree_on m x t s' stands.beside.events shown held cont,
        λ n e. (let one = one_machine x n (sym cont ∙ e) in
            subst (λ (z : Machine). StageAt z s' Same) one (by_origin i.origin refl)),
      ) where
        counts : (o : Origin) → i.origin ≡ o → (Same ≡ since_of (waits_at false o)) ⊎ ((Same ≡ Same) × (since_of (waits_at false o) ≡ After) ×
            ((q : Pos) (j : Item) → FallsTo f u.pos q → fetched f q ≡ Here j → is_code j.kind ≡ true → position_of j.origin ≡ s'.pos → ⊥))
        counts (Before q) eo = inl refl
        counts (Kept q) eo = inr (refl, refl, apart_below b exit u.pos place)

        by_origin : (o : Origin) → i.origin ≡ o → StageAt x s' Same
        by_origin o eo = level u (since_of (waits_at false i.origin)) (along_next u went) on (lands u went) (counts i.origin refl)
      two_met l j at_l ol at_j oj b exit (through u k x went cont counter bk cont_x same on) = (
        agree_on m k t s' stands.beside.events shown held cont,
        λ n e. (let one = one_machine k n (sym cont ∙ e) in
            subst (λ (z : Machine). StageAt z s' Same) one
            (second t u i j x (ap (line_at image.lines) counter
            ∙ at_j) oj (aligns_at S (First (position_of i.origin)) (position_of i.origin) since s s' aligned) shown bk stands.pointer
            (at_jump i b here exit
            (long_branch source f resolve fresolve image framed from beside laid lists s0 start t.pos i l b here exit
            (ap (line_at image.lines) (sym stands.counter) ∙ at_l) ol)
            (counter ∙ ap (λ (z : ℕ). z + 4) stands.counter))
            cont_x on (lands u went) (along_next u went))),
      )
