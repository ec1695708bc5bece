-- How the machine stands beside the source: level with the function with its frame; at the second word of a long branch; past a slot
-- load at which that function stopped, where the source is about to stop; or past the position where the source stops.
use Rattle.std.proofs.Common.{◌≡◌, ◌⊎◌, ℕ, suc, ◌+◌, Option, Some, true, false, refl, sym, ap, ◌∙◌, subst, inl, inr}
use Rattle.rv64_instr.specs.Instruction.{Instruction}
use Rattle.rv64_instr.specs.Row.{Row, Branches, row_of}
use Rattle.rv64_instr.specs.declared.place.Place.{Place}
use Rattle.mir_func.specs.declared.debug_substitution.OperandPair.{OperandPair}
use Rattle.mir_func.specs.declared.item.Item.{Item}
use Rattle.mir_func.specs.declared.item.ItemKind.{ItemKind}
use Rattle.mir_func.specs.declared.item.ItemKind.TheVariants.{Code, Mark, Phi}
use Rattle.mir_func.specs.declared.position.Origin.{Origin}
use Rattle.mir_func.specs.declared.position.Origin.TheVariants.{Before}
use Rattle.mir_func.specs.declared.position.Pos.{Pos}
use Rattle.mir_func.specs.declared.variable.VarId.{VarId}
use Rattle.mir_func.specs.Function.{Function, FramedFunction}
use Rattle.mir_func.specs.Graph.{Here, EndOfBlock, Program, below, block_start, program_of}
use Rattle.mir_func.specs.SoundFrame.{IsFramed}
use Rattle.sem_mir.specs.Align.{is_code, waits_at, SyncPoint, ByWords, sync_point_at, Since, Same, After, since_of, First, MatchesNext}
use Rattle.sem_mir.specs.Align.{MatchedUpTo}
use Rattle.sem_mir.specs.Align.{other, FailsBefore}
use Rattle.mir_func.specs.declared.exit.Exit.TheVariants.{Perhaps}
use Rattle.mir_func.specs.Exits.{row_exit, exit_of}
use Rattle.mir_func.specs.Positions.{position_of}
use Rattle.sem_mir.specs.State.{Core, State}
use Rattle.sem_mir.specs.Step.{Went, Returned, Faulted, Waits, step}
use Rattle.sem_mir.proofs.Alignment.{went_once}
use Rattle.sem_simulation.specs.Words.{SameCode, Shown}
use Rattle.sem_simulation.proofs.Stations.{debug_sync_point, end_is_sync_point}
use Rattle.sem_machine.specs.Image.{CodeLine, Image, line_at}
use Rattle.sem_machine.specs.Machine.{Machine, machine_start}
use Rattle.sem_machine.specs.MachineStep.{Continues, machine_step}
use Rattle.sem_machine.specs.Headline.{StartsAt, MachineAgrees}
use Rattle.machine_steps_proof.specs.Beside.{Beside}
use Rattle.machine_steps_proof.specs.Laid.{fetched, HasRow, IsLaidAt}
use Rattle.machine_steps_proof.specs.Steps.{framed_run, Level, OneStep, goes, gives, waits, faults, AtCode, single, double}
use Rattle.machine_steps_proof.proofs.Lands.{Lands, Settles, now, past_item, past_end}
use Rattle.machine_steps_proof.proofs.Quiet.{past_debug, past_end as past_block, steps_beside}
use Rattle.machine_steps_proof.proofs.Sites.{step_lands}
use Rattle.machine_steps_proof.specs.Pointer.{IsPointerAt}
use Rattle.machine_steps_proof.proofs.Known.{Known, known_step}
use Rattle.machine_proof.specs.Lists.{IsPointAt}
use Rattle.machine_proof.specs.Runs.{IsHarmless, FallsTo, AssignsNothing, ComesFrom, start_beside, RunsBeside}
use Rattle.machine_proof.specs.Runs as runs
use Rattle.machine_proof.proofs.Late.{IsFilled, steps_quietly}
use Rattle.machine_proof.proofs.Telling.{Telling, code_tells, debug_tells, end_tells}

-- the way is the same
pub falls_to : {f : FramedFunction} {p q : Pos} → Settles f p q → FallsTo f p q
falls_to now = runs.here
falls_to (past_item i here plain rest) = runs.past_item i here plain (falls_to rest)
falls_to (past_end k n e rest) = runs.past_end k n e (falls_to rest)

pub falls_on : {f : FramedFunction} {p q r : Pos} → FallsTo f p q → FallsTo f q r → FallsTo f p r
falls_on runs.here b = b
falls_on (runs.past_item i here plain rest) b = runs.past_item i here plain (falls_on rest b)
falls_on (runs.past_end k n e rest) b = runs.past_end k n e (falls_on rest b)

-- a conditional branch isn't harmless
pub branch_harms : (r : Row) (n : ℕ) → row_exit r ≡ Perhaps n → IsHarmless r → ⊥
branch_harms (Branches op a b t) n e h = h
branch_harms _ n e h = cc

pub one_machine : (x y : Machine) → Continues x ≡ Continues y → x ≡ y
one_machine x y e = cc

pub record IsCode (i : Item) : Type 0 where
  pub code : Instruction
  pub number : Option ℕ
  pub kind : i.kind ≡ Code code number

pub as_code : (i : Item) → is_code i.kind ≡ true → IsCode i
as_code i e = by_kind i.kind refl e where
  by_kind : (k : ItemKind) → i.kind ≡ k → is_code k ≡ true → IsCode i
  by_kind (Code c n) q e = record { code = c; number = n; kind = q }
  by_kind (Mark v x) q e = cc
  by_kind (Phi p n) q e = cc

module _ (source : Function) (f : FramedFunction) (resolve fresolve : OperandPair → Option OperandPair) (image : Image) (framed : IsFramed f)
    (from : ComesFrom (program_of true source.blocks resolve) f) (beside : RunsBeside source f resolve fresolve) (laid : IsLaidAt f image)
    (lists : VarId → (address : ℕ) → Place → Type 0) (s0 : State) (start : StartsAt source s0) where
  abbrev pub src : Program
  src = program_of true source.blocks resolve

  abbrev pub g : Program
  g = framed_run f fresolve image laid

  abbrev pub m0 : Machine
  m0 = machine_start image s0

  abbrev pub words : Pos → Option SyncPoint
  words p = sync_point_at ByWords g p

  abbrev pub AlongWords : State → State → Since → Type 0
  AlongWords t s m = MatchedUpTo src g words First s0 (start_beside s0) t s m

  abbrev pub At : State → Machine → Type 0
  At t m = Level f fresolve image laid t m

  -- the machine's alignment counts as the function's does; or it still waits where that has moved on, which is no matter, since the next
  -- code comes from another position
  abbrev pub Counts : State → Pos → Since → Since → Type 0
  Counts s p since since_g = (since ≡ since_g) ⊎ ((since ≡ Same) × (since_g ≡ After) ×
      ((q : Pos) (j : Item) → FallsTo f p q → fetched f q ≡ Here j → is_code j.kind ≡ true → position_of j.origin ≡ s.pos → ⊥))

  -- from a place down to the next code no variable gets a value, where that code comes from where the source stands
  abbrev pub IsQuiet : Pos → State → Type 0
  IsQuiet p s = (q r : Pos) (d j : Item) → FallsTo f p q → fetched f q ≡ Here d → FallsTo f q r → fetched f r ≡ Here j → is_code j.kind ≡ true →
      position_of j.origin ≡ s.pos → AssignsNothing d.kind

  -- a state past a stop: the source, which is about to stop, has shown and tells what this state has and tells
  pub record IsCarried (h s : State) : Type 0 where
    pub stops : step src s ≡ Faulted
    pub full : IsFilled f h.core
    pub events : h.core.events ≡ s.core.events
    pub known : Known g (block_start 0) h
    pub told : Telling h s

  pub data Stage (m : Machine) (s : State) : Since → Type 0 where
    level : {since : Since} (t : State) (since_g : Since) → AlongWords t s since_g → At t m → Lands f t.pos → Counts s t.pos since since_g → Stage m s since
    second : (t u : State) (i : Item) (j : CodeLine) (n : Machine) → line_at image.lines m.counter ≡ Some j → j.origin ≡ i.origin →
        s.pos ≡ position_of i.origin → Shown src g s0 (start_beside s0) t s → Beside f t.core m → IsPointerAt f t.pos t.core →
        IsPointAt f laid.address m.counter t.pos → machine_step image m ≡ Continues n → At u n → Lands f u.pos →
        AlongWords u s (since_of (waits_at false i.origin)) → Stage m s Same
    late : (h : State) → IsCarried h s → At h m → Lands f h.pos → IsQuiet h.pos s → Stage m s Same
    late_second : (h : State) (j : CodeLine) (n : Machine) → IsCarried h s → line_at image.lines m.counter ≡ Some j →
        ((p : Pos) → j.origin ≡ Before p → ⊥) → Beside f h.core m → IsPointerAt f h.pos h.core → IsPointAt f laid.address m.counter h.pos →
        machine_step image m ≡ Continues n → Stage m s Same
    dead : step src s ≡ Faulted → Stage m s After

  -- what is owed at a line of an origin
  abbrev pub MetAt : Machine → State → Since → Origin → Type 0
  MetAt m s since o = FailsBefore src (First (position_of o)) (position_of o) since s ⊎
      ((s' : State) × MatchesNext src (First (position_of o)) (position_of o) since s s' × MachineAgrees src image lists m0 m s' ×
      ((n : Machine) → machine_step image m ≡ Continues n → Stage n s' (since_of (waits_at false o))))

  -- ---- over debug items and ends of blocks

  pub record Settled (q : Pos) (s : State) (since : Since) (m : Machine) : Type 0 where
    pub state : State
    pub along : AlongWords state s since
    pub stands : At state m
    pub at : state.pos ≡ q

  pub settle : {p q : Pos} → Settles f p q → (t s : State) (since : Since) (m : Machine) → t.pos ≡ p → AlongWords t s since → At t m → Settled q s since m
  settle now t s since m e a l = record { state = t; along = a; stands = l; at = e }
  settle (past_item i here plain rest) t s since m e a l =
      let here_t : fetched f t.pos ≡ Here i = ap (fetched f) e ∙ here in
      let k = past_debug f framed fresolve image laid t m l i here_t plain in
      settle rest k.next s since m (k.at ∙ ap below e) (other a (debug_sync_point ByWords g t.pos i here_t plain) k.went) k.level
  settle (past_end j n end rest) t s since m e a l =
      let end_t : fetched f t.pos ≡ EndOfBlock j n = ap (fetched f) e ∙ end in
      let k = past_block f framed fresolve image laid t m l j n end_t in
      settle rest k.next s since m (k.at ∙ ap (λ (p : Pos). block_start (suc p.block)) e) (other a (end_is_sync_point ByWords g t.pos j n end_t) k.went) k.level

  -- no variable gets a value on the way from one place to another
  abbrev pub GoesQuietly : (p q : Pos) → Type 0
  GoesQuietly p q = (r : Pos) (d : Item) → FallsTo f p r → fetched f r ≡ Here d → FallsTo f r q → AssignsNothing d.kind

  pub record SettledLate (q : Pos) (h : State) (m : Machine) : Type 0 where
    pub state : State
    pub stands : At state m
    pub at : state.pos ≡ q
    pub code : SameCode state.core h.core
    pub known : Known g (block_start 0) h → Known g (block_start 0) state
    pub told : GoesQuietly h.pos q → Telling state h

  -- the first of the steps, and the others
  settled_more : {q : Pos} (h u : State) (m : Machine) → SameCode u.core h.core → step g h ≡ Went u → (GoesQuietly h.pos q → Telling u h) →
      (GoesQuietly h.pos q → GoesQuietly u.pos q) → SettledLate q u m → SettledLate q h m
  settled_more h u m code went told quiet z = record {
    state = z.state;
    stands = z.stands;
    at = z.at;
    code = Rattle.sem_simulation.proofs.Turns.code_trans z.state.core u.core h.core z.code code;
    known = λ k. z.known (known_step g (block_start 0) h u k went);
    told = λ w v x e. told w v x (z.told (quiet w) v x e);
  }

  pub settle_late : {p q : Pos} → Settles f p q → (h : State) (m : Machine) → h.pos ≡ p → At h m → SettledLate q h m
  settle_late now h m e l = record {
    state = h;
    stands = l;
    at = e;
    code = Rattle.sem_simulation.proofs.Turns.same_code h.core;
    known = λ k. k;
    told = λ w v x e. e;
  }
  settle_late (past_item {q = q} i here plain rest) h m e l =
      let here_h : fetched f h.pos ≡ Here i = ap (fetched f) e ∙ here in
      let k = past_debug f framed fresolve image laid h m l i here_h plain in
      let way : FallsTo f h.pos q = subst (λ (x : Pos). FallsTo f x q) (sym e) (runs.past_item i here plain (falls_to rest)) in
      settled_more h k.next m k.code k.went
      (λ w. debug_tells g h k.next i here_h plain (w h.pos i runs.here here_h way) k.went)
      (λ w r d down. w r d (runs.past_item i here_h plain (subst (λ (x : Pos). FallsTo f x r) k.at down)))
      (settle_late rest k.next m (k.at ∙ ap below e) k.level)
  settle_late (past_end j n end rest) h m e l =
      let end_h : fetched f h.pos ≡ EndOfBlock j n = ap (fetched f) e ∙ end in
      let k = past_block f framed fresolve image laid h m l j n end_h in
      settled_more h k.next m k.code k.went
      (λ w. end_tells g h k.next j n end_h k.went)
      (λ w r d down. w r d (runs.past_end j n end_h (subst (λ (x : Pos). FallsTo f x r) k.at down)))
      (settle_late rest k.next m (k.at ∙ ap (λ (p : Pos). block_start (suc p.block)) e) k.level)

  -- ---- late

  pub filled_by : (c d : Core) → SameCode d c → IsFilled f c → IsFilled f d
  filled_by c d code h o is = subst (λ (slots : ℕ → Option ℕ). Rattle.std.proofs.Common.IsSome (slots o)) (sym code.slots) (h o is)

  -- over code that was added before the position where the source stops
  pub late_step : (s h : State) (m n : Machine) → IsCarried h s → At h m → (i : Item) → fetched f h.pos ≡ Here i → (c : Instruction) (k : Option ℕ) →
      i.kind ≡ Code c k → is_code i.kind ≡ true → i.origin ≡ Before s.pos → IsHarmless (row_of c) → machine_step image m ≡ Continues n → Stage n s Same
  late_step s h m n carried stands i here c k kind code origin harmless e = by_code (steps_beside f framed fresolve image laid h m stands i here code) where
    q : Rattle.machine_proof.proofs.Late.StepsQuietly f framed fresolve image laid h
    q = steps_quietly f framed fresolve image laid h m stands i here c k kind harmless carried.full

    quiet : (p : Pos) → p ≡ below h.pos → IsQuiet p s
    quiet p at r x d j down here_d on here_j code_j same =
        from.quiet h.pos r x s.pos i d j here origin (subst (λ (z : Pos). FallsTo f z r) at down) here_d on here_j code_j same

    stage : (u : State) (x : Machine) → step g h ≡ Went u → machine_step image m ≡ Continues x → At u x → Stage n s Same
    stage u x went cont l =
        let same = one_machine x n (sym cont ∙ e) in
        let one : q.next ≡ u = went_once g h q.next u q.went went in
        late u (record {
          stops = carried.stops;
          full = subst (λ (z : State). IsFilled f z.core) one q.slots;
          events = subst (λ (z : State). z.core.events ≡ h.core.events) one q.events ∙ carried.events;
          known = known_step g (block_start 0) h u carried.known went;
          told = λ v y t. carried.told v y (code_tells g h u i c k here kind went v y t);
        }) (subst (At u) same l) (step_lands f framed fresolve image laid h m stands i here c k kind u went)
        (quiet u.pos (ap (λ (z : State). z.pos) (sym one) ∙ q.at))

    by_one : OneStep f fresolve image laid h m → Stage n s Same
    by_one (goes u x went cont l) = stage u x went cont l
    by_one (gives v ret ends) = let bad : Went q.next ≡ Returned v = sym q.went ∙ ret in cc
    by_one (waits w a) = let bad : Went q.next ≡ Waits = sym q.went ∙ w in cc
    by_one (faults flt never) = let bad : Went q.next ≡ Faulted = sym q.went ∙ flt in cc

    by_code : AtCode f fresolve image laid h m i → Stage n s Same
    by_code (single l stands_l o one) = by_one one
    by_code (double l j stands_l stands_j o oj b exit two) = absurd (branch_harms (row_of c) b (ap exit_of (sym kind) ∙ exit) harmless)

  -- the code at a point whose first line is before its position is a conditional branch of eight bytes
  pub long_branch : (p : Pos) (i : Item) (l : CodeLine) (n : ℕ) → fetched f p ≡ Here i → exit_of i.kind ≡ Perhaps n →
      line_at image.lines (laid.address p) ≡ Some l → l.origin ≡ Before (position_of i.origin) → laid.address (below p) ≡ laid.address p + 8
  long_branch p i l n here exit stands origin = by_kind i.kind refl exit where
    not_kept : (x : CodeLine) → line_at image.lines (laid.address p) ≡ Some x → x.origin ≡ i.origin → ⊥
    not_kept x at o =
        let both : Some x ≡ Some l = sym at ∙ stands in
        let one : x ≡ l = cc in
        from.kept p (position_of i.origin) i n here exit (sym o ∙ ap (λ (z : CodeLine). z.origin) one ∙ origin)

    by_row : (r : Row) → row_exit r ≡ Perhaps n → HasRow f image laid.address p i r → laid.address (below p) ≡ laid.address p + 8
    by_row (Branches op a b t) e (inl w) = absurd (not_kept w.line w.stands w.origin)
    by_row (Branches op a b t) e (inr w) = w.next
    by_row _ e w = cc

    by_kind : (k : ItemKind) → i.kind ≡ k → exit_of k ≡ Perhaps n → laid.address (below p) ≡ laid.address p + 8
    by_kind (Code c m) q e = by_row (row_of c) e (laid.code p i c m here q)
    by_kind (Mark v x) q e = cc
    by_kind (Phi r m) q e = cc
