-- A run of machine code and its source's go together where the headline holds.
use Rattle.std.proofs.Common.{◌≡◌, ℕ, suc, ◌+◌, ◌≤◌, List, [], ◌∷◌, All, Option, Some, None, Bool, true, false, cond, nat_eq, refl, ap, ◌∙◌}
use Rattle.std.proofs.Common.{subst, inl, inr, arith, lit≤}
use Rattle.std.proofs.lemmas.List.Elements.{All-head, All-tail}
use Rattle.std.specs.Prelude.{IsSome}
use Rattle.rv64_instr.specs.Row.{CallSite}
use Rattle.rv64_instr.specs.declared.place.Place.{Place}
use Rattle.mir_func.specs.declared.debug_substitution.OperandPair.{OperandPair}
use Rattle.mir_func.specs.declared.position.Pos.{Pos}
use Rattle.mir_func.specs.declared.variable.VarId.{VarId}
use Rattle.mir_func.specs.Function.{Function}
use Rattle.mir_func.specs.Graph.{Program, program_of}
use Rattle.mir_func.specs.Positions.{position_of}
use Rattle.sem_mir.specs.Align.{Arrives, here, onward, First, MatchesNext, Fails, fails_here, fails_on, FailsBefore, Since, Start, Same, After}
use Rattle.sem_mir.specs.State.{State}
use Rattle.sem_mir.specs.Step.{Next, Went, Faulted, after, step, run}
use Rattle.sem_mir.proofs.Alignment.{went_once, arrives_in}
use Rattle.sem_mir.proofs.Runs.{run_splits, run_steps}
use Rattle.dwarf_loclists.specs.declared.range.Range.{Range}
use Rattle.sem_machine.specs.Headline.{Headline, StartsAt, MachineAlong, at_start, after_step}
use Rattle.sem_machine.specs.Image.{CodeLine, Image}
use Rattle.sem_machine.specs.Machine.{Machine, machine_start}
use Rattle.sem_machine.specs.MachineStep.{machine_step, does_at, Comes, there, steps, IsWell, Leaves}
use Rattle.emit_code.specs.declared.code.EncodedInstruction.{EncodedInstruction}
use Rattle.emit_code.specs.Laid.{LaidCode}
use Rattle.selftest_count.specs.sim_machine.Shown.{entry_at, entry_call}
use Rattle.selftest_count.specs.declared.counts.Counts.{Counts}
use Rattle.selftest_count.specs.Apart.{MAX_SOURCE_STEPS, Misses, makes_all, halts, goes_on, MissesNext}
use Rattle.selftest_count.specs.Apart.{IsApart, at_no_line, at_call, source_misses, stops_badly}
use Rattle.selftest_count.specs.Counts.{Counted}
use Rattle.selftest_count.specs.Counts as counts
use Rattle.selftest_count.specs.Runs.{BeginsSource}
use Rattle.selftest_proof.specs.Together.{HasNoFault, HasNoCall, RunsLongFrom, RunsGoTogether}
use Rattle.selftest_proof.proofs.Start.{starts_at, begins_run}

-- what holds of all entries, does of the one at an address
entry_holds : (P : EncodedInstruction → Type 0) (es : List EncodedInstruction) (a : ℕ) (e : EncodedInstruction) → All P es → entry_at es a ≡ Some e → P e
entry_holds P [] a e h f = absurd cc
entry_holds P (x ∷ es) a e h f = by_test (nat_eq x.address a) f (λ later. entry_holds P es a e (All-tail P x es h) later) where
  by_test : (t : Bool) → cond t (Some x) (entry_at es a) ≡ Some e → (entry_at es a ≡ Some e → P e) → P e
  by_test true g later = let same : x ≡ e = cc in subst P same (All-head P x es h)
  by_test false g later = later g

-- ---- the source's run

module _ (src : Program) where
  -- it comes from one state to another in some steps
  abbrev Reaches : State → State → Type 0
  Reaches s t = (n : ℕ) × (run src n s ≡ Went t)

  further : (n k : ℕ) (s t : State) (x : Next) → run src n s ≡ Went t → run src k t ≡ x → run src (n + k) s ≡ x
  further n k s t x e f = run_splits src n k s ∙ ap (λ (y : Next). after y (run src k)) e ∙ f

  reaches_on : (s t u : State) → Reaches s t → Reaches t u → Reaches s u
  reaches_on s t u a b = (a.0 + b.0, further a.0 b.0 s t (Went u) a.1 b.1)

  reaches_step : (s t u : State) → step src s ≡ Went u → Reaches u t → Reaches s t
  reaches_step s t u go a = (suc a.0, run_steps src a.0 s u go ∙ a.1)

  aligns_reaches : (p : Pos) (since : Since) (s t : State) → MatchesNext src (First p) p since s t → Reaches s t
  aligns_reaches p Start s t a = arrives_in src (First p) p a
  aligns_reaches p Same s t (inl a) = (0, ap Went a.1)
  aligns_reaches p Same s t (inr (ne, (u, go, rest))) = reaches_step s t u go (arrives_in src (First p) p rest)
  aligns_reaches p After s t (u, go, rest) = reaches_step s t u go (arrives_in src (First p) p rest)

  -- where it stops on a frame fault, a run ends with one
  fails_faults : (A : Pos → Type 0) {s : State} → Fails src A s → (n : ℕ) × (run src n s ≡ Faulted)
  fails_faults A (fails_here {s = s} ne e) = (1, ap (λ (x : Next). after x (run src 0)) e)
  fails_faults A (fails_on {s = s} {u = u} ne go rest) = let k = fails_faults A rest in (suc k.0, run_steps src k.0 s u go ∙ k.1)

  before_faults : (p : Pos) (since : Since) (s : State) → FailsBefore src (First p) p since s → (n : ℕ) × (run src n s ≡ Faulted)
  before_faults p Start s f = fails_faults (First p) f
  before_faults p Same s (ne, inl e) = (1, ap (λ (x : Next). after x (run src 0)) e)
  before_faults p Same s (ne, inr (u, go, f)) = let k = fails_faults (First p) f in (suc k.0, run_steps src k.0 s u go ∙ k.1)
  before_faults p After s (inl e) = (1, ap (λ (x : Next). after x (run src 0)) e)
  before_faults p After s (inr (u, go, f)) = let k = fails_faults (First p) f in (suc k.0, run_steps src k.0 s u go ∙ k.1)

  -- it makes so many steps
  abbrev Makes : ℕ → State → Type 0
  Makes n s = (u : State) × (run src n s ≡ Went u)

  -- what misses a position where it arrives makes all its steps before
  misses_long : (p : Pos) {n : ℕ} {s : State} (t : State) → Misses src p n s → Arrives src (First p) p s t → Makes n s
  misses_long p t (makes_all {s = s}) a = (s, refl)
  misses_long p t (halts ne h) (here e) = absurd (ne e)
  misses_long p t (halts ne h) (onward {u = u} free go rest) = absurd (h u go)
  misses_long p t (goes_on ne go m) (here e) = absurd (ne e)
  misses_long p t (goes_on {n = n} {s = s} {u = u} ne go m) (onward {u = v} free to rest) =
      let same : v ≡ u = went_once src s v u to go in
      let k = misses_long p t m (subst (λ (x : State). Arrives src (First p) p x t) same rest) in
      (k.0, run_steps src n s u go ∙ k.1)

  -- so many steps at least
  abbrev MakesMany : State → Type 0
  MakesMany s = (n : ℕ) × (MAX_SOURCE_STEPS ≤ n) × Makes n s

  many : (p : Pos) (n : ℕ) (s t : State) → MAX_SOURCE_STEPS ≤ n → Misses src p n s → Arrives src (First p) p s t → MakesMany s
  many p n s t enough m a = (n, enough, misses_long p t m a)

  many_later : (p : Pos) (n : ℕ) (s u t : State) → MAX_SOURCE_STEPS ≤ n → step src s ≡ Went u → Misses src p n u → Arrives src (First p) p u t → MakesMany s
  many_later p n s u t enough go m a =
      let k = misses_long p t m a in (suc n, omega (arith, enough), (k.0, run_steps src n s u go ∙ k.1))

  enough_there : MAX_SOURCE_STEPS ≤ MAX_SOURCE_STEPS
  enough_there = lit≤ tt

  misses_next_long : (p : Pos) (since : Since) (s t : State) → MissesNext src p since s → MatchesNext src (First p) p since s t → MakesMany s
  misses_next_long p Start s t m a = many p MAX_SOURCE_STEPS s t enough_there m a
  misses_next_long p Same s t m (inl a) = many p MAX_SOURCE_STEPS s s enough_there m (here a.0)
  misses_next_long p Same s t m (inr (ne, (u, go, rest))) = many p MAX_SOURCE_STEPS s t enough_there m (onward ne go rest)
  misses_next_long p After s t (inl h) (u, go, rest) = absurd (h u go)
  misses_next_long p After s t (inr (v, to, m)) (u, go, rest) =
      let same : u ≡ v = went_once src s u v go to in
      many_later p MAX_SOURCE_STEPS s v t enough_there to m (subst (λ (x : State). Arrives src (First p) p x t) same rest)

-- ---- both runs

module _ (gives : VarId → (address : ℕ) → Place → Type 0) (source : Function) (resolve : OperandPair → Option OperandPair) (image : Image) (c : LaidCode)
    (lists : List (List Range)) (parts : List VarId) (headline : Headline source resolve image gives) (no_fault : HasNoFault source resolve)
    (no_call : HasNoCall c) (s0 : State) (begins : BeginsSource source s0) where
  abbrev the_source : Program
  the_source = program_of true source.blocks resolve

  abbrev m0 : Machine
  m0 = machine_start image s0

  start : StartsAt source s0
  start = starts_at source s0 begins

  -- where both have come to
  record HaveCome (m : Machine) (s : State) (since : Since) : Type 0 where
    along : MachineAlong the_source image m0 s0 m s since
    reached : Reaches the_source s0 s
    comes : Comes image m0 m

  have_come : {n : Counts} {m : Machine} {s : State} {since : Since} → Counted the_source image lists parts m0 s0 n m s since → HaveCome m s since
  have_come counts.at_start = record { along = at_start; reached = (0, refl); comes = there }
  have_come (counts.after_step {n = n} {m = m} {m' = m'} {s = s} {s' = s'} {since = since} l before stands aligned goes) =
      let b = have_come before in
      record {
        along = after_step l b.along stands aligned goes;
        reached = reaches_on the_source s0 s s' b.reached (aligns_reaches the_source (position_of l.origin) since s s' aligned);
        comes = steps b.comes goes;
      }

  long_from : (s : State) → Reaches the_source s0 s → MakesMany the_source s → RunsLongFrom source resolve s0
  long_from s reached many =
      let n = reached.0 in let k = many.0 in let enough = many.1 in
      record {
        steps = n + k;
        many = omega (arith, enough);
        to = many.2.0;
        goes = further the_source n k s0 s (Went many.2.0) reached.1 many.2.1;
      }

  no_fault_from : (s : State) → Reaches the_source s0 s → (k : ℕ) → run the_source k s ≡ Faulted → ⊥
  no_fault_from s reached k e = no_fault s0 begins (reached.0 + k) (further the_source reached.0 k s0 s Faulted reached.1 e)

  apart_long : (m : Machine) (s : State) (since : Since) → HaveCome m s since → IsApart the_source image c m s since → RunsLongFrom source resolve s0
  apart_long m s since h (at_no_line e) =
      let leaves : machine_step image m ≡ Leaves = ap (λ (o : Option CodeLine). does_at image o m) e in
      absurd (subst IsWell leaves (headline.stops s0 start m h.comes))
  apart_long m s since h (at_call e found call) =
      let none = entry_holds (λ (x : EncodedInstruction). entry_call c.framed x ≡ None) c.entries m.counter e no_call found in
      (let some : IsSome {T = CallSite} None = subst (λ (o : Option CallSite). IsSome o) none call in absurd cc)
  apart_long m s since h (stops_badly bad) = absurd (bad (headline.stops s0 start m h.comes))
  apart_long m s since h (source_misses l stands missed) =
      let p = position_of l.origin in
      elim (headline.agrees s0 start m s since l h.along stands) as (λ _. RunsLongFrom source resolve s0) [
        | inl agrees ↦ long_from s h.reached (misses_next_long the_source p since s agrees.0 missed agrees.1)
        | inr fails ↦ (let k = before_faults the_source p since s fails in absurd (no_fault_from s h.reached k.0 k.1))
      ]

pub runs_go_together : (gives : VarId → (address : ℕ) → Place → Type 0) → RunsGoTogether gives
runs_go_together gives source resolve image c lists parts limit headline shows no_fault no_call apart s begins =
    let g = apart image (machine_start image s) s shows (begins_run source s c image begins shows) begins in
    apart_long gives source resolve image c lists parts headline no_fault no_call s begins g.machine g.state g.since
    (have_come gives source resolve image c lists parts headline no_fault no_call s begins g.counted) g.apart
