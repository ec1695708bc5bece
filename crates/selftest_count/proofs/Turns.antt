-- One step of both runs.
use Rattle.std.proofs.Common.{◌≡◌, ℕ, ◌+◌, ◌<◌, List, Option, Some, None, Bool, true, false, refl, sym, ap, ◌∙◌, subst}
use Rattle.std.specs.Prelude.{is_some}
use Rattle.rv64_instr.specs.declared.decoded.Way.{Way}
use Rattle.rv64_instr.specs.Row.{CallSite}
use Rattle.mir_func.specs.Graph.{Program}
use Rattle.mir_func.specs.declared.position.Pos.{Pos}
use Rattle.mir_func.specs.declared.position.Origin.{Origin}
use Rattle.mir_func.specs.declared.position.Origin.TheVariants.{Kept, Before}
use Rattle.mir_func.specs.declared.variable.VarId.{VarId}
use Rattle.mir_func.specs.Positions.{position_of}
use Rattle.sem_mir.specs.Align.{First, MatchesNext, Since, After, Same, waits_at, since_of}
use Rattle.sem_mir.specs.State.{State}
use Rattle.sem_interpreter.specs.StandsFor.{Concrete, StandsFor as StandsForSource}
use Rattle.dwarf_loclists.specs.declared.range.Range.{Range}
use Rattle.sem_machine.specs.Headline.{AlignsWith}
use Rattle.sem_machine.specs.Image.{Image}
use Rattle.sem_machine.specs.Machine.{Machine}
use Rattle.emit_code.specs.declared.code.EncodedInstruction.{EncodedInstruction}
use Rattle.emit_code.specs.Laid.{LaidCode}
use Rattle.sim_machine.specs.declared.ending.Stepped.TheVariants.{Went, Stopped}
use Rattle.sim_machine.specs.declared.ending.Stop.TheVariants.{Ended, Left, BadWord}
use Rattle.sim_machine.specs.declared.hart.Hart.{Hart}
use Rattle.sim_machine.specs.Running.{StepsOn, call_at, found_call}
use Rattle.sem_machine.specs.MachineStep.{Stepped, IsWell, result_at}
use Rattle.sim_machine.specs.Shown.{ShowsCode, entry_at, entry_call}
use Rattle.sim_machine.proofs.Stepping.{LineAt, line_some, line_none}
use Rattle.selftest_count.specs.declared.counts.Counts.{Counts}
use Rattle.selftest_count.specs.declared.turn.StepOutcome.TheVariants.{Went as TurnWent, Returned as TurnReturned}
use Rattle.selftest_count.specs.Apart.{MissesNext, IsApart, at_no_line, at_call, source_misses, stops_badly, GoesApart}
use Rattle.selftest_count.specs.Counts.{read_at, known_in, counted, Counted, after_step, AreCounts, returns}
use Rattle.selftest_count.specs.steps.Beside.{IsAt, IsSince, is_kept, Meets, MeetsNot, MissesNextSo, Beside, LeadsApart, Leads}

-- one more step, with what was read and known before it
abbrev pub more : Counts → (reads known : ℕ) → Counts
more n reads known = record { steps = n.steps + 1; reads = n.reads + reads; known = n.known + known }

-- past code that is kept the next alignment counts from the step after
is_since : (o : Origin) → IsSince (is_kept o) (since_of (waits_at false o))
is_since (Kept p) = refl
is_since (Before p) = λ e. not_after e where
  not_after : Same ≡ After → ⊥
  not_after e = cc

-- where both runs don't go on together
apart_at : (src : Program) (c : LaidCode) (lists : List (List Range)) (parts : List VarId) (n : Counts) (h : Hart) (k : Concrete) (moved : Bool) (image : Image)
    (m0 : Machine) (s0 : State) (limit : ℕ) (b : Beside src image lists parts m0 s0 n h k moved) → n.steps < limit →
    IsApart src image c b.machine b.state b.since → GoesApart src image c lists parts limit m0 s0
apart_at src c lists parts n h k moved image m0 s0 limit b below apart = record {
  counts = n;
  machine = b.machine;
  state = b.state;
  since = b.since;
  counted = b.counted;
  below = below;
  apart = apart;
}

pub meets_not : (src : Program) (c : LaidCode) (lists : List (List Range)) (parts : List VarId) (n : Counts) (h : Hart) (k : Concrete) (moved : Bool) →
    MeetsNot src c moved h k → LeadsApart src c lists parts n h k moved
meets_not src c lists parts n h k moved apart = λ image m0 s0 limit shows b below.
    apart_at src c lists parts n h k moved image m0 s0 limit b below (apart image b.machine b.state b.since shows b.stands b.at b.moves)

-- there is no line
pub no_entry : (src : Program) (c : LaidCode) (moved : Bool) (h : Hart) (k : Concrete) → entry_at c.entries h.counter ≡ None → MeetsNot src c moved h k
no_entry src c moved h k none = λ image m s since shows stands at moves.
    at_no_line (line_none c.framed c.entries image.lines m.counter shows.lines (ap (entry_at c.entries) stands.counter ∙ none))

-- an entry that doesn't call
pub none_there : (o : Option CallSite) → is_some o ≡ false → o ≡ None
none_there None e = refl
none_there (Some site) e = absurd cc

-- a call site
pub call_entry : (src : Program) (c : LaidCode) (moved : Bool) (h : Hart) (k : Concrete) (e : EncodedInstruction) → entry_at c.entries h.counter ≡ Some e →
    is_some (entry_call c.framed e) ≡ true → MeetsNot src c moved h k
call_entry src c moved h k e found call = λ image m s since shows stands at moves.
    at_call e (ap (entry_at c.entries) stands.counter ∙ found) call

-- the source doesn't come to the line
pub misses_entry : (src : Program) (c : LaidCode) (moved : Bool) (h : Hart) (k : Concrete) (e : EncodedInstruction) → entry_at c.entries h.counter ≡ Some e →
    MissesNextSo src moved (position_of e.origin) k → MeetsNot src c moved h k
misses_entry src c moved h k e found missed = λ image m s since shows stands at moves.
    let l = line_some c.framed c.entries image.lines m.counter e shows.lines (ap (entry_at c.entries) stands.counter ∙ found) in
    let same : position_of l.line.origin ≡ position_of e.origin = ap position_of l.is.origin in
    source_misses l.line l.stands (subst (λ (p : Pos). MissesNext src p since s) (sym same) (missed s since at moves))

module _ (src : Program) (c : LaidCode) (lists : List (List Range)) (parts : List VarId) (n n' : Counts) (h h' : Hart) (k k' : Concrete) (moved moved' : Bool)
    (e : EncodedInstruction) (reads known : ℕ) (meets : Meets src c moved h k k' e) (read : reads ≡ read_at lists h.counter)
    (knows : (s : State) → StandsForSource k' s → known ≡ known_in parts s) (counts : n' ≡ more n reads known) (kept : moved' ≡ is_kept e.origin) where
  -- where both meet
  record Met (image : Image) (m0 : Machine) (s0 : State) (b : Beside src image lists parts m0 s0 n h k moved) : Type 0 where
    line : LineAt c.framed e image.lines b.machine.counter
    no_call : call_at c b.machine.counter ≡ None
    to : State
    aligned : AlignsWith src line.line b.since b.state to
    at : IsAt k' to
    counted_so : n' ≡ counted lists parts b.machine to n

  met : (image : Image) (m0 : Machine) (s0 : State) (b : Beside src image lists parts m0 s0 n h k moved) → ShowsCode c image → Met image m0 s0 b
  met image m0 s0 b shows =
      let here : entry_at c.entries b.machine.counter ≡ Some e = ap (entry_at c.entries) b.stands.counter ∙ meets.found in
      let l = line_some c.framed c.entries image.lines b.machine.counter e shows.lines here in
      let a = meets.aligned b.state b.since b.at b.moves in
      let same : position_of l.line.origin ≡ position_of e.origin = ap position_of l.is.origin in
      let reads_there : reads ≡ read_at lists b.machine.counter = read ∙ ap (read_at lists) (sym b.stands.counter) in
      record {
        line = l;
        no_call = ap (found_call c.framed) here ∙ meets.no_call;
        to = a.0;
        aligned = subst (λ (p : Pos). MatchesNext src (First p) p b.since b.state a.0) (sym same) a.1;
        at = a.2;
        counted_so = counts ∙ ap (λ (r : ℕ). more n r known) reads_there
            ∙ ap (λ (x : ℕ). more n (read_at lists b.machine.counter) x) (knows a.0 a.2.stands);
      }

  pub goes_on : StepsOn c Went h h' → Leads src c lists parts TurnWent n n' h h' k k' moved moved'
  goes_on steps = λ image m0 s0 shows b.
      let m = met image m0 s0 b shows in
      let g = steps image b.machine shows b.stands m.no_call in
      let since : Since = since_of (waits_at false m.line.line.origin) in
      let moves : IsSince (is_kept e.origin) since = subst (λ (o : Origin). IsSince (is_kept e.origin) (since_of (waits_at false o))) (sym m.line.is.origin)
      (is_since e.origin) in
      record {
        machine = g.to;
        state = m.to;
        since = since;
        counted = subst (λ (q : Counts). Counted src image lists parts m0 s0 q g.to m.to since) (sym m.counted_so)
            (after_step m.line.line b.counted m.line.stands m.aligned g.goes);
        stands = g.stands;
        at = m.at;
        moves = subst (λ (x : Bool). IsSince x since) (sym kept) moves;
      }

  pub returns_there : (way : Way) → StepsOn c (Stopped (Ended way)) h h' → Leads src c lists parts TurnReturned n n' h h' k k' moved moved'
  returns_there way steps = λ image m0 s0 limit shows b below.
      let m = met image m0 s0 b shows in
      let r = steps image b.machine shows b.stands m.no_call in
      subst (λ (q : Counts). AreCounts src image lists parts limit m0 s0 q) (sym m.counted_so)
      (returns m.to m.line.line (result_at b.machine r.0) b.counted below m.line.stands m.aligned r.1)

  pub leaves_there : StepsOn c (Stopped Left) h h' → LeadsApart src c lists parts n h k moved
  leaves_there steps = λ image m0 s0 limit shows b below.
      let m = met image m0 s0 b shows in
      let r = steps image b.machine shows b.stands m.no_call in
      apart_at src c lists parts n h k moved image m0 s0 limit b below (stops_badly (subst (λ (x : Stepped). IsWell x → ⊥) (sym r) (λ w. w)))

  pub stops_there : (word : ℕ) → StepsOn c (Stopped (BadWord word)) h h' → LeadsApart src c lists parts n h k moved
  stops_there word steps = λ image m0 s0 limit shows b below.
      let m = met image m0 s0 b shows in
      let r = steps image b.machine shows b.stands m.no_call in
      apart_at src c lists parts n h k moved image m0 s0 limit b below (stops_badly (subst (λ (x : Stepped). IsWell x → ⊥) (sym r.0) (λ w. w)))
