-- The lines that are written are those of the machine's run.
use Rattle.std.proofs.Common.{◌≡◌, ℕ, suc, ◌+◌, ◌≤◌, List, [], ◌++◌, length, Option, Some}
use Rattle.std.proofs.Common.{None, Result, Ok, Err, refl, sym, ap, ◌∙◌, subst, append_assoc, length-append, arith}
use Rattle.std.specs.Prelude.{OnOk}
use Rattle.rv64_instr.specs.declared.start.CallEvent.{CallEvent}
use Rattle.rv64_instr.specs.declared.start.Start.{Start}
use Rattle.rv64_instr.specs.Row.{CallSite}
use Rattle.mir_func.specs.declared.position.Origin.{Origin}
use Rattle.sem_mir.specs.State.{Reply, Event}
use Rattle.sem_machine.specs.Image.{CodeLine, Image}
use Rattle.sem_machine.specs.Machine.{Machine}
use Rattle.emit_code.specs.declared.code.EncodedInstruction.{EncodedInstruction}
use Rattle.emit_code.specs.Laid.{LaidCode}
use Rattle.sim_machine.specs.declared.ending.Stepped.TheVariants.{Went, Stopped}
use Rattle.sim_machine.specs.declared.ending.Stop.{Stop}
use Rattle.sim_machine.specs.declared.hart.Hart.{Hart}
use Rattle.sim_machine.specs.Kept.{StandsFor, calls_in}
use Rattle.sim_machine.specs.Machines.{StartsCode}
use Rattle.sim_machine.specs.Running.{StopsSo, call_at}
use Rattle.sim_machine.specs.Shown.{ShowsCode, entry_at}
use Rattle.sim_machine.proofs.Stepping.{line_none, line_some}
use Rattle.sim_proof.specs.Runs.{WereGiven, next_call}
use Rattle.sim_proof.proofs.Runs.{given_on, steps_are_the_machines}
use Rattle.sim_trace.specs.declared.variable.Variable.{Variable}
use Rattle.sem_machine.specs.MachineStep.{machine_step}
use Rattle.sim_trace.specs.Lines.{step_line, stop_line}
use Rattle.sim_trace.specs.Run.{line_at_code, line_before, Prints, makes_steps, stops, HasText, IsTextOfRun}
use Rattle.sim_trace.specs.Run as run
use Rattle.sim_trace.specs.steps.Printed.{line_at_entry, IsLineAdded, IsPrintedStep, Printed, IsRunPrinted, made_steps, stopped}
use Rattle.sim_trace.specs.steps.Printed as printed

-- the line of an entry is that of the image's line at its address
line_same : (c : LaidCode) (image : Image) (n : ℕ) (variables : List Variable) (s : Machine) → ShowsCode c image →
    line_at_entry n (entry_at c.entries s.counter) variables s ≡ line_before image n variables s
line_same c image n variables s shows = by_entry (entry_at c.entries s.counter) refl where
  by_entry : (o : Option EncodedInstruction) → entry_at c.entries s.counter ≡ o → line_at_entry n o variables s ≡ line_before image n variables s
  by_entry None e = ap (λ (l : Option CodeLine). line_at_code n l variables s) (sym (line_none c.framed c.entries image.lines s.counter shows.lines e))
  by_entry (Some x) e =
      let l = line_some c.framed c.entries image.lines s.counter x shows.lines e in
      ap (λ (o : Origin). step_line n o variables s) (sym l.is.origin) ∙ ap (λ (o : Option CodeLine). line_at_code n o variables s) (sym l.stands)

module _ (gives : CallEvent → Reply → Type 0) (c : LaidCode) (variables : List Variable) where
  -- a line that is appended, from a state that what is kept stands for
  line_added : (image : Image) (n : ℕ) (h : Hart) (text more : List ℕ) (s : Machine) → ShowsCode c image → StandsFor h s →
      IsLineAdded n (entry_at c.entries h.counter) variables h text more → more ≡ text ++ line_before image n variables s
  line_added image n h text more s shows stands added =
      added s stands
      ∙ ap (λ (xs : List ℕ). text ++ xs)
      (ap (λ (a : ℕ). line_at_entry n (entry_at c.entries a) variables s) (sym stands.counter) ∙ line_same c image n variables s shows)

  -- a step that stops
  stop_made : (image : Image) (n : ℕ) (stop : Stop) (h now : Hart) (text more : List ℕ) (s : Machine) → ShowsCode c image → StandsFor h s →
      IsPrintedStep gives c variables n (Stopped stop) h now text more → StopsSo stop image s
  stop_made image n stop h now text more s shows stands step = by_call (call_at c s.counter) refl where
    by_call : (o : Option CallSite) → call_at c s.counter ≡ o → StopsSo stop image s
    by_call None e = step.step image s shows stands e
    by_call (Some site) e = step.call.calls image s site shows stands e

  module _ (from : Hart) where
    record PrintsTo (image : Image) (n : ℕ) (answers rest : List Reply) (h : Hart) (text : List ℕ) (s : Machine) : Type 0 where
      to : Machine
      prints : Prints image variables s n to text
      stands : StandsFor h to
      left : to.script ≡ rest
      given : WereGiven gives 1 answers
      counted : next_call to ≡ 1 + length answers
      few : length answers ≤ n

    abbrev Lead : (n : ℕ) (h : Hart) (text : List ℕ) → List Reply → Type 0
    Lead n h text answers = (image : Image) (s : Machine) (rest : List Reply) → ShowsCode c image → StandsFor from s → s.events ≡ [] →
        s.script ≡ answers ++ rest → PrintsTo image n answers rest h text s

    start : Lead 0 from [] []
    start image s rest shows stands none script = record {
      to = s;
      prints = run.begins;
      stands = stands;
      left = script;
      given = tt;
      counted = ap (λ (events : List Event). suc (calls_in events)) none;
      few = omega arith;
    }

    further : (n : ℕ) (h now : Hart) (text more : List ℕ) (answers : List Reply) → Lead n h text answers →
        (step : IsPrintedStep gives c variables n Went h now text more) →
        Lead (suc n) now more (answers ++ (steps_are_the_machines gives c h now step.step step.call).0)
    further n h now text more answers lead step image s rest shows stands none script =
        let one = steps_are_the_machines gives c h now step.step step.call in
        let p = lead image s (one.0 ++ rest) shows stands none (script ∙ append_assoc answers one.0 rest) in
        let g = one.1 image p.to rest shows p.stands p.left in
        record {
          to = g.to;
          prints = run.goes_on p.prints g.goes (line_added image n h text more p.to shows p.stands step.line);
          stands = g.stands;
          left = g.left;
          given = given_on gives 1 answers one.0 p.given (subst (λ (k : ℕ). WereGiven gives k one.0) p.counted g.given);
          counted = omega (arith, p.counted, g.counted, length-append answers one.0);
          few = omega (arith, p.few, one.2, length-append answers one.0);
        }

    leads : {n : ℕ} {h : Hart} {text : List ℕ} → Printed gives c variables from n h text → (answers : List Reply) × Lead n h text answers
    leads printed.begins = ([], start)
    leads (printed.goes_on {n = n} {h = h} {now = now} {text = text} {more = more} before step) =
        let p = leads before in (_, further n h now text more p.0 p.1 step)

    abbrev HasAll : (limit : ℕ) (text : List ℕ) → List Reply → Type 0
    HasAll limit text answers = (image : Image) (s : Machine) (rest : List Reply) → ShowsCode c image → StandsFor from s → s.events ≡ [] →
        s.script ≡ answers ++ rest → HasText gives image variables limit answers s text

    run_text : (limit : ℕ) (text : List ℕ) → IsRunPrinted gives c variables limit from text → (answers : List Reply) × HasAll limit text answers
    run_text limit text (made_steps {h = h} {lines = lines} steps is) =
        let p = leads steps in (
          p.0,
          λ image s rest shows stands none script. (
              let q = p.1 image s rest shows stands none script in
              record { given = q.given; few = q.few; is = makes_steps q.prints is }),
        )
    run_text limit text (stopped {n = n} {h = h} {now = now} {lines = lines} {more = more} stop below steps step added) =
        let p = leads steps in (
          p.0,
          λ image s rest shows stands none script. (
              let q = p.1 image s rest shows stands none script in
              let still : StandsFor now q.to = subst (λ (k : Hart). StandsFor k q.to) (sym step.stays) q.stands in
              let line = line_added image n h lines more q.to shows q.stands step.line in
              record {
                given = q.given;
                few = omega (arith, q.few, below);
                is = stops stop below q.prints (stop_made image n stop h now lines more q.to shows q.stands step)
                    (added image q.to shows still (stop_made image n stop h now lines more q.to shows q.stands step)
                    ∙ ap (λ (xs : List ℕ). xs ++ stop_line (machine_step image q.to) q.to) line);
              }),
        )

-- the text of a run, whose start what was kept at first stands for
pub text_of_run : (gives : CallEvent → Reply → Type 0) (c : LaidCode) (start : Start) (variables : List Variable) (limit : ℕ) (text : List ℕ) (from : Hart) →
    ((s : Machine) → StartsCode c start s → StandsFor from s) → IsRunPrinted gives c variables limit from text →
    IsTextOfRun gives c start variables limit text
text_of_run gives c begin variables limit text from stands made =
    let p = run_text gives c variables from limit text made in
    record { answers = p.0; has = λ image s rest shows starts script. p.1 image s rest shows (stands s starts) starts.events script }

-- what holds where a call gave no error
pub on_ok : {A E : Type 0} (r : Result A E) (P Q : Type 0) → OnOk r P → (P → Q) → OnOk r Q
on_ok (Ok x) P Q h f = f h
on_ok (Err e) P Q h f = tt
