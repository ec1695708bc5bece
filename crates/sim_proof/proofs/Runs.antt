-- A run of the simulator is one of the machine.
use Rattle.std.proofs.Common.{◌≡◌, ℕ, suc, ◌+◌, ◌%◌, ◌^◌, ◌≤◌, List, [], ◌∷◌, ◌++◌, length}
use Rattle.std.proofs.Common.{Option, Some, None, refl, sym, ap, ◌∙◌, subst, append_assoc, length-append, arith}
use Rattle.std.specs.List.{All}
use Rattle.std.proofs.lemmas.List.Elements.{All-nil, All-cons}
use Rattle.rv64_instr.specs.declared.start.CallEvent.{CallEvent}
use Rattle.rv64_instr.specs.Row.{CallSite, row_of}
use Rattle.sem_mir.specs.State.{Reply}
use Rattle.sem_machine.specs.Image.{CodeLine, Image, word_at}
use Rattle.sem_machine.specs.Machine.{Machine}
use Rattle.sem_machine.specs.MachineStep.{Continues, Leaves, there, steps, machine_step, does_at, does_line, left_by}
use Rattle.emit_code.specs.declared.code.EncodedInstruction.{EncodedInstruction}
use Rattle.emit_code.specs.Laid.{LaidCode}
use Rattle.sim_machine.specs.declared.ending.Stepped.TheVariants.{Went}
use Rattle.sim_machine.specs.declared.hart.Hart.{Hart}
use Rattle.sim_machine.specs.Calls.{event_of}
use Rattle.sim_machine.specs.Kept.{calls_in}
use Rattle.sim_machine.specs.Running.{StepsOn, CallsOn, call_at, found_call}
use Rattle.sim_machine.specs.Shown.{ShowsCode, entry_at, entry_call}
use Rattle.sim_machine.proofs.Stepping.{left_step, line_some, call_step}
use Rattle.sim_proof.specs.Runs.{Runs, begins, goes_on, WereGiven, next_call, StepLeads, AnswersLead, StepsAreTheMachines, RunsAreTheMachines}
use Rattle.sim_proof.proofs.Scripts.{Keeps, Takes, left_keeps, call_takes}

no_leaving : (u : Machine) → Leaves ≡ Continues u → ⊥
no_leaving u e = cc

-- what goes on elsewhere than at a call site leaves the script, and makes no call
pub plain_keeps : (c : LaidCode) (image : Image) (s u : Machine) → ShowsCode c image → call_at c s.counter ≡ None → machine_step image s ≡ Continues u →
    Keeps s u
plain_keeps c image s u shows none e = by_entry (entry_at c.entries s.counter) refl where
  by_entry : (o : Option EncodedInstruction) → entry_at c.entries s.counter ≡ o → Keeps s u
  by_entry None q = absurd (no_leaving u (sym (left_step c image s shows q) ∙ e))
  by_entry (Some x) q =
      let l = line_some c.framed c.entries image.lines s.counter x shows.lines q in
      let call : entry_call c.framed x ≡ None = sym (ap (found_call c.framed) q) ∙ none in
      let is : machine_step image s ≡ does_line image l.line None s =
      ap (λ (o : Option CodeLine). does_at image o s) l.stands
      ∙ ap (λ (o : Option CallSite). does_line image l.line o s) (l.is.call ∙ call) in
      left_keeps image l.line (left_by (row_of l.line.instruction)) s u (sym is ∙ e)

-- at a call site it takes one answer
pub call_keeps : (c : LaidCode) (image : Image) (s u : Machine) (site : CallSite) (r : Reply) (rest : List Reply) → ShowsCode c image →
    call_at c s.counter ≡ Some site → s.script ≡ r ∷ rest → machine_step image s ≡ Continues u → Takes rest s u
call_keeps c image s u site r rest shows some script e = by_entry (entry_at c.entries s.counter) refl where
  no_call : ◌≡◌ {A = Option CallSite} None (Some site) → ⊥
  no_call q = cc

  by_entry : (o : Option EncodedInstruction) → entry_at c.entries s.counter ≡ o → Takes rest s u
  by_entry None q = absurd (no_call (sym (ap (found_call c.framed) q) ∙ some))
  by_entry (Some x) q =
      let call : entry_call c.framed x ≡ Some site = sym (ap (found_call c.framed) q) ∙ some in
      let is = call_step c image s x site shows q call in
      call_takes site (word_at image.text s.counter) s u r rest script (sym is ∙ e)

-- answers that were given, and those that were given to the calls behind them
pub given_on : (gives : CallEvent → Reply → Type 0) (n : ℕ) (xs ys : List Reply) → WereGiven gives n xs → WereGiven gives (n + length xs) ys →
    WereGiven gives n (xs ++ ys)
given_on gives n [] ys h more = let none : n + 0 ≡ n = omega arith in subst (λ (k : ℕ). WereGiven gives k ys) none more
given_on gives n (x ∷ xs) ys h more =
    let next : n + suc (length xs) ≡ suc n + length xs = omega arith in
    (h.0, given_on gives (suc n) xs ys h.1 (subst (λ (k : ℕ). WereGiven gives k ys) next more))

-- each of them is as what answers calls gives it
pub all_given : (gives : CallEvent → Reply → Type 0) (n : ℕ) (P : Reply → Type 0) (rs : List Reply) → ((e : CallEvent) (r : Reply) → gives e r → P r) →
    WereGiven gives n rs → All P rs
all_given gives n P [] sound h = All-nil P
all_given gives n P (r ∷ rs) sound h = All-cons P r rs (sound h.0.call r h.0.given) (all_given gives (suc n) P rs sound h.1)

module _ (gives : CallEvent → Reply → Type 0) (c : LaidCode) where
  plain : (h now : Hart) → StepsOn c Went h now → call_at c h.counter ≡ None → StepLeads gives c h now []
  plain h now step none image s rest shows stands script =
      let here : call_at c s.counter ≡ None = ap (call_at c) stands.counter ∙ none in
      let g = step image s shows stands here in
      let k = plain_keeps c image s g.to shows here g.goes in
      record {
        to = g.to;
        goes = g.goes;
        stands = g.stands;
        left = k.script ∙ script;
        given = tt;
        counted = omega (arith, k.calls);
      }

  call : (h now : Hart) (site : CallSite) → (calls : CallsOn gives c Went h now) → call_at c h.counter ≡ Some site →
      StepLeads gives c h now (calls.reply ∷ [])
  call h now site calls some image s rest shows stands script =
      let here : call_at c s.counter ≡ Some site = ap (call_at c) stands.counter ∙ some in
      let q = calls.calls image s site shows stands here in
      let g = q.goes rest script in
      let k = call_keeps c image s g.to site calls.reply rest shows here script g.goes in
      let one : calls_in s.events + 1 ≡ next_call s = omega arith in
      record {
        to = g.to;
        goes = g.goes;
        stands = g.stands;
        left = k.script;
        given = (record { call = event_of site s; numbered = ap (λ (n : ℕ). n % 2 ^ 64) one; given = q.given }, tt);
        counted = omega (arith, k.calls);
      }

  -- the answers that a step takes
  record Taken (h now : Hart) : Type 0 where
    taken : List Reply
    leads : StepLeads gives c h now taken
    few : length taken ≤ 1

  one_step : (h now : Hart) → StepsOn c Went h now → CallsOn gives c Went h now → Taken h now
  one_step h now step calls = by_call (call_at c h.counter) refl where
    by_call : (o : Option CallSite) → call_at c h.counter ≡ o → Taken h now
    by_call None e = record { taken = []; leads = plain h now step e; few = omega arith }
    by_call (Some site) e = record { taken = calls.reply ∷ []; leads = call h now site calls e; few = omega arith }

  module _ (from : Hart) where
    start : AnswersLead gives c from from []
    start image s rest shows stands script =
        record { to = s; comes = there; stands = stands; left = script; given = tt; counted = omega arith }

    further : (h now : Hart) (answers taken : List Reply) → AnswersLead gives c from h answers → StepLeads gives c h now taken →
        AnswersLead gives c from now (answers ++ taken)
    further h now answers taken lead step image s rest shows stands script =
        let p = lead image s (taken ++ rest) shows stands (script ∙ append_assoc answers taken rest) in
        let g = step image p.to rest shows p.stands p.left in
        record {
          to = g.to;
          comes = steps p.comes g.goes;
          stands = g.stands;
          left = g.left;
          given = given_on gives (next_call s) answers taken p.given (subst (λ (n : ℕ). WereGiven gives n taken) p.counted g.given);
          counted = omega (arith, p.counted, g.counted, length-append answers taken);
        }

    runs : {now : Hart} → Runs gives c from now → (answers : List Reply) × AnswersLead gives c from now answers
    runs begins = ([], start)
    runs (goes_on {h = h} {now = now} before step calls) =
        let lead = runs before in
        let one = one_step h now step calls in
        (lead.0 ++ one.taken, further h now lead.0 one.taken lead.1 one.leads)

pub steps_are_the_machines : (gives : CallEvent → Reply → Type 0) → StepsAreTheMachines gives
steps_are_the_machines gives c h now step calls = let one = one_step gives c h now step calls in (one.taken, one.leads, one.few)

pub runs_are_the_machines : (gives : CallEvent → Reply → Type 0) → RunsAreTheMachines gives
runs_are_the_machines gives c from now r = runs gives c from r
