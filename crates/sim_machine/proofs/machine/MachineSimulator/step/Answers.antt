use Rattle.std.proofs.Common.{◌≡◌, Option, sym, subst, ◌∙◌}
use Rattle.std.specs.Prelude.{None, IfSome}
use Rattle.std.specs.Result.{IfOk}
use Rattle.emit_code.specs.declared.code.EncodedInstruction.{EncodedInstruction}
use Rattle.sim_machine.specs.declared.ending.Stepped.TheVariants.{Stopped}
use Rattle.sim_machine.specs.declared.ending.Stop.TheVariants.{Left}
use Rattle.sim_machine.specs.declared.site.Transfer.TheVariants.{Call}
use Rattle.sim_machine.specs.Machines.{Running}
use Rattle.sim_machine.specs.Running.{StepsOn, CallsOn}
use Rattle.sim_machine.specs.Shown.{entry_call}
use Rattle.sim_machine.specs.steps.Sites.{TransfersSo}
use Rattle.sim_machine.proofs.Stepping.{at_address, steps_left, calls_left, calls_word, calls_word_if}
use Rattle.sim_machine.proofs.machine.MachineSimulator.step.Goals as goal

pub returns-in-None-clause-step : goal.returns-in-None-clause-step
returns-in-None-clause-step g c =
    subst (λ (x : Running g.row.A.Denot). StepsOn x.code (Stopped Left) x.hart x.hart) c.self.view_is
    (steps_left c.self.inside.code.now c.self.inside.hart (sym c.find.ensures.found ∙ c.in-None.is))

pub returns-in-None-clause-call : goal.returns-in-None-clause-call
returns-in-None-clause-call g c =
    subst (λ (x : Running g.row.A.Denot). CallsOn (g.A.CallAnswers.gives x.answers) x.code (Stopped Left) x.hart x.hart) c.self.view_is
    (calls_left (g.A.CallAnswers.gives c.self.inside.answers) c.self.inside.code.now c.self.inside.hart (sym c.find.ensures.found ∙ c.in-None.is))

pub call-requires-clause-call : goal.call-requires-clause-call
call-requires-clause-call g c =
    subst (λ (x : Running g.row.A.Denot). TransfersSo (Call c.in-Call.callee) (entry_call x.code.framed c.in-Some.entry) None) c.self.view_is c.in-Call.ensures

pub departure-requires-clause-stands : goal.departure-requires-clause-stands
departure-requires-clause-stands g c =
    at_address c.self.inside.code.now c.self.inside.hart c.in-Some.entry (sym c.find.ensures.found ∙ c.in-Some.is)
    (subst (λ (o : Option EncodedInstruction). IfSome o (λ e. e.address ≡ c.self.inside.hart.counter)) c.in-Some.is c.find.ensures.begins)

pub returns-in-Departure-clause-step : goal.returns-in-Departure-clause-step
returns-in-Departure-clause-step g c =
    subst (λ (x : Running g.row.A.Denot). StepsOn x.code (Stopped c.departure.result) x.hart x.hart) c.self.view_is
    (c.departure.ensures c.self.inside.hart
    (sym (subst (λ (o : Option EncodedInstruction). IfSome o (λ e. e.address ≡ c.self.inside.hart.counter)) c.in-Some.is c.find.ensures.begins)))

pub returns-in-Departure-clause-call : goal.returns-in-Departure-clause-call
returns-in-Departure-clause-call g c =
    subst (λ (x : Running g.row.A.Denot). CallsOn (g.A.CallAnswers.gives x.answers) x.code (Stopped c.departure.result) x.hart x.hart) c.self.view_is
    (calls_word (g.A.CallAnswers.gives c.self.inside.answers) c.self.inside.code.now (Stopped c.departure.result) c.self.inside.hart c.self.inside.hart
    c.in-Some.entry (sym c.find.ensures.found ∙ c.in-Some.is) c.in-Departure.ensures.2)

pub returns-in-Nothing-clause-call : goal.returns-in-Nothing-clause-call
returns-in-Nothing-clause-call g c =
    let found = sym c.find.ensures.found ∙ c.in-Some.is in
    subst (λ (x : Running g.row.A.Denot). IfOk c.run_word.result (λ r. CallsOn (g.A.CallAnswers.gives x.answers) x.code r x.hart c.run_word.new.hart))
    c.self.view_is
    (calls_word_if c.run_word.result (g.A.CallAnswers.gives c.self.inside.answers) c.self.inside.code.now c.self.inside.hart c.run_word.new.hart
    c.in-Some.entry found c.in-Nothing.ensures.0)
