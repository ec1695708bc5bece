use Rattle.std.proofs.Common.{sym, ap, subst, ◌∙◌, arith}
use Rattle.std.specs.Prelude.{IsSome}
use Rattle.sem_interpreter.specs.Acts.{reply_of}
use Rattle.sim_machine.specs.declared.ending.Stepped.TheVariants.{Went}
use Rattle.sim_machine.specs.Machines.{Running}
use Rattle.sim_machine.specs.Running.{StepsOn, CallsOn}
use Rattle.sim_machine.specs.Shown.{entry_at, entry_call}
use Rattle.sim_machine.specs.steps.Sites.{GoesThere}
use Rattle.sim_machine.proofs.Stepping.{at_address, steps_call, call_made}
use Rattle.sim_machine.proofs.machine.MachineSimulator.make_call.Goals as goal

pub call_at-i-requires-clause-stands : goal.call_at-i-requires-clause-stands
call_at-i-requires-clause-stands g c =
    let i = c.self.inside in
    let found = ap (λ (x : Running g.row.A.Denot). entry_at x.code.entries x.hart.counter) c.self.view_is ∙ c.requires.stands in
    at_address i.code.now i.hart c.args.entry.now found (c.requires.at ∙ sym (ap (λ (x : Running g.row.A.Denot). x.hart.counter) c.self.view_is))

pub call_at-i-requires-clause-call : goal.call_at-i-requires-clause-call
call_at-i-requires-clause-call g c =
    subst (λ (x : Running g.row.A.Denot). IsSome (entry_call x.code.framed c.args.entry.now)) (sym c.self.view_is) c.requires.call

pub take-requires-clause-low : goal.take-requires-clause-low
take-requires-clause-low g c =
    let n = ap (λ (x : Running g.row.A.Denot). x.hart.counter) c.self.view_is in omega (arith, n, c.requires.at, c.call_at-i.ensures.low)

pub returns-clause-step : goal.returns-clause-step
returns-clause-step g c =
    let i = c.self.inside in
    let found = ap (λ (x : Running g.row.A.Denot). entry_at x.code.entries x.hart.counter) c.self.view_is ∙ c.requires.stands in
    subst (λ (x : Running g.row.A.Denot). StepsOn x.code Went x.hart c.take.new.self) c.self.view_is
    (steps_call i.code.now Went i.hart c.take.new.self c.args.entry.now c.call_at-i.result.now found c.call_at-i.ensures.same c.call_at-i.ensures.calls)

pub returns-clause-call : goal.returns-clause-call
returns-clause-call g c =
    let i = c.self.inside in
    let found = ap (λ (x : Running g.row.A.Denot). entry_at x.code.entries x.hart.counter) c.self.view_is ∙ c.requires.stands in
    subst (λ (x : Running g.row.A.Denot). CallsOn (g.A.CallAnswers.gives x.answers) x.code Went x.hart c.take.new.self) c.self.view_is
    (call_made (g.A.CallAnswers.gives i.answers) i.code.now i.hart c.take.new.self c.args.entry.now c.call_at-i.result.now c.in_ok-event.event
    (reply_of c.answer-answer.result) found (ap (λ (x : Running g.row.A.Denot). x.hart.counter) c.self.view_is ∙ sym c.requires.at)
    (subst (λ (x : Running g.row.A.Denot). GoesThere x.code c.args.entry.now) (sym c.self.view_is) c.requires.goes) c.call_at-i.ensures.same c.in_ok-event.ensures c.answer-answer.ensures.given
    (c.answer-answer.ensures.spared i.hart.entry i.hart.area c.self.invariant)
    (λ s site rest h call. c.in_ok-take.ensures.ok s site rest h (c.call_size.ensures.size site call)))
