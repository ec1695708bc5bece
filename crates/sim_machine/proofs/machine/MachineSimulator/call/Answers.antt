use Rattle.std.proofs.Common.{Option, None, refl, sym, ap, subst, ◌∙◌}
use Rattle.std.specs.Prelude.{IsSome}
use Rattle.rv64_instr.specs.Row.{CallSite}
use Rattle.sim_machine.specs.declared.ending.Stepped.TheVariants.{Stopped}
use Rattle.sim_machine.specs.declared.ending.Stop.TheVariants.{BadWord}
use Rattle.sim_machine.specs.declared.site.Transfer.TheVariants.{Call}
use Rattle.sim_machine.specs.Machines.{Running}
use Rattle.sim_machine.specs.Running.{StepsOn, CallsOn}
use Rattle.sim_machine.specs.Shown.{entry_at, entry_call}
use Rattle.sim_machine.specs.steps.Sites.{TransfersSo, GoesThere}
use Rattle.sim_machine.proofs.Stepping.{at_address, steps_site, goes_there, call_stopped}
use Rattle.sim_machine.proofs.machine.MachineSimulator.call.Goals as goal

pub word_of-word-requires : goal.word_of-word-requires
word_of-word-requires g c =
    let i = c.self.inside in
    let found = ap (λ (x : Running g.row.A.Denot). entry_at x.code.entries x.hart.counter) c.self.view_is ∙ c.requires.stands in
    at_address i.code.now i.hart c.args.entry.now found (c.requires.at ∙ sym (ap (λ (x : Running g.row.A.Denot). x.hart.counter) c.self.view_is))

pub make_call-requires-clause-call : goal.make_call-requires-clause-call
make_call-requires-clause-call g c = subst (λ (o : Option CallSite). IsSome o) (sym c.requires.call.1) refl

pub make_call-requires-clause-goes : goal.make_call-requires-clause-goes
make_call-requires-clause-goes g c =
    let i = c.self.inside in
    let to = subst (λ (x : Running g.row.A.Denot). TransfersSo (Call c.args.callee) (entry_call x.code.framed c.args.entry.now) None) (sym c.self.view_is)
    c.requires.call in
    subst (λ (x : Running g.row.A.Denot). GoesThere x.code c.args.entry.now) c.self.view_is
    (goes_there i.code.now c.args.entry.now c.args.callee c.word_of-word.result to c.word_of-word.ensures.word
    (λ x counter shows. sym c.if-goes.true ∙ c.goes_to-goes.ensures x counter shows))

pub returns-else-goes-clause-call : goal.returns-else-goes-clause-call
returns-else-goes-clause-call g c =
    let i = c.self.inside in
    let found = ap (λ (x : Running g.row.A.Denot). entry_at x.code.entries x.hart.counter) c.self.view_is ∙ c.requires.stands in
    let at = ap (λ (x : Running g.row.A.Denot). x.hart.counter) c.self.view_is ∙ sym c.requires.at in
    let to = subst (λ (x : Running g.row.A.Denot). TransfersSo (Call c.args.callee) (entry_call x.code.framed c.args.entry.now) None) (sym c.self.view_is)
    c.requires.call in
    subst (λ (x : Running g.row.A.Denot). CallsOn (g.A.CallAnswers.gives x.answers) x.code (Stopped (BadWord c.word_of-word.result)) x.hart x.hart)
    c.self.view_is
    (call_stopped (g.A.CallAnswers.gives i.answers) i.code.now i.hart c.args.entry.now c.args.callee c.word_of-word.result found at to
    c.word_of-word.ensures.word (λ x counter shows. sym c.if-goes.false ∙ c.goes_to-goes.ensures x counter shows))

pub returns-else-goes-clause-step : goal.returns-else-goes-clause-step
returns-else-goes-clause-step g c =
    let i = c.self.inside in
    let found = ap (λ (x : Running g.row.A.Denot). entry_at x.code.entries x.hart.counter) c.self.view_is ∙ c.requires.stands in
    let to = subst (λ (x : Running g.row.A.Denot). TransfersSo (Call c.args.callee) (entry_call x.code.framed c.args.entry.now) None) (sym c.self.view_is)
    c.requires.call in
    subst (λ (x : Running g.row.A.Denot). StepsOn x.code (Stopped (BadWord c.word_of-word.result)) x.hart x.hart) c.self.view_is
    (steps_site i.code.now (Stopped (BadWord c.word_of-word.result)) i.hart i.hart c.args.entry.now to.0 found to.1)
