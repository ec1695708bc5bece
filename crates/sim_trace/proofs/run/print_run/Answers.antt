use Rattle.std.proofs.Common.{List, subst}
use Rattle.emit_code.specs.Laid.{LaidCode}
use Rattle.sim_trace.specs.declared.variable.Variable.{Variable}
use Rattle.sim_trace.specs.steps.Printed.{IsRunPrinted}
use Rattle.sim_trace.proofs.Lifting.{text_of_run}
use Rattle.sim_trace.proofs.run.print_run.Goals as goal

pub returns : goal.returns
returns g c =
    let gives = g.A.CallAnswers.gives in
    let m = c.in_ok-machine.machine in
    let here = subst (λ (k : LaidCode). IsRunPrinted (gives m.answers) k c.as_slice.result.now c.args.limit m.hart c.print_steps.new.text)
    c.in_ok-machine.ensures.code c.in_ok-print_steps.ensures in
    let made = subst (λ (a : g.row.A.Denot). IsRunPrinted (gives a) c.args.code.now c.as_slice.result.now c.args.limit m.hart c.print_steps.new.text)
    c.in_ok-machine.ensures.answers here in
    text_of_run (gives c.args.answers) c.args.code.now c.args.start.now c.args.variables.now c.args.limit c.print_steps.new.text m.hart
    c.in_ok-machine.ensures.stands
    (subst (λ (vs : List Variable). IsRunPrinted (gives c.args.answers) c.args.code.now vs c.args.limit m.hart c.print_steps.new.text) c.as_slice.ensures made)
