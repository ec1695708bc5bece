use Rattle.std.proofs.Common.{◌≡◌, ℕ, suc, ◌+◌, ◌<◌, List, refl, sym, ◌∙◌, subst, arith}
use Rattle.emit_code.specs.Laid.{LaidCode}
use Rattle.sim_machine.specs.declared.ending.Stepped.{Stepped}
use Rattle.sim_trace.specs.steps.Printed.{IsPrintedStep, Printed, IsStopAdded, IsRunPrinted, begins, goes_on, made_steps, stopped}
use Rattle.sim_trace.proofs.Lifting.{on_ok}
use Rattle.sim_trace.proofs.run.print_steps.Goals as goal

pub loop-n-init : goal.loop-n-init
loop-n-init g c = record {
  code = refl;
  answers = refl;
  printed = subst (λ (t : List ℕ). Printed (g.A.CallAnswers.gives c.args.machine.now.answers) c.args.machine.now.code c.args.variables.now
      c.args.machine.now.hart 0 c.args.machine.now.hart t) (sym c.requires.empty) begins;
}

pub loop-n-preserved : goal.loop-n-preserved
loop-n-preserved g c =
    let gives = g.A.CallAnswers.gives in
    let m = c.loop-n.machine in
    let now = c.print_step.new.machine in
    let here = subst (λ (k : LaidCode). IsPrintedStep (gives m.answers) k c.args.variables.now c.loop-n.n c.in_ok-print_step.field-0 m.hart now.hart
    c.loop-n.text c.print_step.new.text) c.loop-n.invariant.code c.in_ok-print_step.ensures.printed in
    let made = subst (λ (a : g.row.A.Denot). IsPrintedStep (gives a) c.args.machine.now.code c.args.variables.now c.loop-n.n c.in_ok-print_step.field-0 m.hart
    now.hart c.loop-n.text c.print_step.new.text) c.loop-n.invariant.answers here in
    let went = subst (λ (r : Stepped). IsPrintedStep (gives c.args.machine.now.answers) c.args.machine.now.code c.args.variables.now c.loop-n.n r m.hart
    now.hart c.loop-n.text c.print_step.new.text) c.in-Went.is made in
    let one : suc c.loop-n.n ≡ c.loop-n.n + 1 = omega arith in
    record {
      code = c.print_step.ensures.code ∙ c.loop-n.invariant.code;
      answers = c.print_step.ensures.answers ∙ c.loop-n.invariant.answers;
      printed = subst (λ (k : ℕ). Printed (gives c.args.machine.now.answers) c.args.machine.now.code c.args.variables.now c.args.machine.now.hart k now.hart
          c.print_step.new.text) one (goes_on c.loop-n.invariant.printed went);
    }

pub returns-in-Stopped : goal.returns-in-Stopped
returns-in-Stopped g c =
    let gives = g.A.CallAnswers.gives in
    let m = c.loop-n.machine in
    let now = c.print_step.new.machine in
    let here = subst (λ (k : LaidCode). IsPrintedStep (gives m.answers) k c.args.variables.now c.loop-n.n c.in_ok-print_step.field-0 m.hart now.hart
    c.loop-n.text c.print_step.new.text) c.loop-n.invariant.code c.in_ok-print_step.ensures.printed in
    let made = subst (λ (a : g.row.A.Denot). IsPrintedStep (gives a) c.args.machine.now.code c.args.variables.now c.loop-n.n c.in_ok-print_step.field-0 m.hart
    now.hart c.loop-n.text c.print_step.new.text) c.loop-n.invariant.answers here in
    let step = subst (λ (r : Stepped). IsPrintedStep (gives c.args.machine.now.answers) c.args.machine.now.code c.args.variables.now c.loop-n.n r m.hart
    now.hart c.loop-n.text c.print_step.new.text) c.in-Stopped.is made in
    let below : c.loop-n.n < c.args.limit = c.loop-n-test.true in
    on_ok c.push_stop.result (IsStopAdded now.code c.in-Stopped.stop now.hart c.print_step.new.text c.push_stop.new.text)
    (IsRunPrinted (gives c.args.machine.now.answers) c.args.machine.now.code c.args.variables.now c.args.limit c.args.machine.now.hart c.push_stop.new.text)
    c.push_stop.ensures
    (λ added. stopped c.in-Stopped.stop below c.loop-n.invariant.printed step
    (subst (λ (k : LaidCode). IsStopAdded k c.in-Stopped.stop now.hart c.print_step.new.text c.push_stop.new.text)
    (c.print_step.ensures.code ∙ c.loop-n.invariant.code) added))

pub returns : goal.returns
returns g c =
    let gives = g.A.CallAnswers.gives in
    let test = c.loop-n-test.false in
    let last = c.loop-n.auto.n-end in
    let all : c.loop-n.n ≡ c.args.limit = omega (arith, test, last) in
    let printed = subst (λ (k : ℕ). Printed (gives c.args.machine.now.answers) c.args.machine.now.code c.args.variables.now c.args.machine.now.hart k
    c.loop-n.machine.hart c.loop-n.text) all c.loop-n.invariant.printed in
    on_ok c.push_str.result _
    (IsRunPrinted (gives c.args.machine.now.answers) c.args.machine.now.code c.args.variables.now c.args.limit c.args.machine.now.hart c.push_str.new.text)
    c.push_str.ensures.ok (λ is. made_steps printed is)
