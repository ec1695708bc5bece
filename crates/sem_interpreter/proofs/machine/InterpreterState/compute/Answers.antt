use Rattle.std.proofs.Common.{refl, sym, ap, ◌∙◌}
use Rattle.sem_mir.specs.Step as step
use Rattle.sem_mir.specs.Step.{set_register}
use Rattle.sem_interpreter.proofs.Rows.{sets_so, sets_does, sets_faults_first, sets_faults_second, faults}
use Rattle.sem_interpreter.proofs.machine.InterpreterState.compute.Goals as goal

pub returns : goal.returns
returns c x is =
    sets_so c.args.self.now c.write.new.self _ c.args.rd c.compute.result (λ p. refl) c.write.ensures
    (λ s holds. sets_does c.args.self.now c.args.rd c.args.a c.in-Some.x c.in-Some-input.y c.args.op x c.in-Some.ensures (c.in-Some-input.ensures x is) s holds
    ∙ ap (λ v. step.Falls (set_register c.args.rd v s)) (sym c.compute.ensures))

pub returns-in_default : goal.returns-in_default
returns-in_default c x is = faults c.args.self.now _ (sets_faults_first c.args.self.now c.args.rd c.args.a c.args.op x c.in_default.ensures)

pub returns-in_default-input : goal.returns-in_default-input
returns-in_default-input c x is =
    faults c.args.self.now _ (sets_faults_second c.args.self.now c.args.rd c.args.a c.args.op x (c.in_default-input.ensures x is))
