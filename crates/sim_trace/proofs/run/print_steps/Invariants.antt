use Rattle.std.proofs.Common.{◌≡◌}
use Rattle.sim_trace.specs.steps.Printed.{Printed}
use Rattle.sim_trace.proofs.run.print_steps.Given as goal

abbrev pub invariant-loop-n : goal.invariant-loop-n
invariant-loop-n g l = record {
  code : l.machine.code ≡ l.initial.machine.code;
  answers : l.machine.answers ≡ l.initial.machine.answers;
  printed : Printed (g.A.CallAnswers.gives l.initial.machine.answers) l.initial.machine.code l.variables l.initial.machine.hart l.n l.machine.hart l.text;
}
