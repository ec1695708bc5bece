use Rattle.std.proofs.Common.{◌≡◌, ◌<◌, ◌++◌, drop, map}
use Rattle.std.specs.List.{All}
use Rattle.rv64_instr.specs.Row.{implicit_uses}
use Rattle.sem_machine.specs.Machine.{Machine, register}
use Rattle.sim_machine.specs.Kept.{StandsFor}
use Rattle.sim_machine.proofs.hart.Hart.arguments.Given as goal

abbrev pub invariant-loop-operand : goal.invariant-loop-operand
invariant-loop-operand l = record {
  low : All (λ r. r < 32) (implicit_uses (drop l.operand-index l.operands));
  values : (s : Machine) → StandsFor l.self s →
      l.values ++ map (register s) (implicit_uses (drop l.operand-index l.operands)) ≡ map (register s) (implicit_uses l.operands);
}
