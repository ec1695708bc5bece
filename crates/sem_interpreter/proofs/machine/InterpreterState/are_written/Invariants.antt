use Rattle.std.proofs.Common.{◌≡◌, drop}
use Rattle.rv64_instr.specs.Row.{implicit_uses}
use Rattle.sem_mir.specs.State.{Core}
use Rattle.sem_mir.specs.Step.{are_written}
use Rattle.sem_interpreter.specs.Acts.{MachineHolds}
use Rattle.sem_interpreter.proofs.machine.InterpreterState.are_written.Given as goal

abbrev pub invariant-loop-operand : goal.invariant-loop-operand
invariant-loop-operand l =
    (s : Core) → MachineHolds l.self s → are_written s (implicit_uses (drop l.operand-index l.operands)) ≡ are_written s (implicit_uses l.operands)
