use Rattle.std.proofs.Common.{◌≡◌, ◌++◌, drop}
use Rattle.rv64_instr.specs.Row.{outgoing_words}
use Rattle.sem_machine.specs.Machine.{Machine}
use Rattle.sem_machine.specs.MachineStep.{words_from}
use Rattle.sim_machine.specs.Kept.{StandsFor}
use Rattle.sim_machine.proofs.hart.Hart.words.Given as goal

abbrev pub invariant-loop-operand : goal.invariant-loop-operand
invariant-loop-operand l = (s : Machine) → StandsFor l.self s →
    l.values ++ words_from s l.offset (outgoing_words (drop l.operand-index l.operands)) ≡ words_from s 0 (outgoing_words l.operands)
