use Rattle.std.proofs.Common.{◌↔◌, drop}
use Rattle.rv64_instr.specs.Row.{outgoing_words}
use Rattle.mir_func.specs.Sound.{BeginWith}
use Rattle.mir_func.proofs.sound.begin_with.Given as goal

abbrev pub invariant-loop-operand : goal.invariant-loop-operand
invariant-loop-operand l = BeginWith l.rest (outgoing_words (drop l.operand-index l.operands)) ↔ BeginWith l.slots (outgoing_words l.operands)
