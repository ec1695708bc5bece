use Rattle.std.proofs.Common.{All, take}
use Rattle.mir_printer.specs.Printable.{HasNumbers}
use Rattle.mir_type_facts.proofs.typed.operands_are_typed.Given as goal

abbrev pub invariant-loop-operand : goal.invariant-loop-operand
invariant-loop-operand l = All HasNumbers (take l.operand-index l.operands)
