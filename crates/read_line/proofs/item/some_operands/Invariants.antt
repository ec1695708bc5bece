use Rattle.std.proofs.Common.{◌≡◌, ◌-◌, length}
use Rattle.read_line.specs.Item.{operands_at}
use Rattle.read_line.proofs.Fronts.{behind}
use Rattle.read_line.proofs.item.some_operands.Given as goal

abbrev pub invariant-loop : goal.invariant-loop
invariant-loop l = behind l.found (operands_at l.linked l.line (length l.lexemes - l.counter) l.rest) ≡ operands_at l.linked l.line (length l.lexemes) l.lexemes
