use Rattle.std.proofs.Common.{◌≡◌, ◌-◌, length}
use Rattle.read_line.specs.Item.{definitions_at}
use Rattle.read_line.proofs.Fronts.{behind}
use Rattle.read_line.proofs.item.some_definitions.Given as goal

abbrev pub invariant-loop : goal.invariant-loop
invariant-loop l = behind l.found (definitions_at (length l.lexemes - l.counter) l.rest) ≡ definitions_at (length l.lexemes) l.lexemes
