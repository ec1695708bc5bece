use Rattle.std.proofs.Common.{◌≡◌, false, drop}
use Rattle.read_metadata.specs.Definition.{from_first, is_sought}
use Rattle.read_metadata.proofs.definition.from_first.Given as goal

abbrev pub invariant-loop-at : goal.invariant-loop-at
invariant-loop-at l = from_first (is_sought l.sought) l.quoted (drop l.at l.line) ≡ from_first (is_sought l.sought) false l.line
