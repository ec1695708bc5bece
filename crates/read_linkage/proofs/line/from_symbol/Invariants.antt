use Rattle.std.proofs.Common.{◌≡◌, false, drop}
use Rattle.read_metadata.specs.Definition.{from_first, is_symbol}
use Rattle.read_linkage.proofs.line.from_symbol.Given as goal

abbrev pub invariant-loop-at : goal.invariant-loop-at
invariant-loop-at l = from_first is_symbol l.quoted (drop l.at l.line) ≡ from_first is_symbol false l.line
