use Rattle.std.proofs.Common.{◌≡◌, drop}
use Rattle.read_program.specs.Ends.{last_from, last_code}
use Rattle.read_program.proofs.ends.last_code.Given as goal

abbrev pub invariant-loop-index : goal.invariant-loop-index
invariant-loop-index l = last_from l.index l.found (drop l.index l.items) ≡ last_code l.items
