use Rattle.std.proofs.Common.{◌≡◌, drop}
use Rattle.read_declarations.specs.Name.{are_single}
use Rattle.read_declarations.proofs.name.are_single.Given as goal

abbrev pub invariant-loop-token : goal.invariant-loop-token
invariant-loop-token l = are_single l.line l.end (drop l.token-index l.tokens) ≡ are_single l.line l.start l.tokens
