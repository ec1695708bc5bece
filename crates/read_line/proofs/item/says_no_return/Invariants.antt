use Rattle.std.proofs.Common.{◌≡◌, length}
use Rattle.read_line.specs.Item.{says_no_return}
use Rattle.read_line.proofs.item.says_no_return.Given as goal

abbrev pub invariant-loop-rest : goal.invariant-loop-rest
invariant-loop-rest l = says_no_return l.rest ≡ says_no_return l.lexemes

abbrev pub decreases-loop-rest : goal.decreases-loop-rest
decreases-loop-rest l = length l.rest
