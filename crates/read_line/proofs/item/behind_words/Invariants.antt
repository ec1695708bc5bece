use Rattle.std.proofs.Common.{◌≡◌, length}
use Rattle.read_line.specs.Item.{behind_words}
use Rattle.read_line.proofs.item.behind_words.Given as goal

abbrev pub invariant-loop-rest : goal.invariant-loop-rest
invariant-loop-rest l = behind_words l.rest ≡ behind_words l.lexemes

abbrev pub decreases-loop-rest : goal.decreases-loop-rest
decreases-loop-rest l = length l.rest
