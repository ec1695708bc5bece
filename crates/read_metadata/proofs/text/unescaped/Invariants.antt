use Rattle.std.proofs.Common.{◌≡◌, ◌++◌, length}
use Rattle.read_metadata.specs.Text.{unescaped}
use Rattle.read_metadata.proofs.text.unescaped.Given as goal

abbrev pub invariant-loop-rest : goal.invariant-loop-rest
invariant-loop-rest l = l.bytes ++ unescaped l.rest ≡ unescaped l.text

abbrev pub decreases-loop-rest : goal.decreases-loop-rest
decreases-loop-rest l = length l.rest
