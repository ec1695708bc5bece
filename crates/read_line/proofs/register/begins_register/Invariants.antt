use Rattle.std.proofs.Common.{◌≡◌, length}
use Rattle.read_line.specs.Register.{begins_register}
use Rattle.read_line.proofs.register.begins_register.Given as goal

abbrev pub invariant-loop-rest : goal.invariant-loop-rest
invariant-loop-rest l = begins_register l.rest ≡ begins_register l.lexemes

abbrev pub decreases-loop-rest : goal.decreases-loop-rest
decreases-loop-rest l = length l.rest
