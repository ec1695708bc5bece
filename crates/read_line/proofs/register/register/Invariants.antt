use Rattle.std.proofs.Common.{◌≡◌, length}
use Rattle.read_token.specs.declared.lexeme.Flag.TheVariants.{Plain}
use Rattle.read_line.specs.Register.{register_at}
use Rattle.read_line.proofs.register.register.Given as goal

abbrev pub invariant-loop-rest : goal.invariant-loop-rest
invariant-loop-rest l = register_at l.flag l.rest ≡ register_at Plain l.lexemes

abbrev pub decreases-loop-rest : goal.decreases-loop-rest
decreases-loop-rest l = length l.rest
