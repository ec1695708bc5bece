use Rattle.std.proofs.Common.{drop}
use Rattle.pass_trait.specs.Causes.{is_of_register}
use Rattle.scan_allot.proofs.Inserted.{Inserts}
use Rattle.scan_allot.proofs.named.insert_operands.Given as goal

abbrev pub invariant-loop-operand : goal.invariant-loop-operand
invariant-loop-operand l = Inserts (λ r o. is_of_register l.counts r o) l.operands l.initial.named (drop l.operand-index l.operands) l.named
