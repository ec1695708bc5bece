use Rattle.std.proofs.Common.{◌≡◌, ℕ, Bool, true, false, not, nat_eq, nat_lt, refl}
use Rattle.std.specs.Prelude.{int_lt}
use Rattle.rv64_instr.specs.declared.op.BranchOp.{BranchOp}
use Rattle.rv64_instr.specs.declared.op.BranchOp.TheVariants.{Beq, Bne, Blt, Bge, Bltu, Bgeu}
use Rattle.rv64_instr.specs.Arithmetic.{taken, signed}
use Rattle.rv64_instr.specs.Inverse.{inverse}
use Rattle.rv64_instr.proofs.inverse.inverse.Goals as goal

twice : (b : Bool) → b ≡ not (not b)
twice true = refl
twice false = refl

negates : (op : BranchOp) (a b : ℕ) → taken (inverse op) a b ≡ not (taken op a b)
unfolding taken
negates Bne a b = twice (nat_eq a b)
negates Bge a b = twice (int_lt (signed a) (signed b))
negates Bgeu a b = twice (nat_lt a b)
negates _ a b = refl

pub returns-in-Beq-clause-negated : goal.returns-in-Beq-clause-negated
returns-in-Beq-clause-negated c = λ a b. rw c.in-Beq.is (negates Beq a b)

pub returns-in-Bne-clause-negated : goal.returns-in-Bne-clause-negated
returns-in-Bne-clause-negated c = λ a b. rw c.in-Bne.is (negates Bne a b)

pub returns-in-Blt-clause-negated : goal.returns-in-Blt-clause-negated
returns-in-Blt-clause-negated c = λ a b. rw c.in-Blt.is (negates Blt a b)

pub returns-in-Bge-clause-negated : goal.returns-in-Bge-clause-negated
returns-in-Bge-clause-negated c = λ a b. rw c.in-Bge.is (negates Bge a b)

pub returns-in-Bltu-clause-negated : goal.returns-in-Bltu-clause-negated
returns-in-Bltu-clause-negated c = λ a b. rw c.in-Bltu.is (negates Bltu a b)

pub returns-in-Bgeu-clause-negated : goal.returns-in-Bgeu-clause-negated
returns-in-Bgeu-clause-negated c = λ a b. rw c.in-Bgeu.is (negates Bgeu a b)
