use Rattle.std.proofs.Common.{ℕ, subst}
use Rattle.rv64_instr.specs.declared.op.RegisterOp.TheVariants.{Add}
use Rattle.rv64_instr.specs.declared.symbol.Half.TheVariants.{Upper}
use Rattle.rv64_instr.specs.Row as row
use Rattle.rv64_instr.specs.Decoded.{Shows}
use Rattle.rv64_instr.proofs.decoded.sets_upper.Goals as goal

pub returns : goal.returns
returns c =
    subst (λ (a : ℕ). Shows c.sets_by_part.result (row.Sets c.args.rd Add a (row.PartOf Upper c.args.address.now))) c.zero.ensures
    c.sets_by_part.ensures
