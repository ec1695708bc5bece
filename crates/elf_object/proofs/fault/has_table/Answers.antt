use Rattle.std.proofs.Common.{arith}
use Rattle.elf_object.proofs.FaultLoops.{short_table}
use Rattle.elf_object.proofs.fault.has_table.Goals as goal

pub returns-else-bytes-ge64-clause-exact : goal.returns-else-bytes-ge64-clause-exact
returns-else-bytes-ge64-clause-exact c = short_table c.args.bytes.now (omega (arith, c.if-bytes-ge64.false))
