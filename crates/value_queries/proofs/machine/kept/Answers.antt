use Rattle.std.proofs.Common.{arith}
use Rattle.value_queries.proofs.Kept.{entries_kept}
use Rattle.value_queries.proofs.machine.kept.Goals as goal

pub returns-clause-most : goal.returns-clause-most
returns-clause-most c = λ g things are.
    let sum = entries_kept g things c.args.entries.now are in
    omega (arith, c.total.ensures, sum)
