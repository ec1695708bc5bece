use Rattle.std.proofs.Common.{refl, arith}
use Rattle.pass_list.proofs.Distinct.{standard_distinct}
use Rattle.pass_list.proofs.list.PassList.standard.Goals as goal

pub invariant_of-result : goal.invariant_of-result
invariant_of-result c = (refl, omega arith, standard_distinct)
