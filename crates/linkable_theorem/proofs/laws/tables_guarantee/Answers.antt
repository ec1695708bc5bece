use Rattle.linkable_theorem.proofs.Guaranteed.{tables_guarantee}
use Rattle.linkable_theorem.proofs.laws.tables_guarantee.Goals as goal

pub returns : goal.returns
returns c = tables_guarantee
