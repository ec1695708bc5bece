use Rattle.std.proofs.Common.{List, subst}
use Rattle.mir_func.specs.declared.block.Block.{Block}
use Rattle.mir_func.specs.Sound.{AreApart, ids_of}
use Rattle.fold_targets.proofs.Blocks.{apart_tail}
use Rattle.fold_targets.proofs.leads.leads.Goals as goal

pub leads_among-requires : goal.leads_among-requires
leads_among-requires c =
    apart_tail c.in-Some.field-0-0.now.id (ids_of c.in-Some.others.now)
    (subst (λ (z : List Block). AreApart (ids_of z)) c.in-Some.ensures.cases.0 c.requires)
