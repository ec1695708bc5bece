use Rattle.std.proofs.Common.{◌≡◌, List, subst}
use Rattle.std.specs.Prelude.{IfSome, IsNone, Some, Contains, slice_get}
use Rattle.mir_func.specs.declared.variable.VarId.{VarId}
use Rattle.value_queries.proofs.stand.index_in.Goals as goal

pub returns-clause-some : goal.returns-clause-some
returns-clause-some c =
    subst (λ (vs : List VarId). IfSome c.position_of.result (λ j. slice_get vs j ≡ Some c.args.part.now)) c.as_slice.ensures c.position_of.ensures.some

pub returns-clause-none : goal.returns-clause-none
returns-clause-none c =
    subst (λ (vs : List VarId). IsNone c.position_of.result → Contains vs c.args.part.now → ⊥) c.as_slice.ensures c.position_of.ensures.none
