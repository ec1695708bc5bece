use Rattle.std.proofs.Common.{rules}
use Rattle.std.proofs.lemmas.List.Sorted.{IsNonDecreasingBy-from_sort_by_key}
use Rattle.location_of_variable.specs.declared.group.Piece.{Piece}
use Rattle.location_of_variable.proofs.group.Group.sorted.Goals as goal

pub returns-clause-ascend : goal.returns-clause-ascend
returns-clause-ascend c = IsNonDecreasingBy-from_sort_by_key (λ (x : Piece). x.bytes.offset) _ c.sort_unstable_by_key.ensures.sorted (λ a r q k. search rules)
