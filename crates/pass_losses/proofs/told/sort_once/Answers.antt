use Rattle.std.proofs.Common.{Contains, sym}
use Rattle.std.proofs.lemmas.List.Filters.{dedup_is}
use Rattle.std.proofs.lemmas.List.Kept.{IsStrictlySortedBy-dedup, Any-dedup, Contains-from_dedup}
use Rattle.std.proofs.lemmas.List.Sorted.{Contains-permutation, IsPermutation-sym}
use Rattle.pass_losses.proofs.told.sort_once.Goals as goal

pub returns-clause-sorted : goal.returns-clause-sorted
returns-clause-sorted g c = rw (dedup_is _ _ _ c.dedup.ensures.filtered)
    (IsStrictlySortedBy-dedup g.met.T.Ord.total g.met.T.Ord.matches_eq _ c.sort_unstable.ensures.sorted)

pub returns-clause-from : goal.returns-clause-from
returns-clause-from g c = λ x h.
    let is = dedup_is _ _ _ c.dedup.ensures.filtered in
    Contains-permutation _ _ x (IsPermutation-sym _ _ c.sort_unstable.ensures.permutation) (Contains-from_dedup _ _ x (rw is at h))

pub returns-clause-kept : goal.returns-clause-kept
returns-clause-kept g c = λ x h.
    rw (dedup_is _ _ _ c.dedup.ensures.filtered)
    (Any-dedup g.met.T.Eq.laws _ x (Contains-permutation _ _ x c.sort_unstable.ensures.permutation h))
