use Rattle.std.proofs.Common.{◌+◌, ◌*◌, rules}
use Rattle.std.proofs.lemmas.List.Sorted.{IsNonDecreasingBy-from_sort_by_key}
use Rattle.scan_intervals.specs.declared.interval.LiveInterval.{LiveInterval}
use Rattle.scan_liveness.proofs.intervals.sort.Goals as goal

pub returns-clause-ordered : goal.returns-clause-ordered
returns-clause-ordered c =
    IsNonDecreasingBy-from_sort_by_key (λ (i : LiveInterval). i.start * 4128 + i.register) _ c.sort_unstable_by_key.ensures.sorted (λ a r q k. search rules)
