use Rattle.std.proofs.Common.{◌≡◌, ◌^◌, ℕ, min, drop}
use Rattle.std.specs.Option.{option_and_then}
use Rattle.type_nodes.specs.Sizes.{array_size, times, product}
use Rattle.type_nodes.proofs.sizes.array_size.Given as goal

abbrev pub invariant-loop-count : goal.invariant-loop-count
invariant-loop-count l =
    (t : ℕ) × (l.total ≡ min t (2 ^ 61)) × (array_size l.counts l.size ≡ option_and_then (times t) (product (drop l.count-index l.counts)))
