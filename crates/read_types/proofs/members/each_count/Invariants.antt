use Rattle.std.proofs.Common.{◌≡◌, drop}
use Rattle.read_types.specs.Parts.{each_count}
use Rattle.read_types.proofs.Counts.{joined}
use Rattle.read_types.proofs.members.each_count.Given as goal

abbrev pub invariant-loop-element : goal.invariant-loop-element
invariant-loop-element l = joined l.counts (each_count l.m (drop l.element-index l.elements)) ≡ each_count l.m l.elements
