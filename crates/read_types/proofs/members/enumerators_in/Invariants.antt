use Rattle.std.proofs.Common.{◌≡◌, take}
use Rattle.std.specs.List.{filter_map}
use Rattle.read_types.specs.Parts.{enumerator_at}
use Rattle.read_types.proofs.members.enumerators_in.Given as goal

abbrev pub invariant-loop-element : goal.invariant-loop-element
invariant-loop-element l = l.enumerators ≡ filter_map (enumerator_at l.m) (take l.element-index l.elements)
