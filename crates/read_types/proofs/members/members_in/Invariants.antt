use Rattle.std.proofs.Common.{◌≡◌, take}
use Rattle.std.specs.List.{filter_map}
use Rattle.read_types.specs.Parts.{member_at}
use Rattle.read_types.proofs.members.members_in.Given as goal

abbrev pub invariant-loop-element : goal.invariant-loop-element
invariant-loop-element l = l.members ≡ filter_map (member_at l.m l.nodes) (take l.element-index l.elements)
