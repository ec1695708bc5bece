use Rattle.std.proofs.Common.{◌≡◌, take}
use Rattle.std.specs.List.{filter_map}
use Rattle.std.specs.Option.{option_map}
use Rattle.read_types.specs.Indices.{index_in}
use Rattle.read_types.proofs.members.parameters_in.Given as goal

abbrev pub invariant-loop-element : goal.invariant-loop-element
invariant-loop-element l = l.indices ≡ filter_map (option_map (index_in l.nodes)) (take l.element-index l.elements)
