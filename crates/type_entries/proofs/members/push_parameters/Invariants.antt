use Rattle.std.proofs.Common.{◌≡◌, ◌++◌, map, take}
use Rattle.type_entries.specs.Entries.{parameter_item}
use Rattle.type_entries.proofs.members.push_parameters.Given as goal

abbrev pub invariant-loop-index : goal.invariant-loop-index
invariant-loop-index l = l.tree ≡ l.initial.tree ++ map (parameter_item l.t) (take l.index-index l.parameters)
