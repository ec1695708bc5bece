use Rattle.std.proofs.Common.{◌≡◌, ◌++◌, map, take}
use Rattle.typed_unit.specs.Entries.{abstract_item}
use Rattle.typed_unit.proofs.entries.push_abstracts.Given as goal

abbrev pub invariant-loop-s : goal.invariant-loop-s
invariant-loop-s l = l.tree ≡ l.initial.tree ++ map (abstract_item l.t) (take l.s-index l.subprograms)
