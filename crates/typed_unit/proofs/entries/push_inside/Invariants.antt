use Rattle.std.proofs.Common.{◌≡◌, ◌++◌, map, take}
use Rattle.typed_unit.specs.Entries.{inner_item}
use Rattle.typed_unit.proofs.entries.push_inside.Given as goal

abbrev pub invariant-loop-item : goal.invariant-loop-item
invariant-loop-item l = l.tree ≡ l.initial.tree ++ map (inner_item l.t l.begin l.end) (take l.item-index l.inside)
