use Rattle.std.proofs.Common.{◌≡◌, ◌++◌, take}
use Rattle.std.specs.List.{flat_map}
use Rattle.typed_unit.specs.Entries.{function_items}
use Rattle.typed_unit.proofs.entries.push_functions.Given as goal

abbrev pub invariant-loop-f : goal.invariant-loop-f
invariant-loop-f l = l.tree ≡ l.initial.tree ++ flat_map (function_items l.t l.begin l.end l.frame_base) (take l.f-index l.functions)
