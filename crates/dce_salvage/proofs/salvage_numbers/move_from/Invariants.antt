use Rattle.std.proofs.Common.{◌≡◌, ◌≤◌, ◌++◌, length}
use Rattle.std.specs.Prelude.{reverse}
use Rattle.dce_salvage.proofs.salvage_numbers.move_from.Given as goal

abbrev pub invariant-moved : goal.invariant-moved
invariant-moved l = record {
  all : l.items.items ++ reverse l.done.items ≡ l.initial.items.items ++ reverse l.initial.done.items;
  within : l.at ≤ length l.items.items;
}

abbrev pub decreases-moved : goal.decreases-moved
decreases-moved l = length l.items.items
