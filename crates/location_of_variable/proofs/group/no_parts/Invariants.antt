use Rattle.std.proofs.Common.{◌≡◌, length}
use Rattle.std.specs.Prelude.{All}
use Rattle.location_of_variable.specs.steps.Gathering.{IsEmptyGroup}
use Rattle.location_of_variable.proofs.group.no_parts.Given as goal

abbrev pub invariant-loop : goal.invariant-loop
invariant-loop l = record { count : length l.groups.items ≡ l.counter; none : All IsEmptyGroup l.groups.items }
