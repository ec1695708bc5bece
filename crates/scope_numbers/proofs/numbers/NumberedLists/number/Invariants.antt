use Rattle.std.proofs.Common.{drop}
use Rattle.scope_numbers.proofs.Turns.{AreNumbered}
use Rattle.scope_numbers.proofs.numbers.NumberedLists.number.Given as goal

abbrev pub invariant-loop-item : goal.invariant-loop-item
invariant-loop-item l =
    AreNumbered l.function l.scopes l.items (drop l.item-index l.items) l.initial.self.lists l.self.lists l.initial.self.ranges l.self.ranges l.made
