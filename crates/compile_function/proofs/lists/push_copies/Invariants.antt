use Rattle.std.proofs.Common.{◌≡◌, ◌++◌, drop}
use Rattle.compile_function.proofs.lists.push_copies.Given as goal

abbrev pub invariant-loop-ranges : goal.invariant-loop-ranges
invariant-loop-ranges l = l.lists ++ drop l.ranges-index l.more ≡ l.initial.lists ++ l.more
