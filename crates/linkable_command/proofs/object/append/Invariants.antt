use Rattle.std.proofs.Common.{◌≡◌, ◌++◌}
use Rattle.linkable_command.proofs.object.append.Given as goal

abbrev pub invariant-loop-symbol : goal.invariant-loop-symbol
invariant-loop-symbol l = l.all ≡ l.fn.all ++ l.yielded
