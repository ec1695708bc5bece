use Rattle.std.proofs.Common.{◌≡◌, take, None}
use Rattle.pass_salvage.specs.SalvageAction.{first_definition}
use Rattle.pass_salvage.proofs.salvage_action.first_in.Given as goal

abbrev pub invariant-loop-o : goal.invariant-loop-o
invariant-loop-o l = first_definition l.call l.s (take l.o l.operands) ≡ None
