use Rattle.std.proofs.Common.{◌≡◌, ◌++◌, take}
use Rattle.fold_undef.specs.Kill.{kills_in}
use Rattle.fold_undef.proofs.put.push_all.Given as goal

abbrev pub invariant-loop-i : goal.invariant-loop-i
invariant-loop-i l = l.kills ≡ l.initial.kills ++ kills_in (take l.i-index l.items)
