use Rattle.std.proofs.Common.{◌≡◌, ◌++◌, map, take, drop}
use Rattle.copyprop_block.specs.Roots.{renamed_operand}
use Rattle.copyprop_block.proofs.roots.rename_all.Given as goal

abbrev pub invariant-loop-o : goal.invariant-loop-o
invariant-loop-o l = l.o-items ≡ map (renamed_operand l.roots) (take l.o-index l.initial.o-items) ++ drop l.o-index l.initial.o-items
