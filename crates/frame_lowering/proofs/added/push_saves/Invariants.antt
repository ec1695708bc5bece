use Rattle.std.proofs.Common.{◌≡◌, ◌++◌, map, take}
use Rattle.mir_func.specs.SoundFrame.{saves}
use Rattle.frame_rule.specs.Rule.{added}
use Rattle.frame_lowering.proofs.added.push_saves.Given as goal

abbrev pub invariant-loop-s : goal.invariant-loop-s
invariant-loop-s l = l.items ≡ l.initial.items ++ map (λ s. added l.origin (saves s)) (take l.s-index l.saved)
