use Rattle.std.proofs.Common.{◌≡◌, ◌++◌, map, take}
use Rattle.mir_func.specs.SoundFrame.{restores}
use Rattle.frame_rule.specs.Rule.{added}
use Rattle.frame_lowering.proofs.added.push_restores.Given as goal

abbrev pub invariant-loop-s : goal.invariant-loop-s
invariant-loop-s l = l.items ≡ l.initial.items ++ map (λ s. added l.origin (restores s)) (take l.s-index l.saved)
