use Rattle.std.proofs.Common.{◌≡◌, take, filter}
use Rattle.mir_func.specs.SoundFrame.{SAVED}
use Rattle.frame_rule.specs.Rule.{is_set}
use Rattle.frame_lowering.proofs.saving.saved_registers.Given as goal

abbrev pub invariant-loop-n : goal.invariant-loop-n
invariant-loop-n l = l.saved ≡ filter (is_set l.blocks) (take l.n-index SAVED)
