use Rattle.std.proofs.Common.{◌≡◌, ◌++◌, take}
use Rattle.std.specs.List.{flat_map}
use Rattle.report_function.specs.Text.{loss_line}
use Rattle.report_function.proofs.text.push_losses.Given as goal

abbrev pub invariant-loop-loss : goal.invariant-loop-loss
invariant-loop-loss l = l.text ≡ l.initial.text ++ flat_map loss_line (take l.loss-index l.losses)
