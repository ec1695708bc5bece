use Rattle.std.proofs.Common.{◌≡◌, ◌++◌, take}
use Rattle.std.specs.List.{flat_map}
use Rattle.listing_text.specs.Output.{implicit_text}
use Rattle.listing_text.proofs.line.push_implicits.Given as goal

abbrev pub invariant-loop-operand : goal.invariant-loop-operand
invariant-loop-operand l = l.text ≡ l.initial.text ++ flat_map implicit_text (take l.operand-index l.operands)
