use Rattle.std.proofs.Common.{◌≡◌, ◌++◌, take}
use Rattle.std.specs.List.{flat_map}
use Rattle.listing_text.specs.Output.{function_text}
use Rattle.listing_text.proofs.functions.push_functions.Given as goal

abbrev pub invariant-loop-function : goal.invariant-loop-function
invariant-loop-function l = l.text ≡ l.initial.text ++ flat_map function_text (take l.function-index l.functions)
