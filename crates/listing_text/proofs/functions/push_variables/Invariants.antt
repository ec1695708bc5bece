use Rattle.std.proofs.Common.{◌≡◌, ◌++◌, take}
use Rattle.std.specs.List.{flat_map}
use Rattle.listing_text.specs.Output.{variable_line}
use Rattle.listing_text.proofs.functions.push_variables.Given as goal

abbrev pub invariant-loop-variable : goal.invariant-loop-variable
invariant-loop-variable l = l.text ≡ l.initial.text ++ flat_map variable_line (take l.variable-index l.variables)
