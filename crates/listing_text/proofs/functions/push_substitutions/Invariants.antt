use Rattle.std.proofs.Common.{◌≡◌, ◌++◌, drop}
use Rattle.std.specs.List.{flat_map}
use Rattle.listing_text.specs.Output.{substitution_line}
use Rattle.listing_text.proofs.functions.push_substitutions.Given as goal

abbrev pub invariant-loop-substitution : goal.invariant-loop-substitution
invariant-loop-substitution l = l.text ++ flat_map substitution_line (drop l.substitution-index l.substitutions) ≡ l.initial.text ++
    flat_map substitution_line l.substitutions
