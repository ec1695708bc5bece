-- The debug law of copy propagation.
use Rattle.std.specs.Prelude.{List, [], ◌∷◌}
use Rattle.mir_func.specs.declared.debug_substitution.DebugSubstitution.{DebugSubstitution}
use Rattle.mir_func.specs.Function.{Function}
use Rattle.mir_func.specs.Sound.{IsSound}
use Rattle.pass_trait.specs.Change.{change}
use Rattle.pass_trait.specs.Steps.{KeepsSteps}
use Rattle.copyprop_rule.specs.Rule.{salvaged_function, salvaged_entries}
use Rattle.copyprop_proof.specs.Rule.{copy_step}

-- each debug value, DBG_PHI and number is kept, or substituted or replaced by a DBG_PHI, and nothing is lost
abbrev pub CopiesKeepItems : Type 0
CopiesKeepItems = (f : Function) (subs : List DebugSubstitution) → IsSound f →
    KeepsSteps (copy_step ∷ []) (change f subs (salvaged_function f subs) (salvaged_entries f subs)) []
