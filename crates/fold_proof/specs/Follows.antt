-- What folding with kills preserves.
use Rattle.std.specs.Prelude.{List, true, false}
use Rattle.mir_func.specs.declared.debug_substitution.DebugSubstitution.{DebugSubstitution}
use Rattle.mir_func.specs.Function.{Function}
use Rattle.mir_func.specs.Sound.{AllItems, IsSound, HasForm}
use Rattle.mir_func.specs.Strip.{stripped}
use Rattle.pass_trait.specs.Change.{change}
use Rattle.pass_trait.specs.Simulation.{PreservesSimulation}
use Rattle.fold_rule.specs.Rule.{IsFolded}
use Rattle.fold_rule_proof.specs.Kills.{IsFoldedWithKills}

-- folding with kills preserves the simulation, if block ends are matched
abbrev pub FoldedFollows : Type 0
FoldedFollows = (f g : Function) (subs : List DebugSubstitution) → IsSound f → AllItems (λ i. HasForm i.kind) f.blocks → IsFoldedWithKills f g →
    PreservesSimulation true false (change f subs g subs)

-- without debug items there are no kills either: folding with kills and then stripping is the same as stripping and
-- then folding
abbrev pub KillsStrip : Type 0
KillsStrip = (f g : Function) → IsSound f → IsFoldedWithKills f g → IsFolded (stripped f) (stripped g)
