-- The size of a function after folding.
use Rattle.std.specs.Prelude.{List}
use Rattle.mir_func.specs.declared.debug_substitution.DebugSubstitution.{DebugSubstitution}
use Rattle.mir_func.specs.Function.{Function}
use Rattle.mir_func.specs.Sound.{IsSound}
use Rattle.pass_trait.specs.Change.{change}
use Rattle.pass_trait.specs.Sizes.{KeepsSizes}
use Rattle.fold_rule_proof.specs.Kills.{IsFoldedWithKills}

-- folding with kills keeps the size bounds with factor 1 and count 1
abbrev pub FoldedKeepsSizes : Type 0
FoldedKeepsSizes = (f g : Function) (subs : List DebugSubstitution) → IsSound f → IsFoldedWithKills f g → KeepsSizes 1 1 (change f subs g subs)
