-- The debug law of folding with kills.
use Rattle.std.specs.Prelude.{◌↔◌, List, Contains}
use Rattle.mir_func.specs.declared.debug_substitution.DebugSubstitution.{DebugSubstitution}
use Rattle.mir_func.specs.Function.{Function}
use Rattle.mir_func.specs.Sound.{IsSound}
use Rattle.pass_trait.specs.declared.loss.Loss.{Loss}
use Rattle.pass_trait.specs.Change.{change}
use Rattle.pass_trait.specs.Debug.{KeepsItems}
use Rattle.pass_trait.specs.Order.{IsInOrder}
use Rattle.fold_targets.specs.Leads.{lead}
use Rattle.fold_rule_proof.specs.Kills.{IsFoldedWithKills}
use Rattle.fold_proof.specs.Lost.{all_lost}
use Rattle.fold_proof.specs.Debug.{fold_debug}

-- with all losses, in order, folding with kills satisfies the debug rule of folding
abbrev pub FoldedKeepsItems : Type 0
FoldedKeepsItems = (f g : Function) (subs : List DebugSubstitution) (losses : List Loss) → IsSound f → (h : IsFoldedWithKills f g) → IsInOrder losses →
    ((l : Loss) → Contains losses l ↔ Contains (all_lost h.folded.end h.was (lead f.blocks) f.blocks) l) →
    KeepsItems fold_debug (change f subs g subs) losses
