-- The steps of the run.
use Rattle.std.proofs.Common.{◌≡◌, List, [], ◌∷◌, refl, sym, append-nil}
use Rattle.mir_func.specs.declared.debug_substitution.DebugSubstitution.{DebugSubstitution}
use Rattle.mir_func.specs.Function.{Function}
use Rattle.mir_func.specs.Sound.{IsSound}
use Rattle.pass_trait.specs.declared.loss.Loss.{Loss}
use Rattle.pass_trait.specs.Change.{change}
use Rattle.pass_trait.specs.Steps.{KeepsSteps}
use Rattle.fold_proof.specs.fold_rule_proof.Kills.{IsFoldedWithKills}
use Rattle.fold_proof.proofs.fold_rule_proof.KillSound.{sound_killed}
use Rattle.fold_proof.specs.Follows.{KillsStrip}
use Rattle.fold_proof.specs.Debug.{fold_step}
use Rattle.fold_proof.specs.Keeps.{FoldedKeepsItems}
use Rattle.fold_pass.specs.Folded.{AreFoldedWithLosses}
use Rattle.fold_pass.proofs.Folding.{with_all_kills}

pub fold_steps : KillsStrip → FoldedKeepsItems → (f g : Function) (subs : List DebugSubstitution) (losses : List Loss) → IsSound f →
    AreFoldedWithLosses f.blocks g.blocks losses →
    g ≡ record f { blocks = g.blocks } → KeepsSteps (fold_step ∷ []) (change f subs g subs) losses
unfolding with_all_kills
fold_steps strips keeps f g subs losses sound h same =
    let kills : IsFoldedWithKills f g = with_all_kills f g losses h same in (
      g,
      subs,
      losses,
      [],
      record {
        sound = sound_killed f g sound kills;
        code = strips f g sound kills;
        items = keeps f g subs losses sound kills h.ordered h.each;
      },
      (refl, refl, refl),
      sym (append-nil losses),
    )
