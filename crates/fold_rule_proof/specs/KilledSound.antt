-- Kills keep a function sound.
use Rattle.mir_func.specs.Function.{Function}
use Rattle.mir_func.specs.Sound.{IsSound}
use Rattle.fold_rule_proof.specs.Kills.{IsFoldedWithKills}

-- a sound function is sound after folding with kills
abbrev pub KilledIsSound : Type 0
KilledIsSound = (f g : Function) → IsSound f → IsFoldedWithKills f g → IsSound g
