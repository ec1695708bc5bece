-- One round of dead code elimination with its debug items.
use Rattle.std.specs.Prelude.{◌≡◌, ◌↔◌, List, ◌++◌, Option, Some, None, Bool, true, Contains}
use Rattle.mir_func.specs.declared.debug_substitution.DebugSubstitution.{DebugSubstitution}
use Rattle.mir_func.specs.Function.{Function}
use Rattle.pass_trait.specs.declared.loss.Loss.{Loss}
use Rattle.pass_trait.specs.Order.{IsInOrder}
use Rattle.dce_salvage_proof.specs.dce_rule.Dead.{IsRound}
use Rattle.dce_sweep.specs.dce_analysis.Judge.{AreJudged}
use Rattle.dce_sweep.specs.Round.{IsTakenOut}
use Rattle.dce_salvage_proof.specs.SalvageLaws.{all_off, function_off}

-- the dead copies of a function lose their numbers, and then all dead code is removed; the losses are those of both, in order
pub record IsDeadRound (f : Function) (subs : List DebugSubstitution) (g : Function) (more : List DebugSubstitution) (losses : List Loss) : Type 0 where
  pub dead : List (List Bool)
  pub judged : AreJudged f dead
  pub entries : more ≡ (all_off f subs dead).subs
  pub any : Bool
  pub here : List Loss
  pub out : IsTakenOut (function_off f subs dead) g here any
  pub ordered : IsInOrder losses
  pub each : (l : Loss) → Contains losses l ↔ Contains ((all_off f subs dead).lost ++ here) l
  pub some : any ≡ true

-- or nothing is dead, and the function and its substitutions are unchanged
abbrev pub IsRoundWith : Function → List DebugSubstitution → Function → List DebugSubstitution → Option (List Loss) → Type 0
IsRoundWith f subs g more (Some losses) = IsDeadRound f subs g more losses
IsRoundWith f subs g more None = (g ≡ f) × (more ≡ subs) × IsRound f f
