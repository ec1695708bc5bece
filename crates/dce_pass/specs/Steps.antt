-- Rounds as the steps of a pass.
use Rattle.std.specs.Prelude.{ℕ, zero, suc, ◌^◌, ◌<◌, List, [], ◌∷◌}
use Rattle.mir_func.specs.declared.debug_substitution.DebugSubstitution.{DebugSubstitution}
use Rattle.mir_func.specs.Function.{Function}
use Rattle.mir_func.specs.Sound.{IsSound}
use Rattle.mir_func.specs.Strip.{stripped}
use Rattle.pass_trait.specs.declared.loss.Loss.{Loss}
use Rattle.pass_trait.specs.Change.{Change, change}
use Rattle.pass_trait.specs.Rule.{Rule}
use Rattle.pass_trait.specs.Sizes.{code_count, item_count}
use Rattle.pass_trait.specs.Steps.{PassStep, KeepsSteps}
use Rattle.dce_proof.specs.dce_rule.Dead.{IsRound, IsThinnedOut}
use Rattle.dce_pass.specs.Rounds.{AreDeadRounds}
use Rattle.dce_proof.specs.DebugRule.{dead_rule}

-- the same step n times
abbrev pub repeated : ℕ → PassStep → List PassStep
repeated zero step = []
repeated (suc n) step = step ∷ repeated n step

-- a round as a step
abbrev pub round_step : Rule → PassStep
round_step rule = record { code = IsRound; debug = rule }

-- more rounds than any function with less than 2^31 code items needs
unfoldable pub most_rounds : ℕ
most_rounds = 2 ^ 31

-- the steps of all rounds
abbrev pub dead_steps : List PassStep
dead_steps = repeated most_rounds (round_step dead_rule)

-- complete rounds are a run of these steps
abbrev pub RoundsKeepSteps : Type 0
RoundsKeepSteps = (f g : Function) (subs more : List DebugSubstitution) (losses : List Loss) → IsSound f → code_count f < 2 ^ 31 →
    AreDeadRounds f subs g more losses → KeepsSteps dead_steps (change f subs g more) losses

-- what has taken these steps is what rounds leave until one removes nothing
abbrev pub StepsThinOut : Type 0
StepsThinOut = (c : Change) (losses : List Loss) → item_count (stripped c.old) < 2 ^ 31 → KeepsSteps dead_steps c losses →
    IsThinnedOut (stripped c.old) (stripped c.new)
