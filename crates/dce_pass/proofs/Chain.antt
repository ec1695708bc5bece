-- Rounds are steps one after the other; what is left of the steps changes nothing.
use Rattle.std.proofs.Common.{◌≡◌, ℕ, zero, suc, ◌≤◌, ◌^◌, List, [], refl, arith}
use Rattle.mir_func.specs.declared.debug_substitution.DebugSubstitution.{DebugSubstitution}
use Rattle.mir_func.specs.Function.{Function}
use Rattle.mir_func.specs.Sound.{IsSound}
use Rattle.pass_trait.specs.declared.loss.Loss.{Loss}
use Rattle.pass_trait.specs.Change.{change}
use Rattle.pass_trait.specs.Sizes.{code_count}
use Rattle.pass_trait.specs.Steps.{KeepsStep, KeepsSteps}
use Rattle.dce_proof.specs.dce_rule.Dead.{IsRound}
use Rattle.dce_proof.specs.DebugRule.{dead_rule}
use Rattle.dce_proof.proofs.Whole.{round_keeps}
use Rattle.dce_proof.proofs.Idle.{idle_keeps}
use Rattle.dce_pass.proofs.Follows.{round_follows, round_code}
use Rattle.dce_pass.specs.Rounds.{AreDeadRounds, ended, and_round}
use Rattle.dce_pass.proofs.Keeps.{settled_stripped}
use Rattle.dce_pass.specs.Steps.{repeated, round_step, most_rounds, dead_steps, RoundsKeepSteps}

pub most_is : most_rounds ≡ 2 ^ 31
unfolding most_rounds
most_is = refl

idle_step : (f : Function) (subs : List DebugSubstitution) → IsSound f → IsRound f f → KeepsStep (round_step dead_rule) (change f subs f subs) []
idle_step f subs sound r = record { sound = sound; code = settled_stripped f r; items = idle_keeps f subs sound r }

idle_steps : (n : ℕ) (f : Function) (subs : List DebugSubstitution) → IsSound f → IsRound f f →
    KeepsSteps (repeated n (round_step dead_rule)) (change f subs f subs) []
idle_steps zero f subs sound r = (refl, refl, refl)
idle_steps (suc n) f subs sound r = (f, subs, [], [], idle_step f subs sound r, idle_steps n f subs sound r, refl)

pub steps : (n : ℕ) {f g : Function} {subs more : List DebugSubstitution} {losses : List Loss} → IsSound f → code_count f ≤ n →
    AreDeadRounds f subs g more losses →
    KeepsSteps (repeated n (round_step dead_rule)) (change f subs g more) losses
steps n {f} {g} {subs} {more} sound le (ended r) = idle_steps n f subs sound r
steps zero {f} {g} {subs} {more} sound le (and_round h mid here r rest) =
    let less = (round_code f h subs mid here sound r).1 in absurd (omega (arith, less, le))
steps (suc n) {f} {g} {subs} {more} sound le (and_round {later = later} h mid here r rest) =
    let less = (round_code f h subs mid here sound r).1 in
    let next : IsSound h = (round_follows f h subs mid here sound r).0 in (
      h,
      mid,
      here,
      later,
      record { sound = next; code = (round_code f h subs mid here sound r).0; items = round_keeps f h subs mid here sound r },
      steps n next (omega (arith, less, le)) rest,
      refl,
    )

pub rounds_keep_steps : RoundsKeepSteps
rounds_keep_steps f g subs more losses sound less rounds =
    let most : most_rounds ≡ 2147483648 = most_is in
    steps most_rounds sound (omega (arith, less, most)) rounds
