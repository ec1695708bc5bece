-- What a list of passes keeps, by its first and the rest.
use Rattle.std.proofs.Common.{◌≡◌, ℕ, ◌+◌, ◌*◌, ◌<◌, ◌^◌, List, ◌∷◌, ◌++◌, sym, subst}
use Rattle.mir_func.specs.declared.debug_substitution.DebugSubstitution.{DebugSubstitution}
use Rattle.mir_func.specs.Function.{Function}
use Rattle.mir_func.specs.Limits.{MAX_SLOTS}
use Rattle.pass_trait.specs.Change.{change}
use Rattle.pass_trait.specs.declared.loss.Loss.{Loss}
use Rattle.pass_trait.specs.Simulation.{PreservesSimulation}
use Rattle.pass_trait.specs.Sizes.{greatest, greatest_number, item_count, KeepsSizes}
use Rattle.pass_trait.proofs.Composition.{following_then}
use Rattle.pass_list.specs.declared.kind.PassKind.{PassKind}
use Rattle.pass_manager.specs.Passes.{steps_of_pass, asks, keeps, factor, count}
use Rattle.pass_manager.specs.Passes.{passes_of, any_asks, all_keep, Fit, numbers_after, slots_after, KeepsGrowth}
use Rattle.pass_manager.specs.Told.{KeepsPass, KeepsPasses}
use Rattle.pass_manager.proofs.Row.{growth_then, later_numbers, later_slots}

module _ (passes : List PassKind) (p : PassKind) (ps : List PassKind) (is : passes ≡ p ∷ ps) (f : Function) (fs : List DebugSubstitution) where
  module _ (g : Function) (gs : List DebugSubstitution) where
    pub then_numbers : KeepsSizes (factor p) (count p) (change f fs g gs) → greatest_number f fs + numbers_after passes (item_count f) < 2 ^ 31 →
        greatest_number g gs + numbers_after ps (item_count g) < 2 ^ 31
    then_numbers x room =
        later_numbers p ps f g fs gs x
        (subst (λ (z : List PassKind). greatest_number f fs + numbers_after z (item_count f) < 2 ^ 31) is room)

    pub then_slots : KeepsSizes (factor p) (count p) (change f fs g gs) → greatest f.slots + MAX_SLOTS * slots_after passes < 2 ^ 31 →
        greatest g.slots + MAX_SLOTS * slots_after ps < 2 ^ 31
    then_slots x room =
        later_slots p ps f g fs gs x (subst (λ (z : List PassKind). greatest f.slots + MAX_SLOTS * slots_after z < 2 ^ 31) is room)

    module _ (h : Function) (hs : List DebugSubstitution) where
      pub all_follow : PreservesSimulation (asks p) (keeps p) (change f fs g gs) →
          (Fit ps → PreservesSimulation (any_asks ps) (all_keep ps) (change g gs h hs)) →
          Fit passes → PreservesSimulation (any_asks passes) (all_keep passes) (change f fs h hs)
      all_follow x y =
          subst (λ (z : List PassKind). Fit z → PreservesSimulation (any_asks z) (all_keep z) (change f fs h hs)) (sym is)
          (λ fit. following_then (asks p) (keeps p) (any_asks ps) (all_keep ps) f fs g gs h hs fit.0 x (y fit.1))

      pub all_told : (reserve : List ℕ) (a b told : List Loss) → told ≡ a ++ b →
          KeepsPass (steps_of_pass reserve p) (change f fs g gs) a → KeepsPasses (passes_of reserve ps) (change g gs h hs) b →
          KeepsPasses (passes_of reserve passes) (change f fs h hs) told
      all_told reserve a b told e x y =
          subst (λ (z : List PassKind). KeepsPasses (passes_of reserve z) (change f fs h hs) told) (sym is) (g, gs, a, b, x, y, e)

      pub all_growth : KeepsSizes (factor p) (count p) (change f fs g gs) → KeepsGrowth ps (change g gs h hs) → KeepsGrowth passes (change f fs h hs)
      all_growth x y =
          subst (λ (z : List PassKind). KeepsGrowth z (change f fs h hs)) (sym is) (growth_then p ps f fs g gs h hs x y)
