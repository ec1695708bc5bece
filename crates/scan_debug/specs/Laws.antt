-- The laws of the step.
use Rattle.std.specs.Prelude.{◌↔◌, ℕ, List, Contains, Option, Bool}
use Rattle.mir_func.specs.declared.debug_substitution.DebugSubstitution.{DebugSubstitution}
use Rattle.mir_func.specs.declared.position.Pos.{Pos}
use Rattle.mir_func.specs.Function.{Function}
use Rattle.mir_func.specs.Sound.{AllItems, HasForm, IsSound}
use Rattle.pass_trait.specs.declared.loss.Loss.{Loss}
use Rattle.pass_trait.specs.Change.{Change, change}
use Rattle.pass_trait.specs.Order.{IsInOrder}
use Rattle.pass_trait.specs.Sizes.{KeepsSizes}
use Rattle.pass_trait.specs.Steps.{KeepsStep}
use Rattle.scan_simulation.specs.scan_allocation.Allocation.{IsAllocation}
use Rattle.scan_simulation.specs.scan_rule.Rewrite.{allotted}
use Rattle.scan_simulation.specs.scan_rule.Step.{IsSilenced, DecidesSilence, allot_step}

-- the list's members are exactly what is lost of debug values and DBG_PHIs that become undef
abbrev pub AreSilencedLosses : Change → (given : ℕ → Option ℕ) → List Loss → Type 0
AreSilencedLosses c given losses = (l : Loss) → Contains losses l ↔ ((at : Pos) × IsSilenced c given at l)

-- a sound function whose code has the required forms, its allocation, and a test of where debug items become undef
pub record MayBeAllotted (reserve : List ℕ) (f : Function) (subs : List DebugSubstitution) (given : ℕ → Option ℕ) (silent : Pos → ℕ → Bool) : Type 0 where
  pub sound : IsSound f
  pub forms : AllItems (λ i. HasForm i.kind) f.blocks
  pub allocation : IsAllocation reserve f given
  pub decides : DecidesSilence (change f subs (allotted given silent f) subs) given silent

abbrev pub AllottedIsSound : Type 0
AllottedIsSound = (reserve : List ℕ) (f : Function) (subs : List DebugSubstitution) (given : ℕ → Option ℕ) (silent : Pos → ℕ → Bool) →
    MayBeAllotted reserve f subs given silent → IsSound (allotted given silent f)

abbrev pub AllottedKeepsSizes : Type 0
AllottedKeepsSizes = (reserve : List ℕ) (f : Function) (subs : List DebugSubstitution) (given : ℕ → Option ℕ) (silent : Pos → ℕ → Bool) →
    MayBeAllotted reserve f subs given silent → KeepsSizes 1 0 (change f subs (allotted given silent f) subs)

abbrev pub AllottedKeepsStep : Type 0
AllottedKeepsStep = (reserve : List ℕ) (f : Function) (subs : List DebugSubstitution) (given : ℕ → Option ℕ) (silent : Pos → ℕ → Bool) (losses : List Loss) →
    MayBeAllotted reserve f subs given silent → IsInOrder losses → AreSilencedLosses (change f subs (allotted given silent f) subs) given losses →
    KeepsStep (allot_step reserve) (change f subs (allotted given silent f) subs) losses
