-- The scan of a function.
use Rattle.std.specs.Prelude.{◌≡◌, ℕ, ◌+◌, List, [], ◌∷◌, ◌++◌, Option, Bool, true, false}
use Rattle.mir_func.specs.declared.debug_substitution.DebugSubstitution.{DebugSubstitution}
use Rattle.mir_func.specs.declared.position.Pos.{Pos}
use Rattle.mir_func.specs.Function.{Function}
use Rattle.mir_func.specs.Sound.{AllItems, HasForm, IsSound}
use Rattle.pass_trait.specs.declared.loss.Loss.{Loss}
use Rattle.pass_trait.specs.Change.{change}
use Rattle.pass_trait.specs.Code.{HasOneResult, SeesCodeAlone}
use Rattle.pass_trait.specs.Order.{IsInOrder}
use Rattle.pass_trait.specs.Simulation.{PreservesSimulation}
use Rattle.pass_trait.specs.Sizes.{greatest_number, KeepsSizes}
use Rattle.pass_trait.specs.Steps.{PassStep, EachCode, KeepsSteps}
use Rattle.scan_slots.specs.spill_proof.Kept.{AreTaken}
use Rattle.scan_slots.specs.scan_allocation.Allocation.{IsAllocation}
use Rattle.scan_debug.specs.Laws.{AreSilencedLosses}
use Rattle.scan_slots.specs.scan_intervals.declared.interval.LiveInterval.{LiveInterval}
use Rattle.scan_slots.specs.scan_rule.Rewrite.{allotted}
use Rattle.scan_slots.specs.scan_rule.Step.{DecidesSilence, allot_step}
use Rattle.scan_slots.specs.Choice.{homes_left, settling_of, settled_whole}
use Rattle.scan_slots.specs.Rule.{AreLeft}
use Rattle.scan_slots.specs.Step.{settle_step}

-- its steps
abbrev pub scan_steps : (reserve : List ℕ) → List PassStep
scan_steps reserve = allot_step reserve ∷ settle_step ∷ []

-- the function is scanned without the registers of the reserve, and these are the losses: what becomes undef as registers are replaced, and then what is
-- lost to scratch registers
pub record IsScanned (reserve : List ℕ) (f : Function) (subs : List DebugSubstitution) (new : Function) (losses : List Loss) : Type 0 where
  pub given : ℕ → Option ℕ
  pub allocation : IsAllocation reserve f given
  pub silent : Pos → ℕ → Bool
  pub decides : DecidesSilence (change f subs (allotted given silent f) subs) given silent
  pub wrong : List Loss
  pub ordered : IsInOrder wrong
  pub silenced : AreSilencedLosses (change f subs (allotted given silent f) subs) given wrong
  pub intervals : List LiveInterval
  pub left : AreLeft (allotted given silent f) intervals
  pub scratch : List Loss
  pub taken : AreTaken (homes_left (allotted given silent f) intervals) (settling_of (allotted given silent f) intervals) (allotted given silent f).blocks scratch
  pub made : new ≡ settled_whole intervals (greatest_number (allotted given silent f) subs + 1) (allotted given silent f)
  pub are : losses ≡ wrong ++ scratch

-- of a sound function whose code has the required forms
abbrev pub ScannedFollows : Type 0
ScannedFollows = (reserve : List ℕ) (f : Function) (subs : List DebugSubstitution) (new : Function) (losses : List Loss) → IsSound f →
    AllItems (λ i. HasForm i.kind) f.blocks → IsScanned reserve f subs new losses → PreservesSimulation false true (change f subs new subs)

abbrev pub ScannedKeepsSteps : Type 0
ScannedKeepsSteps = (reserve : List ℕ) (f : Function) (subs : List DebugSubstitution) (new : Function) (losses : List Loss) → IsSound f →
    AllItems (λ i. HasForm i.kind) f.blocks → IsScanned reserve f subs new losses → KeepsSteps (scan_steps reserve) (change f subs new subs) losses

abbrev pub ScannedKeepsSizes : Type 0
ScannedKeepsSizes = (reserve : List ℕ) (f : Function) (subs : List DebugSubstitution) (new : Function) (losses : List Loss) → IsSound f →
    AllItems (λ i. HasForm i.kind) f.blocks → IsScanned reserve f subs new losses → KeepsSizes 4 1 (change f subs new subs)

abbrev pub ScanIsOne : Type 0
ScanIsOne = (reserve : List ℕ) → EachCode HasOneResult (scan_steps reserve)

abbrev pub ScanSeesCodeAlone : Type 0
ScanSeesCodeAlone = (reserve : List ℕ) → EachCode SeesCodeAlone (scan_steps reserve)
