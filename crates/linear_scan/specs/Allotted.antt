-- A function after the first step, with its losses.
use Rattle.std.specs.Prelude.{◌≡◌, ℕ, List, Option, Bool}
use Rattle.mir_func.specs.declared.debug_substitution.DebugSubstitution.{DebugSubstitution}
use Rattle.mir_func.specs.declared.position.Pos.{Pos}
use Rattle.mir_func.specs.Function.{Function}
use Rattle.pass_trait.specs.declared.loss.Loss.{Loss}
use Rattle.pass_trait.specs.Change.{change}
use Rattle.pass_trait.specs.Order.{IsInOrder}
use Rattle.scan_pass.specs.scan_allocation.Allocation.{IsAllocation}
use Rattle.scan_allot.specs.Laws.{AreSilencedLosses}
use Rattle.scan_allot.specs.Rewrite.{allotted}
use Rattle.scan_allot.specs.Step.{DecidesSilence}

-- virtual registers got physical ones, none of them of the reserve, and these are the losses
pub record IsAllottedWithLosses (reserve : List ℕ) (f : Function) (subs : List DebugSubstitution) (new : Function) (losses : List Loss) : Type 0 where
  pub given : ℕ → Option ℕ
  pub allocation : IsAllocation reserve f given
  pub silent : Pos → ℕ → Bool
  pub decides : DecidesSilence (change f subs (allotted given silent f) subs) given silent
  pub made : new ≡ allotted given silent f
  pub ordered : IsInOrder losses
  pub silenced : AreSilencedLosses (change f subs (allotted given silent f) subs) given losses
