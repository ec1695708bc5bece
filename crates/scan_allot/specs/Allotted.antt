-- A function after the step, with its losses.
use Rattle.std.specs.Prelude.{◌≡◌, ℕ, List, Option, Bool}
use Rattle.mir_func.specs.declared.block.Block.{Block}
use Rattle.mir_func.specs.declared.debug_substitution.DebugSubstitution.{DebugSubstitution}
use Rattle.mir_func.specs.declared.position.Pos.{Pos}
use Rattle.mir_func.specs.Function.{Function}
use Rattle.pass_trait.specs.declared.loss.Loss.{Loss}
use Rattle.pass_trait.specs.Change.{change}
use Rattle.pass_trait.specs.Order.{IsInOrder}
use Rattle.scan_debug.specs.Laws.{AreSilencedLosses}
use Rattle.scan_debug.specs.scan_rule.Rewrite.{blocks_now, allotted}
use Rattle.scan_debug.specs.scan_rule.Step.{DecidesSilence}

-- these are the blocks where virtual registers are replaced so, and this is lost
pub record AreAllotted (f : Function) (subs : List DebugSubstitution) (given : ℕ → Option ℕ) (blocks : List Block) (losses : List Loss) : Type 0 where
  pub silent : Pos → ℕ → Bool
  pub decides : DecidesSilence (change f subs (allotted given silent f) subs) given silent
  pub are : blocks ≡ blocks_now given silent f.blocks
  pub ordered : IsInOrder losses
  pub silenced : AreSilencedLosses (change f subs (allotted given silent f) subs) given losses
