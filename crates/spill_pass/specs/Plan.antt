-- The plan of spilling a function.
use Rattle.std.specs.Prelude.{◌≡◌, ℕ, List, ◌++◌}
use Rattle.mir_func.specs.declared.block.Block.{Block}
use Rattle.mir_func.specs.Function.{Function}
use Rattle.spill_proof.specs.pass_trait.declared.loss.Loss.{Loss}
use Rattle.spill_proof.specs.pass_trait.Order.{IsInOrder}
use Rattle.spill_code.specs.declared.spilling.Spilling.{Spilling}
use Rattle.spill_proof.specs.spill_debug.Lost.{AreScratchLosses}
use Rattle.spill_proof.specs.spill_select.Incoming.{is_among}
use Rattle.spill_proof.specs.spill_select.Left.{registers_left}
use Rattle.spill_proof.specs.spill_rule.Choice.{spilling_of}
use Rattle.spill_proof.specs.spill_rule.Rule.{Decides}
use Rattle.spill_pass.specs.declared.plan.SpillPlan.{SpillPlan}

-- it has the registers that are live into the function, and the rest is what the rule chooses
pub record IsPlan (reserve : List ℕ) (f : Function) (p : SpillPlan) : Type 0 where
  pub decides : Decides reserve f (is_among p.incoming)
  pub spilling : p.spilling ≡ spilling_of reserve (is_among p.incoming) f
  pub left : p.left ≡ registers_left reserve (is_among p.incoming) f

-- the losses to scratch registers, in order, and then the registers that aren't spilled
pub record AreAllLosses (s : Spilling) (blocks : List Block) (left losses : List Loss) : Type 0 where
  pub scratch : List Loss
  pub ordered : IsInOrder scratch
  pub each : AreScratchLosses s blocks scratch
  pub are : losses ≡ scratch ++ left
