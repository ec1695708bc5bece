-- A function after the step, with its losses.
use Rattle.std.specs.Prelude.{◌≡◌, ◌+◌, List}
use Rattle.mir_func.specs.declared.debug_substitution.DebugSubstitution.{DebugSubstitution}
use Rattle.mir_func.specs.Function.{Function}
use Rattle.pass_trait.specs.declared.loss.Loss.{Loss}
use Rattle.pass_trait.specs.Sizes.{greatest_number}
use Rattle.scan_slots.specs.scan_intervals.declared.interval.LiveInterval.{LiveInterval}
use Rattle.scan_slots.specs.Choice.{homes_left, settling_of, settled_whole}
use Rattle.scan_slots.specs.spill_proof.Kept.{AreTaken}

-- the registers of these intervals are in slots, with fresh numbers from the one above the greatest on, and these are the losses
pub record IsSettledWithLosses (intervals : List LiveInterval) (f : Function) (subs : List DebugSubstitution) (new : Function) (losses : List Loss) : Type 0 where
  pub made : new ≡ settled_whole intervals (greatest_number f subs + 1) f
  pub taken : AreTaken (homes_left f intervals) (settling_of f intervals) f.blocks losses
