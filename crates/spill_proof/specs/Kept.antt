-- What spilling guarantees.
use Rattle.std.specs.Prelude.{◌≡◌, ℕ, ◌+◌, List, [], ◌∷◌, ◌++◌, Contains, Bool, true, false}
use Rattle.mir_func.specs.declared.block.Block.{Block}
use Rattle.mir_func.specs.declared.debug_substitution.DebugSubstitution.{DebugSubstitution}
use Rattle.mir_func.specs.Function.{Function}
use Rattle.mir_func.specs.Sound.{AllItems, IsSound, HasForm}
use Rattle.pass_trait.specs.declared.loss.Loss.{Loss}
use Rattle.pass_trait.specs.Change.{change}
use Rattle.pass_trait.specs.Simulation.{PreservesSimulation}
use Rattle.pass_trait.specs.Order.{IsInOrder}
use Rattle.pass_trait.specs.Sizes.{greatest_number, KeepsSizes}
use Rattle.pass_trait.specs.Steps.{KeepsSteps}
use Rattle.spill_code.specs.declared.spilling.SlotAssignment.{SlotAssignment}
use Rattle.spill_code.specs.declared.spilling.Spilling.{Spilling}
use Rattle.spill_debug.specs.Lost.{AreScratchLosses}
use Rattle.spill_select.specs.Left.{registers_left}
use Rattle.spill_select.specs.spill_rule.Choice.{homes_of, spilling_of}
use Rattle.spill_select.specs.spill_rule.Chosen.{IsReservable}
use Rattle.spill_select.specs.spill_rule.Rule.{Decides}
use Rattle.spill_proof.specs.Whole.{whole}
use Rattle.spill_proof.specs.Step.{spill_step}
use Rattle.spill_proof.specs.Causes.{IsAscending}

-- the losses to scratch registers, in order; there are none if no register is spilled
abbrev pub AreTaken : List SlotAssignment → Spilling → List Block → List Loss → Type 0
AreTaken [] s blocks losses = losses ≡ []
AreTaken (h ∷ hs) s blocks losses = IsInOrder losses × AreScratchLosses s blocks losses

-- registers in ascending order that may be spilled
pub record IsReserve (reserve : List ℕ) : Type 0 where
  pub ascending : IsAscending reserve
  pub real : (r : ℕ) → Contains reserve r → IsReservable r

-- the function is spilled from the reserve, with fresh numbers from the one above the greatest on, and these are the losses: those to
-- scratch registers, then the registers that aren't spilled
pub record IsSpilledWithLosses (reserve : List ℕ) (f : Function) (subs : List DebugSubstitution) (new : Function) (losses : List Loss) : Type 0 where
  pub live : ℕ → Bool
  pub decides : Decides reserve f live
  pub made : new ≡ whole reserve live (greatest_number f subs + 1) f
  pub scratch : List Loss
  pub taken : AreTaken (homes_of reserve live f) (spilling_of reserve live f) f.blocks scratch
  pub are : losses ≡ scratch ++ registers_left reserve live f

-- for a sound function whose code has the required forms, spilling preserves the simulation, and keeps matched block ends matched
abbrev pub SpilledPreservesSimulation : Type 0
SpilledPreservesSimulation = (reserve : List ℕ) (f : Function) (subs : List DebugSubstitution) (new : Function) (losses : List Loss) → IsReserve reserve →
    IsSound f →
    AllItems (λ i. HasForm i.kind) f.blocks → IsSpilledWithLosses reserve f subs new losses → PreservesSimulation false true (change f subs new subs)

-- spilling is a run of its one step, with these losses
abbrev pub SpilledKeepsSteps : Type 0
SpilledKeepsSteps = (reserve : List ℕ) (f : Function) (subs : List DebugSubstitution) (new : Function) (losses : List Loss) → IsReserve reserve → IsSound f →
    AllItems (λ i. HasForm i.kind) f.blocks → IsSpilledWithLosses reserve f subs new losses →
    KeepsSteps (spill_step reserve ∷ []) (change f subs new subs) losses

-- spilling keeps the size bounds with factor 4 and count 1
abbrev pub SpilledKeepsSizes : Type 0
SpilledKeepsSizes = (reserve : List ℕ) (f : Function) (subs : List DebugSubstitution) (new : Function) (losses : List Loss) → IsReserve reserve →
    IsSpilledWithLosses reserve f subs new losses → KeepsSizes 4 1 (change f subs new subs)
