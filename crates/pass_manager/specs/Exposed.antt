-- The passes of a function, by what it exposes to other code.
use Rattle.std.specs.Prelude.{◌≡◌, ℕ, List, [], ◌∷◌, ◌++◌, map, filter, Bool, true, false, cond}
use Rattle.std.specs.List.{list_any}
use Rattle.global_registers.specs.Pass.{shared_step}
use Rattle.mir_exposure.specs.declared.exposure.Exposure.{Exposure}
use Rattle.mir_exposure.specs.declared.exposure.Exposure.TheVariants.{Nothing, Globals, Everything}
use Rattle.mir_func.specs.Function.{Function}
use Rattle.pass_list.specs.declared.kind.PassKind.{PassKind}
use Rattle.pass_list.specs.declared.kind.PassKind.TheVariants.{Copy, Remat, Spill, Dead, Fold}
use Rattle.pass_trait.specs.Causes.{is_named}
use Rattle.pass_trait.specs.Change.{Change}
use Rattle.pass_trait.specs.declared.loss.Loss.{Loss}
use Rattle.pass_trait.specs.declared.loss.Reason.TheVariants.{CallNamed}
use Rattle.pass_trait.specs.Rule.{register_lost}
use Rattle.pass_trait.specs.Steps.{PassStep}
use Rattle.spill_pass.specs.Reserve.{reserve_of}
use Rattle.pass_manager.specs.Passes.{passes_of}
use Rattle.pass_manager.specs.Told.{KeepsPasses}

-- The steps of each pass. While they run, calls and ends read the global registers of a function that exposes these. No pass runs on a function that exposes
-- everything.
abbrev pub exposed_passes : (reserve : List ℕ) → List PassKind → Exposure → List (List PassStep)
exposed_passes reserve passes Nothing = passes_of reserve passes
exposed_passes reserve passes Globals = (shared_step true ∷ []) ∷ (passes_of reserve passes ++ (shared_step false ∷ []) ∷ [])
exposed_passes reserve passes Everything = []

-- ---- losses that no step has

abbrev pub is_spill : PassKind → Bool
is_spill Copy = false
is_spill Remat = false
is_spill Spill = true
is_spill Dead = false
is_spill Fold = false

-- registers of the reserve that code names and that stay unspilled, in order
abbrev pub unspilled : (reserve : List ℕ) → Function → List Loss
unspilled reserve f = map (λ r. register_lost r CallNamed) (filter (is_named f) (reserve_of reserve))

-- If spilling is among the passes of a function that exposes everything, it leaves each register of the reserve: a call that returns twice may read any
abbrev pub left_exposed : (reserve : List ℕ) → List PassKind → Exposure → Function → List Loss
left_exposed reserve passes Nothing f = []
left_exposed reserve passes Globals f = []
left_exposed reserve passes Everything f = cond (list_any is_spill passes) (unspilled reserve f) []

-- what the passes of a function that exposes this much guarantee, with this report of losses
pub record KeepsExposed (reserve : List ℕ) (passes : List PassKind) (exposure : Exposure) (c : Change) (told : List Loss) : Type 0 where
  pub of_steps : List Loss
  pub kept : KeepsPasses (exposed_passes reserve passes exposure) c of_steps
  pub are : told ≡ of_steps ++ left_exposed reserve passes exposure c.new
