-- The loss reports of a list of passes.
use Rattle.std.specs.Prelude.{◌≡◌, List, [], ◌∷◌, ◌++◌}
use Rattle.mir_func.specs.declared.debug_substitution.DebugSubstitution.{DebugSubstitution}
use Rattle.mir_func.specs.Function.{Function}
use Rattle.pass_trait.specs.declared.loss.Loss.{Loss}
use Rattle.pass_trait.specs.Change.{Change}
use Rattle.pass_trait.specs.Steps.{PassStep, KeepsSteps}
use Rattle.fold_pass.specs.pass_losses.Reported.{AreReported}

-- a run of a pass's steps, with this loss report
pub record KeepsPass (steps : List PassStep) (c : Change) (told : List Loss) : Type 0 where
  pub lost : List Loss
  pub kept : KeepsSteps steps c lost
  pub are_told : AreReported lost told

-- runs of passes in order: between each two passes is a function with its substitutions, and the reports are concatenated
abbrev pub KeepsPasses : List (List PassStep) → Change → (told : List Loss) → Type 0
KeepsPasses [] c told = (c.new ≡ c.old) × (c.new_subs ≡ c.old_subs) × (told ≡ [])
KeepsPasses (steps ∷ passes) c told = (f : Function) × (subs : List DebugSubstitution) × (here later : List Loss) ×
    KeepsPass steps (record c { new = f; new_subs = subs }) here × KeepsPasses passes (record c { old = f; old_subs = subs }) later × (told ≡ here ++ later)
