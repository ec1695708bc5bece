-- The pass's step.
use Rattle.std.specs.Prelude.{◌≡◌, []}
use Rattle.pass_trait.specs.Rule.{Rule}
use Rattle.pass_trait.specs.Steps.{PassStep}
use Rattle.remat_pass.specs.Remat.{IsRematerialized}

-- the debug rule: debug items are unchanged
abbrev pub remat_rule : Rule
remat_rule = record {
  loses = λ c at loss. ⊥;
  leaves = λ c r why. ⊥;
  spills = λ c r slot. ⊥;
  renames = λ c r now. ⊥;
  numbers = λ c at k. ⊥;
  salvages = λ c at p. ⊥;
  substitutes = λ c more. more ≡ [];
  kills = λ c block kills. kills ≡ [];
}

-- the pass's only step
abbrev pub remat_step : PassStep
remat_step = record { code = IsRematerialized; debug = remat_rule }
