-- The pass's step.
use Rattle.std.specs.Prelude.{◌≡◌, [], Bool}
use Rattle.pass_trait.specs.Rule.{Rule}
use Rattle.pass_trait.specs.Steps.{PassStep}
use Rattle.global_registers.specs.Shared.{IsSharedBy}

-- the debug rule: debug items are unchanged
abbrev pub shared_rule : Rule
shared_rule = record {
  loses = λ c at loss. ⊥;
  leaves = λ c r why. ⊥;
  spills = λ c r slot. ⊥;
  renames = λ c r now. ⊥;
  numbers = λ c at k. ⊥;
  salvages = λ c at p. ⊥;
  substitutes = λ c more. more ≡ [];
  kills = λ c block kills. kills ≡ [];
}

-- the pass's only step
abbrev pub shared_step : (shares : Bool) → PassStep
shared_step shares = record { code = IsSharedBy shares; debug = shared_rule }
