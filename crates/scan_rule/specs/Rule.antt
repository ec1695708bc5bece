-- The code rule of the step.
use Rattle.std.specs.Prelude.{◌≡◌, ℕ, List, Option, Bool, false}
use Rattle.mir_func.specs.declared.position.Pos.{Pos}
use Rattle.scan_allocation.specs.pass_trait.Code.{CodeRule}
use Rattle.scan_allocation.specs.Allocation.{IsAllocation}
use Rattle.scan_rule.specs.Rewrite.{allotted}

-- nothing becomes undef: of functions without debug items
abbrev pub nowhere : Pos → ℕ → Bool
nowhere p r = false

-- the virtual registers that the allocation gives physical ones are replaced
abbrev pub IsAllotted : (reserve : List ℕ) → CodeRule
IsAllotted reserve f g = (given : ℕ → Option ℕ) × IsAllocation reserve f given × (g ≡ allotted given nowhere f)
