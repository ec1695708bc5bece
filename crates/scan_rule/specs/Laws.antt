-- The laws of the rule on code.
use Rattle.std.specs.Prelude.{ℕ, List, Option, Bool}
use Rattle.mir_func.specs.declared.position.Pos.{Pos}
use Rattle.mir_func.specs.Function.{Function}
use Rattle.mir_func.specs.Strip.{stripped}
use Rattle.scan_allocation.specs.pass_trait.Code.{HasOneResult, SeesCodeAlone}
use Rattle.scan_allocation.specs.Allocation.{IsAllocation}
use Rattle.scan_rule.specs.Rewrite.{allotted}
use Rattle.scan_rule.specs.Rule.{IsAllotted}

abbrev pub AllotmentIsOne : Type 0
AllotmentIsOne = (reserve : List ℕ) → HasOneResult (IsAllotted reserve)

abbrev pub AllotmentSeesCodeAlone : Type 0
AllotmentSeesCodeAlone = (reserve : List ℕ) → SeesCodeAlone (IsAllotted reserve)

-- the code after the step is related to the code before it by the code rule
abbrev pub AllottedIsStripped : Type 0
AllottedIsStripped = (reserve : List ℕ) (f : Function) (given : ℕ → Option ℕ) (silent : Pos → ℕ → Bool) → IsAllocation reserve f given →
    IsAllotted reserve (stripped f) (stripped (allotted given silent f))
