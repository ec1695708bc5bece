-- The registers live into the function are the same with and without debug items.
use Rattle.std.specs.Prelude.{◌≡◌, ℕ, List, Bool}
use Rattle.mir_func.specs.Function.{Function}
use Rattle.mir_func.specs.Strip.{stripped}
use Rattle.spill_select.specs.spill_rule.Rule.{Decides}

-- a test that is right for the function is right for the function without debug items
abbrev pub AliveBare : Type 0
AliveBare = (reserve : List ℕ) (live : ℕ → Bool) (f : Function) → Decides reserve f live → Decides reserve (stripped f) live

-- a test that is right for the function is right for every function with the same code
abbrev pub AliveAlike : Type 0
AliveAlike = (reserve : List ℕ) (live : ℕ → Bool) (f g : Function) → stripped g ≡ stripped f → Decides reserve f live → Decides reserve g live
