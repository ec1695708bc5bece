-- The registers that code sets, as the analysis has them.
use Rattle.std.specs.Prelude.{◌≡◌, ℕ, ◌<◌, ◌≤◌, List, [], ◌∷◌, length, Option, Some}
use Rattle.rv64_instr.specs.DefsAndUses.{caller_saved}
use Rattle.scan_choice.specs.Given.{given_by}
use Rattle.scan_stale.specs.declared.transfer.Written.{Written}
use Rattle.scan_stale.specs.declared.transfer.Written.TheVariants.{Nothing, One, CallerSaved}

-- their numbers
abbrev pub registers_of : Written → List ℕ
registers_of Nothing = []
registers_of (One r) = r ∷ []
registers_of CallerSaved = caller_saved

-- registers get physical ones alone
abbrev pub AreReal : (given : ℕ → Option ℕ) → Type 0
AreReal given = (r q : ℕ) → given r ≡ Some q → q < 32

-- a table of physical registers, and something more
pub record IsSolving (given : List (Option ℕ)) (State : Type 0) : Type 0 where
  pub few : length given ≤ 4096
  pub real : AreReal (given_by given)
  pub state : State
