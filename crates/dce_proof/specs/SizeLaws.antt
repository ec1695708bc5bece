-- The size of a function after a round.
use Rattle.std.specs.Prelude.{◌≡◌, ◌+◌, ◌≤◌, List}
use Rattle.mir_func.specs.declared.debug_substitution.DebugSubstitution.{DebugSubstitution}
use Rattle.mir_func.specs.Function.{Function}
use Rattle.mir_func.specs.Sound.{IsSound}
use Rattle.pass_trait.specs.declared.loss.Loss.{Loss}
use Rattle.pass_trait.specs.Sizes.{greatest_number, item_count, code_count, call_count, IsPhysical}
use Rattle.dce_round.specs.Round.{IsDeadRound}

-- the second function, with its substitutions, is no larger: the greatest number grows by at most the number of removed
-- items
pub record IsNoLarger (f : Function) (subs : List DebugSubstitution) (g : Function) (more : List DebugSubstitution) : Type 0 where
  pub items : item_count g ≤ item_count f
  pub code : code_count g ≤ code_count f
  pub calls : call_count g ≤ call_count f
  pub physical : IsPhysical f → IsPhysical g
  pub numbers : greatest_number g more + item_count g ≤ greatest_number f subs + item_count f
  pub slots : g.slots ≡ f.slots

-- a round makes a function no larger
abbrev pub RoundSizes : Type 0
RoundSizes = (f g : Function) (subs more : List DebugSubstitution) (losses : List Loss) → IsSound f → IsDeadRound f subs g more losses →
    IsNoLarger f subs g more
