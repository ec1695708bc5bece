-- The laws of a function whose dead copies have lost their numbers.
use Rattle.std.specs.Prelude.{◌≡◌, ◌+◌, List, [], Bool}
use Rattle.mir_func.specs.declared.debug_substitution.DebugSubstitution.{DebugSubstitution}
use Rattle.mir_func.specs.Function.{Function}
use Rattle.mir_func.specs.Sound.{IsSound}
use Rattle.mir_func.specs.Strip.{stripped}
use Rattle.pass_trait.specs.Change.{change}
use Rattle.pass_trait.specs.Sizes.{greatest_number}
use Rattle.pass_edits.specs.WeakSimulation.{PreservesWeakSimulation}
use Rattle.dce_rule.specs.Same.{SameBlocks}
use Rattle.dce_salvage.specs.SalvageBlocks.{BlocksSoFar, salvage_blocks}

-- the initial state: the first fresh number is above all numbers
abbrev pub begins_off : Function → List DebugSubstitution → BlocksSoFar
begins_off f subs = record { blocks = []; subs = subs; fresh = greatest_number f subs + 1; lost = [] }

-- the state once all dead copies have lost their numbers
abbrev pub all_off : Function → List DebugSubstitution → (dead : List (List Bool)) → BlocksSoFar
all_off f subs dead = salvage_blocks dead f.blocks (begins_off f subs)

-- the function in that state
abbrev pub function_off : Function → List DebugSubstitution → (dead : List (List Bool)) → Function
function_off f subs dead = record f { blocks = (all_off f subs dead).blocks }

-- this keeps the function sound and its code the same, and preserves the weak simulation
pub record KeepsOff (f : Function) (subs : List DebugSubstitution) (dead : List (List Bool)) : Type 0 where
  pub sound : IsSound (function_off f subs dead)
  pub same : SameBlocks f.blocks (all_off f subs dead).blocks
  pub stripped_is : stripped (function_off f subs dead) ≡ stripped f
  pub follows : PreservesWeakSimulation (change f subs (function_off f subs dead) (all_off f subs dead).subs)

-- whichever items count as dead
abbrev pub NumbersGoOff : Type 0
NumbersGoOff = (f : Function) (subs : List DebugSubstitution) (dead : List (List Bool)) → IsSound f → KeepsOff f subs dead
