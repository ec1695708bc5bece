-- The laws of removing dead code.
use Rattle.std.specs.Prelude.{◌≡◌, ◌↔◌, ℕ, List, true}
use Rattle.rv64_instr.specs.declared.place.Place.{Place}
use Rattle.mir_func.specs.declared.position.Pos.{Pos}
use Rattle.mir_func.specs.declared.debug_substitution.DebugSubstitution.{DebugSubstitution}
use Rattle.mir_func.specs.Function.{Function}
use Rattle.mir_func.specs.Sound.{AllItems, IsSound, HasForm}
use Rattle.mir_func.specs.Strip.{stripped}
use Rattle.pass_trait.specs.Change.{change}
use Rattle.pass_trait.specs.Simulation.{Source, SimulatesSource}
use Rattle.dce_rule.specs.Dead.{Places, Ends, LiveAtEnd, IsRound}
use Rattle.dce_rule.specs.Wrong.{taken_out, IsWrongAt, IsClosed}
use Rattle.pass_trait.specs.declared.loss.Loss.{Loss}
use Rattle.pass_trait.specs.Debug.{KeepsItems}
use Rattle.pass_trait.specs.Sizes.{KeepsSizes}
use Rattle.pass_edits.specs.WeakSimulation.{WeakSimulation, PreservesWeakSimulation}
use Rattle.dce_rule.specs.RemovalDebugRule.{NoCopies, AreLosses, AreWrong, out_rule}

-- the test has exactly the places that are live out of each block of the function
abbrev pub AreLive : Ends → Function → Type 0
AreLive ends f = (b : ℕ) (x : Place) → (ends b x ≡ true) ↔ LiveAtEnd f b x

-- at every position the test has all places that are wrong there
abbrev pub Covers : (wrong : Pos → Places) → Ends → Function → Type 0
Covers wrong ends f = (p : Pos) (x : Place) → IsWrongAt ends f x p → wrong p x ≡ true

-- what is needed at the start of a block is live out of its predecessors, except x0
abbrev pub LiveIsClosed : Type 0
LiveIsClosed = (f : Function) (ends : Ends) → IsSound f → AreLive ends f → IsClosed ends f

-- for stripped functions removing dead code is a round, whichever places count as wrong
abbrev pub RoundIsStripped : Type 0
RoundIsStripped = (f : Function) (ends : Ends) (wrong : Pos → Places) → AreLive ends f → IsRound (stripped f) (stripped (taken_out wrong ends f))

-- what is preserved by removing dead code: soundness, the form of code, and the weak simulation
pub record KeepsWithoutDead (f : Function) (subs : List DebugSubstitution) (g : Function) : Type 0 where
  pub sound : IsSound g
  pub forms : AllItems (λ i. HasForm i.kind) g.blocks
  pub follows : PreservesWeakSimulation (change f subs g subs)

-- A sound function whose code has the required forms has both without its dead code, and this preserves the weak
-- simulation, if every wrong place is made undef
abbrev pub DeadCodeFollows : Type 0
DeadCodeFollows = (f : Function) (subs : List DebugSubstitution) (ends : Ends) (wrong : Pos → Places) → IsSound f → AllItems (λ i. HasForm i.kind) f.blocks →
    IsClosed ends f → Covers wrong ends f → KeepsWithoutDead f subs (taken_out wrong ends f)

-- once a round removes nothing from a function, a source that weakly simulates it simulates it
abbrev pub SettledFollows : Type 0
SettledFollows = (f : Function) (subs : List DebugSubstitution) → IsSound f → IsRound f f → (src : Source) → WeakSimulation src f subs →
    SimulatesSource src f subs

-- The debug rule and these losses hold, if the wrong places are known exactly and no dead copy has a number
abbrev pub DeadCodeKeepsItems : Type 0
DeadCodeKeepsItems = (f : Function) (subs : List DebugSubstitution) (ends : Ends) (wrong : Pos → Places) → IsSound f → AreWrong ends f wrong → NoCopies ends f →
    (losses : List Loss) → AreLosses ends f losses → KeepsItems (out_rule ends) (change f subs (taken_out wrong ends f) subs) losses

-- removing dead code enlarges nothing: no items, calls, debug instruction numbers or slots
abbrev pub DeadCodeKeepsSizes : Type 0
DeadCodeKeepsSizes = (f : Function) (subs : List DebugSubstitution) (ends : Ends) (wrong : Pos → Places) →
    KeepsSizes 1 0 (change f subs (taken_out wrong ends f) subs)
