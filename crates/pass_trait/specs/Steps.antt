-- A pass as a sequence of steps. Each step has a code rule and a debug rule, both about the same two functions.
use Rattle.std.specs.Prelude.{◌≡◌, List, [], ◌∷◌, ◌++◌}
use Rattle.sem_simulation.specs.mir_func.declared.debug_substitution.DebugSubstitution.{DebugSubstitution}
use Rattle.sem_simulation.specs.mir_func.Function.{Function}
use Rattle.sem_simulation.specs.mir_func.Sound.{IsSound}
use Rattle.sem_simulation.specs.mir_func.Strip.{stripped}
use Rattle.pass_trait.specs.declared.loss.Loss.{Loss}
use Rattle.pass_trait.specs.Change.{Change}
use Rattle.pass_trait.specs.Code.{CodeRule, AreAlike}
use Rattle.pass_trait.specs.Rule.{Rule}
use Rattle.pass_trait.specs.Debug.{KeepsItems}

-- a step: its rule for code, over functions without debug items, and its rule for debug items
pub record PassStep : Type 1 where
  pub code : CodeRule
  pub debug : Rule

-- every step's code rule has the property
abbrev pub EachCode : (CodeRule → Type 0) → List PassStep → Type 0
EachCode P [] = Unit {0}
EachCode P (s ∷ steps) = P s.code × EachCode P steps

-- the code rules composed, in order
abbrev pub MakesInTurn : List PassStep → CodeRule
MakesInTurn [] f g = g ≡ f
MakesInTurn (step ∷ steps) f h = (g : Function) × step.code f g × MakesInTurn steps g h

-- what a run of one step guarantees: a sound function, the code rule on both functions stripped of debug items, and the debug
-- rule
pub record KeepsStep (step : PassStep) (c : Change) (losses : List Loss) : Type 0 where
  pub sound : IsSound c.new
  pub code : step.code (stripped c.old) (stripped c.new)
  pub items : KeepsItems step.debug c losses

-- What a run of several steps guarantees: each step's guarantees in order, through intermediate functions with their
-- substitutions; the losses are concatenated
abbrev pub KeepsSteps : List PassStep → Change → List Loss → Type 0
KeepsSteps [] c losses = (c.new ≡ c.old) × (c.new_subs ≡ c.old_subs) × (losses ≡ [])
KeepsSteps (step ∷ steps) c losses = (f : Function) × (subs : List DebugSubstitution) × (here later : List Loss) ×
    KeepsStep step (record c { new = f; new_subs = subs }) here × KeepsSteps steps (record c { old = f; old_subs = subs }) later × (losses ≡ here ++ later)

-- The code after the steps is determined by their code rules from the code before them. So debug items don't affect code: from
-- two functions whose code is equal up to positions, whatever their debug items are, the steps make functions whose code is
-- equal up to positions; and from two with exactly the same code and origins they make two with the same code and origins
pub record MakeCodeAlone (steps : List PassStep) : Type 0 where
  pub made : (c : Change) (lost : List Loss) → KeepsSteps steps c lost → MakesInTurn steps (stripped c.old) (stripped c.new)
  pub alike : (c d : Change) (lost lost' : List Loss) → KeepsSteps steps c lost → KeepsSteps steps d lost' →
      AreAlike (stripped c.old) (stripped d.old) → AreAlike (stripped c.new) (stripped d.new)
  pub same : (c d : Change) (lost lost' : List Loss) → KeepsSteps steps c lost → KeepsSteps steps d lost' →
      stripped c.old ≡ stripped d.old → stripped c.new ≡ stripped d.new
