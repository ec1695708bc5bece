-- The first law of passes: a pass preserves the simulation of a source.
use Rattle.std.specs.Prelude.{◌≡◌, List, Bool, IsTrue}
use Rattle.sem_simulation.specs.mir_func.declared.debug_substitution.DebugSubstitution.{DebugSubstitution}
use Rattle.sem_simulation.specs.mir_func.Function.{Function}
use Rattle.sem_simulation.specs.mir_func.Sound.{AllItems, IsSound, HasForm}
use Rattle.sem_simulation.specs.mir_func.Resolve.{resolve}
use Rattle.sem_simulation.specs.sem_mir.Follow.{Follows, HasWholeEnds, IsRead}
use Rattle.pass_trait.specs.Change.{Change}

-- a source: a function as it was parsed, with its substitutions; it is sound, and its code has the required forms
pub record Source : Type 0 where
  pub function : Function
  pub subs : List DebugSubstitution
  pub sound : IsSound function
  pub read : IsRead function.blocks
  pub form : AllItems (λ i. HasForm i.kind) function.blocks

-- the function with its substitutions is simulated by the source, with the source's stack objects
pub record SimulatesSource (src : Source) (f : Function) (subs : List DebugSubstitution) : Type 0 where
  pub objects : f.objects ≡ src.function.objects
  pub follows : Follows src.function.objects src.function.blocks f.blocks (resolve src.subs) (resolve subs)

-- its block ends match those of the source
abbrev pub EndsAsSource : Source → Function → List DebugSubstitution → Type 0
EndsAsSource src f subs = HasWholeEnds src.function.objects src.function.blocks f.blocks (resolve src.subs) (resolve subs)

-- The pass preserves the simulation: if a source simulates the old function, with matched block ends if the pass requires
-- them (`asks`), it simulates the new one. And if `keeps`, matched block ends stay matched
pub record PreservesSimulation (asks keeps : Bool) (c : Change) : Type 0 where
  pub follows : (src : Source) → SimulatesSource src c.old c.old_subs → (IsTrue asks → EndsAsSource src c.old c.old_subs) →
      SimulatesSource src c.new c.new_subs
  pub ends : IsTrue keeps → (src : Source) → SimulatesSource src c.old c.old_subs → EndsAsSource src c.old c.old_subs → EndsAsSource src c.new c.new_subs
