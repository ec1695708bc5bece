-- The weak simulation: the simulation without the condition on slot stores that were added at blocks' ends. One round may remove the
-- only load of a slot, and its store only becomes dead in a later round.
use Rattle.std.specs.Prelude.{◌≡◌, List, All, true, false}
use Rattle.mir_func.specs.declared.position.Pos.{Pos}
use Rattle.mir_func.specs.declared.block.Block.{Block}
use Rattle.mir_func.specs.declared.item.Item.{Item}
use Rattle.mir_func.specs.declared.debug_substitution.DebugSubstitution.{DebugSubstitution}
use Rattle.mir_func.specs.Function.{Function}
use Rattle.mir_func.specs.Graph.{Program, Here, block_start, program_of, Edge, Leads}
use Rattle.mir_func.specs.Resolve.{resolve}
use Rattle.pass_salvage.specs.sem_mir.State.{State}
use Rattle.pass_salvage.specs.sem_mir.Align.{ByItems, sync_point_at, AnyOrigin, RunsMatch}
use Rattle.pass_salvage.specs.sem_mir.InitialState.{first_of, IsInitialState}
use Rattle.pass_salvage.specs.sem_mir.Follow.{Among, InOrder, KindFits, StaysVolatile, MarkFits, OnRow, GoesTo}
use Rattle.pass_salvage.specs.pass_trait.Change.{Change}
use Rattle.pass_salvage.specs.pass_trait.Simulation.{Source, EndsAsSource}

-- the shape of a simulated function, without the condition on slot stores
pub record LooseShape (src f : List Block) (srcp fp : Program) : Type 0 where
  pub among : Among f src
  pub first : first_of f ≡ first_of src
  pub back : (q : Pos) → Leads srcp (block_start (first_of src)) q → Edge srcp q (block_start (first_of src)) →
      (p : Pos) × (i : Item) × (fp.fetch p ≡ Here i) × OnRow (GoesTo (first_of src)) i.kind
  pub order : All (λ b. InOrder b.id 0 b.items) f
  pub items : All (λ b. All (λ i. KindFits srcp i.kind b.source_end i.origin) b.items) f
  pub volatile : All (λ b. All (λ i. StaysVolatile srcp i.kind i.origin) b.items) f
  pub marks : All (λ b. All (λ i. MarkFits i.kind i.origin) b.items) f

-- the source weakly simulates the function with its substitutions
pub record WeakSimulation (src : Source) (f : Function) (subs : List DebugSubstitution) : Type 0 where
  pub objects : f.objects ≡ src.function.objects
  pub shape : LooseShape src.function.blocks f.blocks (program_of true src.function.blocks (resolve src.subs)) (program_of false f.blocks (resolve subs))
  pub runs : (s : State) → IsInitialState src.function.objects (first_of src.function.blocks) s →
      RunsMatch (program_of true src.function.blocks (resolve src.subs)) (program_of false f.blocks (resolve subs))
      (sync_point_at ByItems (program_of false f.blocks (resolve subs))) (AnyOrigin (sync_point_at ByItems (program_of false f.blocks (resolve subs)))) s s

-- the pass preserves the weak simulation, and keeps matched block ends matched
pub record PreservesWeakSimulation (c : Change) : Type 0 where
  pub follows : (src : Source) → WeakSimulation src c.old c.old_subs → WeakSimulation src c.new c.new_subs
  pub ends : (src : Source) → WeakSimulation src c.old c.old_subs → EndsAsSource src c.old c.old_subs → EndsAsSource src c.new c.new_subs
