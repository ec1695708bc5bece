-- Classes at the start of a block, from its live-in values.
use Rattle.std.specs.Prelude.{◌≡◌, ℕ, ◌<◌, true, List, length, map, slice_index}
use Rattle.mir_func.specs.declared.variable.VarId.{VarId}
use Rattle.mir_func.specs.Graph.{Program, block_start}
use Rattle.value_solver.specs.declared.tracked.Tracked.{Tracked}
use Rattle.value_solver.specs.declared.entry.BlockEntry.{BlockEntry}
use Rattle.value_solver.specs.Entry.{thing, IsEntry}
use Rattle.value_proof.specs.Classes.{Classes, AreClasses}
use Rattle.value_proof.specs.PreferredByClass.{AreEnoughFor}
use Rattle.value_tracker.specs.Things.{AreThings, Settle, settled_at}

-- The live-in values of a reached block define classes of the tracked entities at its start.
abbrev pub EntriesGiveClasses : Type 0
EntriesGiveClasses = (g : Program) (variables : List VarId) (things : List Tracked) (b : ℕ) (e : BlockEntry) (settled : List ℕ) →
    AreThings variables things → AreEnoughFor g (map thing things) → IsEntry g things b e → e.reached ≡ true → length settled ≡ length e.classes →
    ((i : ℕ) → i < length e.classes → slice_index settled i ≡ settled_at e.classes e.given i) →
    (class : Classes) × AreClasses g (block_start 0) (block_start b) (map thing things) class × Settle things settled class
