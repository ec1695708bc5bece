-- The runs of a folded function.
use Rattle.std.specs.Prelude.{◌≡◌, Option, false, All}
use Rattle.mir_func.specs.declared.debug_substitution.OperandPair.{OperandPair}
use Rattle.mir_func.specs.declared.item.Item.{Item}
use Rattle.mir_func.specs.declared.position.Pos.{Pos}
use Rattle.mir_func.specs.declared.position.Origin.TheVariants.{Kept}
use Rattle.mir_func.specs.Function.{Function}
use Rattle.mir_func.specs.Sound.{AllItems, IsSound, HasForm}
use Rattle.mir_func.specs.Graph.{Here, Program, program_of, block_start}
use Rattle.sem_mir.specs.State.{State}
use Rattle.sem_mir.specs.Align.{ByItems, ByEnds, sync_point_at, AnyOrigin, RunsMatch}
use Rattle.sem_mir.specs.InitialState.{first_of}
use Rattle.sem_mir.specs.Follow.{InOrder, OnRow, IsEnd}
use Rattle.fold_rule_proof.specs.Kills.{IsFoldedWithKills}

-- branches, jumps and returns have `Kept` origins
abbrev pub EndsAreKept : Program → Type 0
EndsAreKept f = (q : Pos) (j : Item) → f.fetch q ≡ Here j → OnRow IsEnd j.kind → (p : Pos) × (j.origin ≡ Kept p)

-- if the source simulates the function from the start of its first block with observation points at code and at block ends,
-- it simulates the folded one with observation points at code
abbrev pub FoldedRunsAlong : Type 0
FoldedRunsAlong = (f g : Function) (src : Program) (resolve : OperandPair → Option OperandPair) (s : State) → IsSound f →
    AllItems (λ i. HasForm i.kind) f.blocks → IsFoldedWithKills f g → EndsAreKept (program_of false f.blocks resolve) →
    All (λ b. InOrder b.id 0 b.items) f.blocks →
    s.pos ≡ block_start (first_of f.blocks) →
    RunsMatch src (program_of false f.blocks resolve) (sync_point_at ByEnds (program_of false f.blocks resolve))
    (AnyOrigin (sync_point_at ByEnds (program_of false f.blocks resolve))) s s →
    RunsMatch src (program_of false g.blocks resolve) (sync_point_at ByItems (program_of false g.blocks resolve))
    (AnyOrigin (sync_point_at ByItems (program_of false g.blocks resolve))) s s
