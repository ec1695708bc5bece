-- The runs of a function with its frame.
use Rattle.std.specs.Prelude.{List, Option, true}
use Rattle.mir_func.specs.declared.block.Block.{Block}
use Rattle.mir_func.specs.declared.debug_substitution.OperandPair.{OperandPair}
use Rattle.mir_func.specs.Function.{Function}
use Rattle.mir_func.specs.Graph.{block_start, program_of, framed_program}
use Rattle.mir_func.specs.Sound.{AllItems, IsSound, HasForm}
use Rattle.sem_mir.specs.State.{State}
use Rattle.sem_mir.specs.Align.{ByItems, sync_point_at, First, RunsMatch}
use Rattle.sem_mir.specs.InitialState.{IsInitialState, first_of}
use Rattle.sem_mir.specs.Follow.{Follows}
use Rattle.frame_rule.specs.Rule.{framed_of}

-- a source that simulates a function simulates it with its frame, over code items, where the source stops at its first
-- arrival at each position
abbrev pub FrameFollows : Type 0
FrameFollows = (src : List Block) (f : Function) (subs fsubs : OperandPair → Option OperandPair) → IsSound f → AllItems (λ i. HasForm i.kind) f.blocks →
    Follows f.objects src f.blocks subs fsubs → (s : State) → IsInitialState f.objects (first_of src) s →
    let g = framed_program (framed_of f).blocks fsubs in
    RunsMatch (program_of true src subs) g (sync_point_at ByItems g) First s (record { pos = block_start 0; core = s.core })
