-- The required locations depend only on the numbers and the items of blocks.
use Rattle.std.specs.Prelude.{◌≡◌, List, map, Option}
use Rattle.rv64_instr.specs.declared.place.Place.{Place}
use Rattle.mir_func.specs.declared.block.Block.{Block}
use Rattle.mir_func.specs.declared.debug_substitution.OperandPair.{OperandPair}
use Rattle.mir_func.specs.declared.position.Pos.{Pos}
use Rattle.mir_func.specs.declared.variable.VarId.{VarId}
use Rattle.mir_func.specs.Graph.{block_start, framed_program}
use Rattle.mir_func.specs.Sound.{contents_of}
use Rattle.sem_mir.specs.PreferredLocation.{IsPreferredLocation}

-- In two functions with their frames whose blocks have the same numbers and items, the same locations are required.
abbrev pub ContentsTellWanted : Type 0
ContentsTellWanted = (blocks others : List Block) (resolve : OperandPair → Option OperandPair) → map contents_of blocks ≡ map contents_of others →
    (v : VarId) (p : Pos) (place : Place) → IsPreferredLocation (framed_program blocks resolve) (block_start 0) v p place →
    IsPreferredLocation (framed_program others resolve) (block_start 0) v p place
