use Rattle.std.proofs.Common.{◌≡◌, ◌++◌, drop}
use Rattle.std.specs.List.{flat_map}
use Rattle.debug_placement.specs.Frames.{description_pieces, frame_pieces}
use Rattle.debug_content.proofs.frames.frame_pieces.Given as goal

abbrev pub invariant-loop-function : goal.invariant-loop-function
invariant-loop-function l =
    l.pieces ++ flat_map (description_pieces l.frame l.text) (drop l.function-index l.functions) ≡ frame_pieces l.frame l.text l.undefined l.functions
