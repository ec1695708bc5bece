use Rattle.std.proofs.Common.{◌≡◌, ◌++◌, drop}
use Rattle.std.specs.List.{flat_map}
use Rattle.debug_placement.specs.Lines.{sequence_pieces, line_pieces}
use Rattle.debug_content.proofs.lines.line_pieces.Given as goal

abbrev pub invariant-loop-sequence : goal.invariant-loop-sequence
invariant-loop-sequence l = l.pieces ++ flat_map (sequence_pieces l.text) (drop l.sequence-index l.t.sequences) ≡ line_pieces l.text l.t
