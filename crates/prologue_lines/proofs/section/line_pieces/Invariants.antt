use Rattle.std.proofs.Common.{◌≡◌, ◌++◌, drop}
use Rattle.std.specs.List.{flat_map}
use Rattle.prologue_lines.specs.Pieces.{sequence_pieces, line_pieces}
use Rattle.prologue_lines.proofs.section.line_pieces.Given as goal

abbrev pub invariant-loop-sequence : goal.invariant-loop-sequence
invariant-loop-sequence l = l.pieces ++ flat_map (sequence_pieces l.text) (drop l.sequence-index l.t.sequences) ≡ line_pieces l.text l.t
