use Rattle.std.proofs.Common.{◌≡◌, ◌++◌, map, take}
use Rattle.read_declarations.specs.Stream.{piece_of}
use Rattle.read_declarations.proofs.stream.push_pieces.Given as goal

abbrev pub invariant-loop-token : goal.invariant-loop-token
invariant-loop-token l = l.pieces ≡ l.initial.pieces ++ map (piece_of l.at l.line) (take l.token-index l.tokens)
