use Rattle.std.proofs.Common.{◌≡◌, None, drop}
use Rattle.read_declarations.specs.Stream.{before_lines, stream_from, stream_of}
use Rattle.read_declarations.proofs.stream.stream.Given as goal

abbrev pub invariant-loop-at : goal.invariant-loop-at
invariant-loop-at l = before_lines l.pieces 0 None (stream_from l.at (drop l.at l.lines)) ≡ stream_of l.lines
