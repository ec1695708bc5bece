use Rattle.std.proofs.Common.{◌≡◌, drop}
use Rattle.read_debug_nodes.specs.Metadata.{with_lines, debug_metadata}
use Rattle.read_debug_nodes.proofs.metadata.read_debug_metadata.Given as goal

abbrev pub invariant-loop-line : goal.invariant-loop-line
invariant-loop-line l = with_lines l.metadata (drop l.line-index l.lines) ≡ debug_metadata l.lines
