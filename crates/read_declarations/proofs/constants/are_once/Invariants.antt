use Rattle.std.proofs.Common.{take}
use Rattle.read_declarations.proofs.Once.{Seen, Apart}
use Rattle.read_declarations.proofs.constants.are_once.Given as goal

abbrev pub invariant-loop-line : goal.invariant-loop-line
invariant-loop-line l = record {
  seen : Seen l.keys (take l.line-index l.lines);
  apart : Apart (take l.line-index l.lines);
}
