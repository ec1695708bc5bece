use Rattle.std.proofs.Common.{◌≡◌, ◌-◌, ◌≤◌, length, drop}
use Rattle.read_lexer.specs.Line.{tokens_from, tokens_of}
use Rattle.read_lexer.proofs.Scan.{behind}
use Rattle.read_lexer.proofs.lexer.tokens.Given as goal

abbrev pub invariant-loop-at : goal.invariant-loop-at
invariant-loop-at l = record {
  within : l.at ≤ length l.line;
  read : behind l.tokens (tokens_from l.floats l.at 0 (drop l.at l.line)) ≡ tokens_of l.floats l.line;
}

abbrev pub decreases-loop-at : goal.decreases-loop-at
decreases-loop-at l = length l.line - l.at
