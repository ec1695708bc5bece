use Rattle.std.proofs.Common.{◌≡◌, ◌++◌, take, drop, None}
use Rattle.read_lexer.specs.Comment.{before}
use Rattle.read_lexer.proofs.comment.before.Given as goal

abbrev pub invariant-loop-at : goal.invariant-loop-at
invariant-loop-at l = take l.at l.line ++ before l.mark l.open_quote (drop l.at l.line) ≡ before l.mark None l.line
