use Rattle.std.proofs.Common.{◌≡◌, ◌≤◌, drop}
use Rattle.read_line.specs.Bracket.{behind_bracket}
use Rattle.read_line.proofs.front.behind_bracket.Given as goal

abbrev pub invariant-loop-at : goal.invariant-loop-at
invariant-loop-at l = record {
  shallow : l.inner ≤ l.at;
  read : behind_bracket l.inner (drop l.at l.lexemes) ≡ behind_bracket 0 l.lexemes;
}
