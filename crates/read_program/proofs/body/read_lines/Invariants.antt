use Rattle.std.proofs.Common.{◌≡◌, ◌≤◌, drop}
use Rattle.read_body.specs.Body.{IsCounted}
use Rattle.read_body.specs.Limits.{MAX_ITEMS}
use Rattle.read_program.specs.BodyLines.{body_behind, lines_of_body}
use Rattle.read_program.proofs.body.read_lines.Given as goal

abbrev pub invariant-loop-line : goal.invariant-loop-line
invariant-loop-line l = record {
  read : body_behind l.linked l.meta l.body (drop l.line-index l.lines) ≡ lines_of_body l.linked l.meta l.lines;
  counted : IsCounted l.body;
  few : l.body.items ≤ MAX_ITEMS;
}
