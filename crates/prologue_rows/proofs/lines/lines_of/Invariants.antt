use Rattle.std.proofs.Common.{◌≡◌, ◌∷◌, ◌++◌, map, drop}
use Rattle.prologue_rows.specs.Words.{at_line}
use Rattle.prologue_rows.specs.Lines.{with_line}
use Rattle.prologue_rows.proofs.lines.lines_of.Given as goal

abbrev pub invariant-loop-word : goal.invariant-loop-word
invariant-loop-word l =
    l.lines ++ map (with_line l.own) (drop l.word-index l.front)
    ≡ at_line l.base 0 l.own ∷ map (with_line l.own) l.front
