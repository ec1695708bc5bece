use Rattle.std.proofs.Common.{◌≡◌, ◌++◌, take}
use Rattle.std.specs.List.{flat_map}
use Rattle.report_function.specs.Text.{cover_line}
use Rattle.report_function.proofs.text.push_covers.Given as goal

abbrev pub invariant-loop-cover : goal.invariant-loop-cover
invariant-loop-cover l = l.text ≡ l.initial.text ++ flat_map (cover_line l.words) (take l.cover-index l.covers)
