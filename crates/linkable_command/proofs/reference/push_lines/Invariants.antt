use Rattle.std.specs.List.{flat_map}
use Rattle.std.proofs.Common.{◌≡◌, ◌++◌, drop}
use Rattle.linkable_command.specs.References.{references_in}
use Rattle.linkable_command.proofs.reference.push_lines.Given as goal

abbrev pub invariant-loop-line : goal.invariant-loop-line
invariant-loop-line l = l.made ++ flat_map references_in (drop l.line-index l.lines) ≡ l.fn.made ++ flat_map references_in l.lines
