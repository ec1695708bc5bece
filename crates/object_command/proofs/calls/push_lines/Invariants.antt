use Rattle.std.specs.List.{flat_map}
use Rattle.std.proofs.Common.{◌≡◌, ◌++◌, drop}
use Rattle.object_command.specs.Calls.{sites_in}
use Rattle.object_command.proofs.calls.push_lines.Given as goal

abbrev pub invariant-loop-line : goal.invariant-loop-line
invariant-loop-line l = l.sites ++ flat_map sites_in (drop l.line-index l.lines) ≡ l.fn.sites ++ flat_map sites_in l.lines
