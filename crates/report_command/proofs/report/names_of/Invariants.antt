use Rattle.std.proofs.Common.{◌≡◌, ◌++◌, map, drop}
use Rattle.report_command.proofs.report.names_of.Given as goal

abbrev pub invariant-loop-variable : goal.invariant-loop-variable
invariant-loop-variable l = l.names ++ map (λ v. v.name) (drop l.variable-index l.variables) ≡ map (λ v. v.name) l.variables
