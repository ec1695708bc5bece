use Rattle.std.proofs.Common.{◌≡◌, ◌++◌, take}
use Rattle.std.specs.List.{flat_map}
use Rattle.sem_machine.specs.Machine.{Machine}
use Rattle.sim_machine.specs.Kept.{StandsFor}
use Rattle.sim_trace.specs.Lines.{variable_text}
use Rattle.sim_trace.proofs.value.push_variables.Given as goal

abbrev pub invariant-loop-variable : goal.invariant-loop-variable
invariant-loop-variable l = (s : Machine) → StandsFor l.hart s → l.text ≡ l.initial.text ++ flat_map (variable_text s) (take l.variable-index l.variables)
