use Rattle.std.proofs.Common.{◌≡◌, ◌++◌, take}
use Rattle.std.specs.List.{flat_map}
use Rattle.dwarf_info.specs.steps.Parts.{variable_bytes, in_table}
use Rattle.dwarf_info.proofs.write.push_variables.Given as goal

abbrev pub invariant-loop-variable : goal.invariant-loop-variable
invariant-loop-variable l = l.out.items ≡ l.fn.out.items ++ flat_map (variable_bytes (in_table l.offsets)) (take l.variable-index l.variables)
