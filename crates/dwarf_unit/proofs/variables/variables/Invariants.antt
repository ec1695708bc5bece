use Rattle.std.proofs.Common.{◌≡◌, drop}
use Rattle.std.specs.List.{flat_map}
use Rattle.mir_func.specs.Variables.{is_same_variable}
use Rattle.dwarf_line_table.specs.Files.{first_uses}
use Rattle.dwarf_unit.specs.Variables.{marks_of, variables_of_function}
use Rattle.dwarf_unit.proofs.variables.variables.Given as goal

abbrev pub invariant-loop-block : goal.invariant-loop-block
invariant-loop-block l = first_uses is_same_variable l.known (flat_map (λ b. marks_of b.items) (drop l.block-index l.blocks)) ≡ variables_of_function l.blocks
