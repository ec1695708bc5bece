use Rattle.std.proofs.Common.{◌≡◌, drop}
use Rattle.mir_func.specs.Variables.{is_same_variable}
use Rattle.dwarf_line_table.specs.Files.{first_uses}
use Rattle.dwarf_unit.specs.Variables.{marks_of}
use Rattle.dwarf_unit.proofs.variables.Known.add_all.Given as goal

abbrev pub invariant-loop-item : goal.invariant-loop-item
invariant-loop-item l = first_uses is_same_variable l.self (marks_of (drop l.item-index l.items)) ≡ first_uses is_same_variable l.initial.self
    (marks_of l.items)
