use Rattle.std.proofs.Common.{◌≡◌, drop}
use Rattle.dwarf_line_table.specs.Program.{program_file}
use Rattle.dwarf_line_table.proofs.unit_file.unit_file.Given as goal

abbrev pub invariant-loop-function : goal.invariant-loop-function
invariant-loop-function l = program_file l.meta (drop l.function-index l.functions) ≡ program_file l.meta l.functions
