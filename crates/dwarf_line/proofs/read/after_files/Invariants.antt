use Rattle.std.proofs.Common.{◌≡◌, ◌-◌}
use Rattle.dwarf_line.specs.FirstFault.{behind_files}
use Rattle.dwarf_line.proofs.read.after_files.Given as goal

abbrev pub invariant-loop : goal.invariant-loop
invariant-loop l = behind_files (l.count - l.counter) l.rest ≡ behind_files l.count l.bytes
