use Rattle.std.proofs.Common.{◌≡◌, ◌-◌}
use Rattle.dwarf_line.specs.FirstFault.{behind_dirs}
use Rattle.dwarf_line.proofs.read.after_dirs.Given as goal

abbrev pub invariant-loop : goal.invariant-loop
invariant-loop l = behind_dirs (l.count - l.counter) l.rest ≡ behind_dirs l.count l.bytes
