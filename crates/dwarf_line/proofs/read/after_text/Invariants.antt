use Rattle.std.proofs.Common.{◌≡◌, length}
use Rattle.dwarf_line.specs.Fields.{behind_zero}
use Rattle.dwarf_line.proofs.read.after_text.Given as goal

abbrev pub invariant-loop-rest : goal.invariant-loop-rest
invariant-loop-rest l = behind_zero l.rest ≡ behind_zero l.bytes

abbrev pub decreases-loop-rest : goal.decreases-loop-rest
decreases-loop-rest l = length l.rest
