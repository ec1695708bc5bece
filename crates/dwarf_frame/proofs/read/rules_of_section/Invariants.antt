use Rattle.std.proofs.Common.{length}
use Rattle.dwarf_frame.proofs.ReadLoops.{FunctionsGoing}
use Rattle.dwarf_frame.proofs.read.rules_of_section.Given as goal

abbrev pub invariant-loop-rest : goal.invariant-loop-rest
invariant-loop-rest l = FunctionsGoing l.undefined l.bytes l.address l.rest l.found

abbrev pub decreases-loop-rest : goal.decreases-loop-rest
decreases-loop-rest l = length l.rest
