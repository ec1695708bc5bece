use Rattle.std.proofs.Common.{length}
use Rattle.dwarf_frame.proofs.ReadLoops.{RowsGoing}
use Rattle.dwarf_frame.proofs.read.rules_of_rows.Given as goal

abbrev pub invariant-loop-before : goal.invariant-loop-before
invariant-loop-before l = RowsGoing l.fn.range l.bytes l.address l.before l.rest l.rules

abbrev pub decreases-loop-before : goal.decreases-loop-before
decreases-loop-before l = length l.rest
