use Rattle.dwarf_line.proofs.ReadLoops.{constants_ended}
use Rattle.dwarf_frame.proofs.read.constants.Goals as goal

pub returns-in-empty : goal.returns-in-empty
returns-in-empty c = constants_ended _ _ _ _ c.loop-field-test.true c.in-empty.len_below c.loop-field.invariant
