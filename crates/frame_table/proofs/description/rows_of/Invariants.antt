use Rattle.frame_table.proofs.Going.{Gone}
use Rattle.frame_table.proofs.description.rows_of.Given as goal

abbrev pub invariant-loop-entry : goal.invariant-loop-entry
invariant-loop-entry l = Gone l.framed l.saves l.entries l.entry-index l.before.lowered l.before.saved l.rows
