use Rattle.debug_placement.proofs.EntryProofs.{entries_placed, inlined_entries_placed}
use Rattle.debug_placement.proofs.laws.placed_entries_are_moved.Goals as goal

pub returns-clause-plain : goal.returns-clause-plain
returns-clause-plain c = entries_placed

pub returns-clause-inlined : goal.returns-clause-inlined
returns-clause-inlined c = inlined_entries_placed
