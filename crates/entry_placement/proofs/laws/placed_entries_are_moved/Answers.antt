use Rattle.entry_placement.proofs.Placing.{abbreviations_moved, entries_placed, unit_whole}
use Rattle.entry_placement.proofs.laws.placed_entries_are_moved.Goals as goal

pub returns-clause-placed : goal.returns-clause-placed
returns-clause-placed c = entries_placed

pub returns-clause-abbreviations : goal.returns-clause-abbreviations
returns-clause-abbreviations c = abbreviations_moved

pub returns-clause-whole : goal.returns-clause-whole
returns-clause-whole c = unit_whole
