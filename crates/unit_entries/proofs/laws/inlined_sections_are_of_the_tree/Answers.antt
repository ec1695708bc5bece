use Rattle.unit_entries.proofs.PlainProofs.{all_declared}
use Rattle.unit_entries.proofs.InlinedProofs.{inlined_is}
use Rattle.unit_entries.proofs.laws.inlined_sections_are_of_the_tree.Goals as goal

pub returns-clause-abbreviations : goal.returns-clause-abbreviations
returns-clause-abbreviations c = all_declared

pub returns-clause-entries : goal.returns-clause-entries
returns-clause-entries c = inlined_is
