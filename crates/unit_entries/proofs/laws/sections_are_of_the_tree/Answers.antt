use Rattle.unit_entries.proofs.PlainProofs.{plain_declared, plain_is}
use Rattle.unit_entries.proofs.laws.sections_are_of_the_tree.Goals as goal

pub returns-clause-abbreviations : goal.returns-clause-abbreviations
returns-clause-abbreviations c = plain_declared

pub returns-clause-entries : goal.returns-clause-entries
returns-clause-entries c = plain_is
