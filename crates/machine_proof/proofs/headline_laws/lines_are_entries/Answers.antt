use Rattle.machine_proof.proofs.Entries.{lines_are_entries}
use Rattle.machine_proof.proofs.headline_laws.lines_are_entries.Goals as goal

pub returns : goal.returns
returns c = lines_are_entries
