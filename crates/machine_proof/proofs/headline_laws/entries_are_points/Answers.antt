use Rattle.machine_proof.proofs.Entries.{entries_are_points}
use Rattle.machine_proof.proofs.headline_laws.entries_are_points.Goals as goal

pub returns : goal.returns
returns c = entries_are_points
