use Rattle.machine_proof.proofs.ImageLines.{image_lines_are_entries}
use Rattle.machine_proof.proofs.headline_laws.image_lines_are_entries.Goals as goal

pub returns : goal.returns
returns c = image_lines_are_entries
