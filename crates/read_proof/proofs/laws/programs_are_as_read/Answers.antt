use Rattle.read_proof.proofs.laws.programs_are_as_read.Goals as goal
use Rattle.read_proof.proofs.Texts.{programs_are_as_read}

pub returns : goal.returns
returns c = programs_are_as_read
