use Rattle.read_proof.proofs.laws.programs_are_of_their_language.Goals as goal
use Rattle.read_proof.proofs.Languages.{programs_are_of_their_language}

pub returns : goal.returns
returns c = programs_are_of_their_language
