use Rattle.pass_edits.proofs.MovedNumbers.{number_to_phi}
use Rattle.pass_edits.proofs.number_laws.number_goes_to_phi.Goals as goal

pub returns : goal.returns
returns c = number_to_phi
