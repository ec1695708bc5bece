use Rattle.dce_salvage_proof.proofs.DropNowhere.{number_to_nowhere}
use Rattle.dce_salvage_proof.proofs.drop_laws.number_goes_nowhere.Goals as goal

pub returns : goal.returns
returns c = number_to_nowhere
