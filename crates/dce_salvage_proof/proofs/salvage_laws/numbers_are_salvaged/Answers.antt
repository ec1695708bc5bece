use Rattle.dce_salvage_proof.proofs.Chain.{salvage_numbers}
use Rattle.dce_salvage_proof.proofs.salvage_laws.numbers_are_salvaged.Goals as goal

pub returns : goal.returns
returns c = salvage_numbers
