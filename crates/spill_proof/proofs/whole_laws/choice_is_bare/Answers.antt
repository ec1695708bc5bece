use Rattle.spill_proof.proofs.Bare.{choice_is_bare}
use Rattle.spill_proof.proofs.whole_laws.choice_is_bare.Goals as goal

pub returns : goal.returns
returns c = choice_is_bare
