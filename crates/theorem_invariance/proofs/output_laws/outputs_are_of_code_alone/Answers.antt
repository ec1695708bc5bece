use Rattle.theorem_invariance.proofs.OutputAlone.{outputs_alone}
use Rattle.theorem_invariance.proofs.output_laws.outputs_are_of_code_alone.Goals as goal

pub returns : goal.returns
returns c = outputs_alone
