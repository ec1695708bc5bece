use Rattle.compile_output_proof.proofs.Functions.{printable}
use Rattle.compile_output_proof.proofs.laws.outputs_are_printable.Goals as goal

pub returns : goal.returns
returns c = printable
