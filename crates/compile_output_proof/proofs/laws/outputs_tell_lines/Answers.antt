use Rattle.compile_output_proof.proofs.Lines.{tell_lines}
use Rattle.compile_output_proof.proofs.laws.outputs_tell_lines.Goals as goal

pub returns : goal.returns
returns c = tell_lines
