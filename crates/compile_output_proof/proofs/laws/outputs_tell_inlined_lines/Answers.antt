use Rattle.compile_output_proof.proofs.Inlined.{tell_inlined_lines}
use Rattle.compile_output_proof.proofs.laws.outputs_tell_inlined_lines.Goals as goal

pub returns : goal.returns
returns c = tell_inlined_lines
