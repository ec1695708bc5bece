use Rattle.readback_functions.proofs.Stacks.{stacks_read_back}
use Rattle.readback_functions.proofs.declaration_laws.stacks_read_back.Goals as goal

pub returns : goal.returns
returns c = stacks_read_back
