use Rattle.readback_functions.proofs.DeclarationNames.{names_read_back}
use Rattle.readback_functions.proofs.declaration_laws.names_read_back.Goals as goal

pub returns : goal.returns
returns c = names_read_back
