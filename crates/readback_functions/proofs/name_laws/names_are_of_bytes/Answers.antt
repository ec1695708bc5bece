use Rattle.readback_functions.proofs.NameFunctions.{names_are_of_bytes}
use Rattle.readback_functions.proofs.name_laws.names_are_of_bytes.Goals as goal

pub returns : goal.returns
returns c = names_are_of_bytes
