use Rattle.readback_functions.proofs.Functions.{functions_read_back}
use Rattle.readback_functions.proofs.function_laws.functions_read_back.Goals as goal

pub returns : goal.returns
returns c = functions_read_back
