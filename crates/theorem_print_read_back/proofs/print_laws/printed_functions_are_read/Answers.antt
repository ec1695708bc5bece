use Rattle.theorem_print_read_back.proofs.Functions.{printed_functions_are_read}
use Rattle.theorem_print_read_back.proofs.print_laws.printed_functions_are_read.Goals as goal

pub returns : goal.returns
returns c = printed_functions_are_read
