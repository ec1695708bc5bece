use Rattle.readback_functions.proofs.Items.{block_lines_are_printed}
use Rattle.readback_functions.proofs.printed_laws.block_lines_are_printed.Goals as goal

pub returns : goal.returns
returns c = block_lines_are_printed
