use Rattle.readback_functions.proofs.Declared.{declared_lines_are_printed}
use Rattle.readback_functions.proofs.printed_laws.declared_lines_are_printed.Goals as goal

pub returns : goal.returns
returns c = declared_lines_are_printed
