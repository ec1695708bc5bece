use Rattle.readback_items.proofs.Judged.{debug_lines_read_back}
use Rattle.readback_items.proofs.line_laws.debug_lines_read_back.Goals as goal

pub returns : goal.returns
returns c = debug_lines_read_back
