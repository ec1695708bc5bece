use Rattle.mir_printer.proofs.Items.{item_text_one, item_line_one}
use Rattle.mir_printer.proofs.item.one_reading.Goals as goal

pub returns-clause-text : goal.returns-clause-text
returns-clause-text c = item_text_one

pub returns-clause-line : goal.returns-clause-line
returns-clause-line c = item_line_one
