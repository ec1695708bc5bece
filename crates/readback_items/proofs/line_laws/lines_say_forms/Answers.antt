use Rattle.readback_items.proofs.Said.{lines_say_forms}
use Rattle.readback_items.proofs.line_laws.lines_say_forms.Goals as goal

pub returns : goal.returns
returns c = lines_say_forms
