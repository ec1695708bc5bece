use Rattle.readback_items.proofs.Judging.{forms_are_judged}
use Rattle.readback_items.proofs.code_laws.forms_are_judged.Goals as goal

pub returns : goal.returns
returns c = forms_are_judged
