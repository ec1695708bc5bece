use Rattle.readback_items.proofs.Again.{code_is_judged_again}
use Rattle.readback_items.proofs.object_laws.code_is_judged_again.Goals as goal

pub returns : goal.returns
returns c = code_is_judged_again
