use Rattle.std.proofs.Common.{sym, ◌∙◌, arith}
use Rattle.pass_salvage.proofs.Going.{removed_at}
use Rattle.pass_salvage.proofs.salvage_action.is_removed.Goals as goal

pub returns : goal.returns
returns c = c.flag_at.ensures ∙ sym (removed_at c.args.removed.now 0 c.args.d c.args.d (omega arith))
