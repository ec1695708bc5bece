use Rattle.std.proofs.Common.{sym, ap, ◌∙◌}
use Rattle.pass_salvage.specs.Above.{is_past}
use Rattle.pass_salvage.proofs.Indexed.{asked_past}
use Rattle.pass_salvage.proofs.above.Above.asks_behind.Goals as goal

pub returns : goal.returns
returns c subs above h =
    c.is_past.ensures ∙ ap (is_past c.args.d) (c.find.ensures ∙ h.questions c.args.number) ∙ sym (asked_past subs c.args.number above c.args.d)
