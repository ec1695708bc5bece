use Rattle.std.proofs.Common.{◌∙◌}
use Rattle.pass_salvage.proofs.above.Above.last_definition.Goals as goal

pub returns : goal.returns
returns c subs above h = c.find_register.ensures ∙ h.definitions c.args.s
