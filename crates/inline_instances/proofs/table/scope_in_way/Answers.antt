use Rattle.std.proofs.Common.{sym, ap, ◌∙◌}
use Rattle.std.specs.Option.{option_copied}
use Rattle.inline_instances.proofs.Tables.{scope_at_end}
use Rattle.inline_instances.proofs.table.scope_in_way.Goals as goal

pub returns-in-Some : goal.returns-in-Some
returns-in-Some c =
    c.scope_of_call.ensures
    ∙ scope_at_end c.args.meta.now c.args.scope c.args.way.now c.in-Some.call.now (sym c.last.ensures.value ∙ ap option_copied c.in-Some.is)
