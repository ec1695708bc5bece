use Rattle.std.proofs.Common.{◌≡◌, Some, sym, ◌∙◌}
use Rattle.pass_salvage.specs.SalvageAction.{last_definition, going_from}
use Rattle.pass_salvage.proofs.Chosen.{entered_within}
use Rattle.pass_salvage.proofs.Indexed.{definition_within}
use Rattle.pass_salvage.proofs.lookup.choose_way.Goals as goal

pub choose_by-requires : goal.choose_by-requires
choose_by-requires c =
    let last : last_definition c.args.source c.args.above.now ≡ Some c.in-Some.d =
    sym (c.last_definition.ensures c.args.subs.now c.requires) ∙ c.in-Some.is in
    record {
      lookup = c.requires;
      free = sym c.has_entry.ensures ∙ c.if-has_entry.false;
      last = last;
      at = definition_within c.args.source c.args.above.now c.in-Some.d last;
    }

pub returns-clause-within : goal.returns-clause-within
returns-clause-within c d o n e =
    entered_within (going_from 0 c.args.removed.now) c.args.subs.now c.args.fresh c.args.number c.args.source c.args.above.now d o n (sym c.choose_by.ensures ∙ e)
