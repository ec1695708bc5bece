use Rattle.std.proofs.Common.{ap, ◌∙◌, subst}
use Rattle.std.specs.List.{list_any}
use Rattle.mir_func.specs.declared.item.Item.{Item}
use Rattle.pass_salvage.specs.declared.lookup.Lookup.{Lookup}
use Rattle.pass_salvage.specs.SalvageAction.{asks_for}
use Rattle.pass_salvage.specs.Lookup.{IsLookupOf}
use Rattle.pass_salvage.proofs.Chosen.{all_behind}
use Rattle.pass_salvage.proofs.lookup.Lookup.asks_behind.Goals as goal

pub returns-in-Index : goal.returns-in-Index
returns-in-Index c found =
    c.asks_behind.ensures c.args.subs.now c.args.above.now (subst (λ (l : Lookup). IsLookupOf l c.args.subs.now c.args.above.now) c.in-Index.is found)

pub returns-in-Walk : goal.returns-in-Walk
returns-in-Walk c found =
    c.ask_for.ensures ∙ ap (list_any (λ (x : Item). asks_for c.args.subs.now c.args.number x.kind)) (all_behind c.args.above.now c.args.d)
