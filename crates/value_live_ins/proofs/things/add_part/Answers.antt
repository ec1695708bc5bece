use Rattle.std.proofs.Common.{sym, subst}
use Rattle.mir_func.specs.declared.item.ItemKind.{ItemKind}
use Rattle.value_live_ins.specs.Gathering.{AppendsOnly}
use Rattle.value_live_ins.specs.Used.{Names}
use Rattle.value_live_ins.proofs.Used.{only_part}
use Rattle.value_live_ins.proofs.things.add_part.Goals as goal

pub returns-in_ok-push-in-Mark-clause-only : goal.returns-in_ok-push-in-Mark-clause-only
returns-in_ok-push-in-Mark-clause-only c = λ ends.
    let old = c.args.gathered.now.things in
    let new = c.add.new.self.things in
    subst (λ (k : ItemKind). AppendsOnly (Names ends k) old new) (sym c.in-Mark.is)
    (only_part ends old new c.in-Mark.v c.in-Mark.field-1 c.in_ok-add-in-Mark.field-0 c.in_ok-add-in-Mark.ensures.added)
