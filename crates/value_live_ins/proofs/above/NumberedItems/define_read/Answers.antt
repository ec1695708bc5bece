use Rattle.std.proofs.Common.{sym, subst, take}
use Rattle.mir_func.specs.declared.item.ItemKind.{ItemKind}
use Rattle.mir_func.specs.Resolve.{resolve}
use Rattle.value_proof.specs.Classes.{known_past}
use Rattle.value_live_ins.specs.Gathering.{KnowsPassed}
use Rattle.value_live_ins.proofs.above.NumberedItems.define_read.Goals as goal

pub returns-in-Mark : goal.returns-in-Mark
returns-in-Mark c = λ on k known above.
    subst (λ (z : ItemKind). KnowsPassed (known_past known (take k c.args.items.now)) (resolve c.args.subs.now) z) (sym c.in-Mark.is)
    (c.define_value.ensures on k known above)
