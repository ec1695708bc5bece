use Rattle.std.proofs.Common.{sym, subst, take}
use Rattle.std.specs.Prelude.{Option}
use Rattle.mir_func.specs.declared.debug_substitution.OperandPair.{OperandPair}
use Rattle.mir_func.specs.declared.variable.MarkValue.{MarkValue}
use Rattle.mir_func.specs.Resolve.{resolve}
use Rattle.value_proof.specs.Classes.{KnowsPair, KnowsValue, known_past}
use Rattle.value_live_ins.proofs.above.NumberedItems.define_value.Goals as goal

pub returns-in-Pair : goal.returns-in-Pair
returns-in-Pair c = λ on k known above.
    let before = known_past known (take k c.args.items.now) in
    subst (λ (m : MarkValue). KnowsValue before (resolve c.args.subs.now) m) (sym c.in-Pair.is)
    (subst (λ (o : Option OperandPair). KnowsPair before o) c.resolve.ensures (c.define_end.ensures on k known above))
