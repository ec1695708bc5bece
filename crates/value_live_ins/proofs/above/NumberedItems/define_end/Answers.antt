use Rattle.std.proofs.Common.{sym, subst, subst₂, take}
use Rattle.std.specs.Prelude.{Contains, Option}
use Rattle.mir_func.specs.declared.debug_substitution.OperandPair.{OperandPair}
use Rattle.sem_value_ids.specs.Pullback.{OfPair}
use Rattle.value_proof.specs.Classes.{KnowsPair, known_past}
use Rattle.value_live_ins.proofs.above.NumberedItems.define_end.Goals as goal

pub returns-in-Some : goal.returns-in-Some
returns-in-Some c = λ on k known above.
    let before = known_past known (take k c.args.items.now) in
    subst (λ (o : Option OperandPair). KnowsPair before o) (sym c.in-Some.is)
    (subst₂ (λ n o. Contains before (OfPair n o)) c.number.ensures c.number-in-Some.ensures (c.define.ensures on k known above))
