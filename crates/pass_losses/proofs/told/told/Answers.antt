use Rattle.std.proofs.Common.{List, sym, subst}
use Rattle.pass_trait.specs.declared.loss.Loss.{Loss}
use Rattle.pass_losses.specs.Reported.{AreReported}
use Rattle.pass_losses.proofs.told.told.Goals as goal

pub returns : goal.returns
returns c =
    let sorted : List Loss = c.put_in_order.new.losses.items in
    let all : AreReported c.into_vec-losses.result.items sorted = record {
      ordered = c.put_in_order.ensures.ordered;
      same = c.put_in_order.ensures.same;
    } in
    subst (λ (ls : List Loss). AreReported c.args.lost ls) (sym c.from.ensures)
    (subst (λ (ls : List Loss). AreReported ls sorted) c.into_vec-losses.ensures all)
