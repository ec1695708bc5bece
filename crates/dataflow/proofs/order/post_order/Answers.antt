use Rattle.dataflow.proofs.Sweeps.{order_permuted}
use Rattle.dataflow.proofs.order.post_order.Goals as goal

pub returns : goal.returns
returns c =
    order_permuted _ _ _ c.in_ok-sort_by_key.ensures.permutation (record { within = c.in_ok-order.ensures.within; all = c.in_ok-order.ensures.all })
