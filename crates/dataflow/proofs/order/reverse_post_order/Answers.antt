use Rattle.dataflow.proofs.Sweeps.{order_permuted}
use Rattle.dataflow.proofs.order.reverse_post_order.Goals as goal

pub returns : goal.returns
returns c = order_permuted _ _ _ c.reverse.ensures.permutation c.in_ok-order.ensures
