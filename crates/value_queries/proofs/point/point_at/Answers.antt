use Rattle.mir_func.specs.Successors.{pos_in}
use Rattle.value_queries.proofs.point.point_at.Goals as goal

pub returns-clause-point : goal.returns-clause-point
returns-clause-point c = λ are. record { index = c.in_ok-index.ensures; stands = c.in_ok-stand.ensures.stands are }

pub returns-clause-position : goal.returns-clause-position
returns-clause-position c = λ k. pos_in (c.in_ok-stand.ensures.block k) (c.in_ok-stand.ensures.item k)
