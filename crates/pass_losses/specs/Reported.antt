-- A pass's loss report.
use Rattle.std.specs.Prelude.{◌↔◌, List, Contains}
use Rattle.pass_trait.specs.declared.loss.Loss.{Loss}
use Rattle.pass_trait.specs.Order.{IsInOrder}

-- the report has exactly the losses of the pass, in order and without duplicates
pub record AreReported (lost told : List Loss) : Type 0 where
  pub ordered : IsInOrder told
  pub same : (l : Loss) → Contains told l ↔ Contains lost l
