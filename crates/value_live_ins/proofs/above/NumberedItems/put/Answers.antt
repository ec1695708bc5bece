use Rattle.value_live_ins.proofs.Defining.{above_set}
use Rattle.value_live_ins.proofs.above.NumberedItems.put.Goals as goal

pub returns : goal.returns
returns c = above_set c.args.i c.args.number c.args.self.now (record { indices = c.insert.new.self }) c.in_ok-insert.ensures.updates.0
