use Rattle.value_live_ins.proofs.Defining.{above_more}
use Rattle.value_live_ins.proofs.above.NumberedItems.set.Goals as goal

pub returns-in-None : goal.returns-in-None
returns-in-None c = above_more c.args.i c.args.self.now
