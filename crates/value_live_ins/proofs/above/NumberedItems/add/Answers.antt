use Rattle.value_live_ins.proofs.Defining.{above_more}
use Rattle.value_live_ins.proofs.above.NumberedItems.add.Goals as goal

pub returns-in-Mark : goal.returns-in-Mark
returns-in-Mark c = above_more c.args.i c.args.self.now
