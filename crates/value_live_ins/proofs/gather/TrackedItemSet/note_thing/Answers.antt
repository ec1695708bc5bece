use Rattle.value_live_ins.proofs.Used.{only_added}
use Rattle.value_live_ins.proofs.gather.TrackedItemSet.note_thing.Goals as goal

pub returns-clause-only : goal.returns-clause-only
returns-clause-only c = only_added c.args.self.now.things c.add.new.self.things c.args.thing c.in_ok-add.field-0 c.in_ok-add.ensures.added
