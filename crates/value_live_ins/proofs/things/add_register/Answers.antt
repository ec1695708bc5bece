use Rattle.std.proofs.lemmas.Result.{on_ok_weaker}
use Rattle.value_live_ins.proofs.Used.{only_register}
use Rattle.value_live_ins.proofs.things.add_register.Goals as goal

pub returns-in-Some-clause-only : goal.returns-in-Some-clause-only
returns-in-Some-clause-only c =
    on_ok_weaker c.note_thing.result (only_register c.in-Some.r c.args.gathered.now.things c.note_thing.new.self.things) c.note_thing.ensures.only
