use Rattle.value_live_ins.proofs.Starting.{starts_more, starts_all}
use Rattle.value_live_ins.proofs.opening.start_entry.Goals as goal

pub loop-i-preserved : goal.loop-i-preserved
loop-i-preserved c =
    starts_more c.args.things.now c.loop-i.i c.loop-i.classes c.loop-i.given c.push.new.self c.push-in-loop-i.new.self c.loop-i.invariant c.loop-i-test.true
    c.index-things-i.result c.index-things-i.is c.starts_with-some.result c.starts_with-some.ensures c.own_class.result c.own_class.ensures
    c.in_ok-push.ensures.ok c.in_ok-push-2.ensures.ok

pub returns : goal.returns
returns c =
    starts_all c.args.things.now c.requires.tracked c.loop-i.i c.loop-i.classes c.loop-i.given c.loop-i.invariant c.loop-i-test.false c.loop-i.auto.i-end
