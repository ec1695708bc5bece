use Rattle.mir_func.specs.Resolve.{resolve}
use Rattle.value_live_ins.proofs.Own.{own_classes, own_settles, own_tell, changes_are}
use Rattle.value_live_ins.proofs.changes.changes_of.Goals as goal

pub pass_items-requires-clause-walked : goal.pass_items-requires-clause-walked
pass_items-requires-clause-walked c =
    let t = c.args.tracking.now in
    record {
      class = own_classes t.things.now;
      holds = c.in_ok-held.ensures.holds (own_classes t.things.now) (own_settles t.variables.now t.things.now c.requires.tracking.things
          c.requires.tracking.tracked
          t.settled.now c.requires.tracking.own);
      tells = own_tell t.variables.now t.things.now c.requires.tracking.things c.requires.tracking.tracked (resolve t.subs.now);
    }

pub returns-clause-tells : goal.returns-clause-tells
returns-clause-tells c =
    changes_are c.args.tracking.now c.args.items.now c.pass_items.new.held c.changes.result c.requires.tracking.tracked c.in_ok-pass_items.ensures.walked
    c.changes.ensures.changes c.changes.ensures.within
