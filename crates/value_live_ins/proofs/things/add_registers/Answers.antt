use Rattle.value_live_ins.proofs.Gathering.{grows_then, registers_more}
use Rattle.value_live_ins.specs.Gathering.{IsRegister}
use Rattle.value_live_ins.proofs.Used.{only_then}
use Rattle.value_live_ins.proofs.things.add_registers.Goals as goal

pub loop-n-preserved : goal.loop-n-preserved
loop-n-preserved c =
    let old = c.loop-n.gathered.things in
    let new = c.add_register.new.gathered.things in
    let did = c.in_ok-add_register.ensures in
    record {
      gathered = did.gathered;
      grows = grows_then c.args.gathered.now.things old new c.loop-n.invariant.grows did.grows;
      has = registers_more c.loop-n.n old new did.grows c.loop-n.invariant.has did.has;
      only = only_then IsRegister c.args.gathered.now.things old new c.loop-n.invariant.only did.only;
    }
