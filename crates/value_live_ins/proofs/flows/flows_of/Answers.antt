use Rattle.value_live_ins.proofs.Solving.{flows_more}
use Rattle.value_live_ins.proofs.flows.flows_of.Goals as goal

pub loop-b-preserved : goal.loop-b-preserved
loop-b-preserved c =
    flows_more c.args.tracking.now c.args.indices.now c.args.blocks.now c.loop-b.b c.loop-b.flows.items c.push.new.self.items c.in_ok-flow_of.field-0
    c.loop-b.invariant c.in_ok-push.ensures.items c.in_ok-flow_of.ensures
