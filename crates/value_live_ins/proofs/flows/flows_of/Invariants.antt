use Rattle.value_live_ins.specs.steps.Ways.{FlowsBelow}
use Rattle.value_live_ins.proofs.flows.flows_of.Given as goal

abbrev pub invariant-loop-b : goal.invariant-loop-b
invariant-loop-b l = FlowsBelow l.tracking l.indices l.blocks l.b l.flows.items
