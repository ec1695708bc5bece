use Rattle.std.proofs.Common.{length, sym, ap, subst, ◌∙◌}
use Rattle.sim_machine.specs.steps.Arguments.{NamesCallee}
use Rattle.sim_machine.proofs.Departures.{left_form_at, left_first, left_not_empty, left_told}
use Rattle.sim_machine.proofs.hart.Hart.left_for.Goals as goal

pub target-requires : goal.target-requires
target-requires c =
    let f = left_form_at c.i.inside.op c.i.inside.operands c.args.i.now c.i.view_is c.i.invariant c.requires in
    let p = left_first c.i.inside.op c.i.inside.operands f c.in-Some.first.now c.in-Some._rest.now (sym c.as_slice.ensures ∙ c.in-Some.ensures.cases.0) in
    subst NamesCallee (sym p) f.names

pub unreachable-requires : goal.unreachable-requires
unreachable-requires c =
    let f = left_form_at c.i.inside.op c.i.inside.operands c.args.i.now c.i.view_is c.i.invariant c.requires in
    left_not_empty c.i.inside.op c.i.inside.operands f (ap length (sym c.as_slice.ensures) ∙ c.in-None.ensures.cases)

pub returns : goal.returns
returns c =
    let f = left_form_at c.i.inside.op c.i.inside.operands c.args.i.now c.i.view_is c.i.invariant c.requires in
    let p = left_first c.i.inside.op c.i.inside.operands f c.in-Some.first.now c.in-Some._rest.now (sym c.as_slice.ensures ∙ c.in-Some.ensures.cases.0) in
    left_told c.i.inside.op c.i.inside.operands c.args.i.now c.i.view_is f c.in-Some.first.now p c.args.self.now c.target.result c.target.ensures
