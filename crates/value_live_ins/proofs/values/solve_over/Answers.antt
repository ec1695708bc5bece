use Rattle.std.proofs.Common.{subst, sym}
use Rattle.std.specs.Prelude.{List}
use Rattle.mir_func.specs.Graph.{framed_program}
use Rattle.mir_func.specs.Resolve.{resolve}
use Rattle.value_solver.specs.declared.flow.Flow.{Flow}
use Rattle.value_solver.specs.Flows.{AreFlows}
use Rattle.value_live_ins.proofs.Solving.{things_enough, are_flows, sound_flows, sound_same, entries_are}
use Rattle.value_live_ins.proofs.values.solve_over.Goals as goal

pub solve-requires-clause-sound : goal.solve-requires-clause-sound
solve-requires-clause-sound c =
    sound_same _ _ c.as_slice-2.result.now c.in_ok-flows.flows.items c.in_ok-start.ensures.known.classes c.as_slice-2.ensures.value
    (sound_flows c.args.blocks.now _ c.in_ok-indices.indices c.in_ok-flows.flows.items c.requires.blocks c.in_ok-indices.ensures c.in_ok-flows.ensures)

pub returns-clause-entries : goal.returns-clause-entries
returns-clause-entries c =
    let g = framed_program c.args.blocks.now (resolve c.args.subs.now) in
    let things = things_enough c.args.blocks.now c.args.subs.now c.args.variables.now c.args.things.now c.requires.things c.requires.knows in
    let of = are_flows c.args.blocks.now _ c.in_ok-indices.indices c.in_ok-flows.flows.items c.requires.blocks c.in_ok-indices.ensures
    c.in_ok-flows.ensures things in
    entries_are c.solve.result g c.args.things.now c.in_ok-start.start c.as_slice-2.result.now c.solve.ensures.exact
    (subst (λ (z : List Flow). AreFlows g c.args.things.now z) (sym c.as_slice-2.ensures.value) of) c.in_ok-start.ensures
