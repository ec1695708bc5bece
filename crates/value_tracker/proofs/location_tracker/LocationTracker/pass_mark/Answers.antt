use Rattle.std.proofs.Common.{ℕ, ap, ◌∙◌, refl}
use Rattle.std.specs.Prelude.{slice_index}
use Rattle.mir_func.specs.Resolve.{resolve}
use Rattle.value_tracker.specs.LocationTracker.{part_past}
use Rattle.value_tracker.proofs.Items.{mark_holds}
use Rattle.value_tracker.proofs.location_tracker.LocationTracker.pass_mark.Goals as goal

pub returns-clause-passes : goal.returns-clause-passes
returns-clause-passes c = λ known class holds knows.
    let block = c.args.block.now in
    mark_holds block.variables.now known block.index.now block.settled.now c.args.self.now class holds
    (resolve block.subs.now) c.args.variable.now c.args.value.now
    (record c.args.self.now { parts = c.mark.new.parts }) knows.0 refl refl refl c.mark.ensures.count
    (λ j w e. c.mark.ensures.past j w e ∙ ap (λ (d : ℕ). part_past c.args.variable.now d w (slice_index c.args.self.now.parts.items j)) c.value-class.ensures)
