use Rattle.std.proofs.Common.{get_or, subst, sym, List}
use Rattle.std.specs.Prelude.{Contains}
use Rattle.mir_func.specs.Resolve.{resolve}
use Rattle.value_solver.specs.declared.tracked.Tracked.{Tracked}
use Rattle.value_solver.specs.declared.tracked.Tracked.TheVariants.{Pair}
use Rattle.value_live_ins.proofs.Gathering.{things_done, tracked_done, knows_done, all_known, fewer_variables, grows_then, grows_has}
use Rattle.value_live_ins.proofs.Used.{all_used}
use Rattle.value_live_ins.proofs.things.things_of.Goals as goal

pub returns-clause-things : goal.returns-clause-things
returns-clause-things c =
    things_done c.in_ok-variables.variables c.parts_of.new.gathered c.add_registers.new.gathered c.note_thing.new.self c.note_blocks.new.gathered
    c.into_things.result
    c.in_ok-variables.ensures.parts c.in_ok-add_registers.ensures.grows c.in_ok-note_thing.ensures.grows
    (grows_then c.note_thing.new.self.things c.note_pairs.new.gathered.things c.note_blocks.new.gathered.things c.in_ok-note_pairs.ensures.grows
    c.in_ok-note_blocks.ensures.grows)
    c.into_things.ensures
    c.in_ok-add_registers.ensures.has c.in_ok-note_thing.ensures.has c.in_ok-note_blocks.ensures.gathered

pub returns-clause-tracked : goal.returns-clause-tracked
returns-clause-tracked c =
    tracked_done c.in_ok-variables.variables c.parts_of.new.gathered c.add_registers.new.gathered c.note_thing.new.self c.note_blocks.new.gathered
    c.into_things.result
    c.in_ok-variables.ensures.parts c.in_ok-add_registers.ensures.grows c.in_ok-note_thing.ensures.grows
    (grows_then c.note_thing.new.self.things c.note_pairs.new.gathered.things c.note_blocks.new.gathered.things c.in_ok-note_pairs.ensures.grows
    c.in_ok-note_blocks.ensures.grows)
    c.into_things.ensures
    c.in_ok-note_blocks.ensures.gathered

pub returns-clause-knows : goal.returns-clause-knows
returns-clause-knows c =
    knows_done c.in_ok-variables.variables c.parts_of.new.gathered c.add_registers.new.gathered c.note_thing.new.self c.note_blocks.new.gathered
    c.into_things.result
    c.in_ok-variables.ensures.parts c.in_ok-add_registers.ensures.grows c.in_ok-note_thing.ensures.grows
    (grows_then c.note_thing.new.self.things c.note_pairs.new.gathered.things c.note_blocks.new.gathered.things c.in_ok-note_pairs.ensures.grows
    c.in_ok-note_blocks.ensures.grows)
    c.into_things.ensures
    (resolve c.args.subs.now) c.args.blocks.now c.in_ok-variables.ensures.has c.in_ok-note_blocks.ensures.knows

pub returns-clause-whole : goal.returns-clause-whole
returns-clause-whole c = λ whole.
    all_known c.in_ok-variables.variables c.parts_of.new.gathered c.add_registers.new.gathered c.note_thing.new.self c.note_blocks.new.gathered
    c.into_things.result
    c.in_ok-variables.ensures.parts c.in_ok-add_registers.ensures.grows c.in_ok-note_thing.ensures.grows
    (grows_then c.note_thing.new.self.things c.note_pairs.new.gathered.things c.note_blocks.new.gathered.things c.in_ok-note_pairs.ensures.grows
    c.in_ok-note_blocks.ensures.grows)
    c.into_things.ensures
    (resolve c.args.subs.now) c.args.blocks.now c.in_ok-variables.ensures.has (c.in_ok-note_blocks.ensures.whole whole)

pub returns-clause-fewer : goal.returns-clause-fewer
returns-clause-fewer c =
    fewer_variables c.in_ok-variables.variables c.parts_of.new.gathered c.add_registers.new.gathered c.note_thing.new.self c.note_blocks.new.gathered
    c.into_things.result
    c.in_ok-variables.ensures.parts c.in_ok-add_registers.ensures.grows c.in_ok-note_thing.ensures.grows
    (grows_then c.note_thing.new.self.things c.note_pairs.new.gathered.things c.note_blocks.new.gathered.things c.in_ok-note_pairs.ensures.grows
    c.in_ok-note_blocks.ensures.grows)
    c.into_things.ensures

pub returns-clause-asked : goal.returns-clause-asked
returns-clause-asked c = λ k d lt.
    let q = Pair (get_or c.args.asked.now k d) in
    subst (λ (z : List Tracked). Contains z q) (sym c.into_things.ensures)
    (grows_has c.note_pairs.new.gathered.things c.note_blocks.new.gathered.things q c.in_ok-note_blocks.ensures.grows (c.in_ok-note_pairs.ensures.has k d lt))

pub returns-clause-used : goal.returns-clause-used
returns-clause-used c =
    all_used c.args.blocks.now (resolve c.args.subs.now) c.args.asked.now c.parts_of.new.gathered.things c.add_registers.new.gathered.things
    c.note_thing.new.self.things c.note_pairs.new.gathered.things c.note_blocks.new.gathered c.in_ok-note_blocks.ensures.gathered
    (c.in_ok-variables.ensures.only (resolve c.args.subs.now)) c.in_ok-add_registers.ensures.only c.in_ok-note_thing.ensures.only
    c.in_ok-note_pairs.ensures.only c.in_ok-note_blocks.ensures.only c.into_things.result c.into_things.ensures
