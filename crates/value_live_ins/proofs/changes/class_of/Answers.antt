use Rattle.std.proofs.Common.{sym, ap, ◌∙◌}
use Rattle.std.specs.Prelude.{Some, slice_index}
use Rattle.value_solver.specs.declared.tracked.Tracked.{Tracked}
use Rattle.value_solver.specs.Entry.{thing}
use Rattle.value_live_ins.proofs.Changing.{register_class, slot_class, pair_class_is, part_class_is, number_class_is, part_within}
use Rattle.value_live_ins.proofs.changes.class_of.Goals as goal

pub returns-in-Register : goal.returns-in-Register
returns-in-Register c = λ class holds.
    let t = c.args.tracking.now in
    c.register.ensures
    ∙ register_class t.variables.now t.things.now t.index.now t.settled.now c.args.held.now class holds c.args.j c.in-Register.r c.requires.tracked
    (c.requires.at ∙ ap (λ (z : Tracked). Some z) c.in-Register.is) ∙ ap (λ (z : Tracked). class (thing z)) (sym c.in-Register.is)

pub returns-in-Slot : goal.returns-in-Slot
returns-in-Slot c = λ class holds.
    let t = c.args.tracking.now in
    c.place.ensures ∙ ap (slice_index c.args.held.now.places.items) c.slot_place.ensures
    ∙ slot_class t.variables.now t.things.now t.index.now t.settled.now c.args.held.now class holds c.args.j c.in-Slot.n
    (c.requires.at ∙ ap (λ (z : Tracked). Some z) c.in-Slot.is) ∙ ap (λ (z : Tracked). class (thing z)) (sym c.in-Slot.is)

pub returns-in-Pair : goal.returns-in-Pair
returns-in-Pair c = λ class holds.
    let t = c.args.tracking.now in
    c.class_of_pair.ensures
    ∙ pair_class_is t.variables.now t.things.now t.index.now t.settled.now c.args.held.now class holds c.args.j c.in-Pair.q
    c.requires.tracked c.requires.index (c.requires.at ∙ ap (λ (z : Tracked). Some z) c.in-Pair.is) ∙ ap (λ (z : Tracked). class (thing z)) (sym c.in-Pair.is)

pub returns-in-Part : goal.returns-in-Part
returns-in-Part c = λ class holds.
    let t = c.args.tracking.now in
    c.part_class.ensures
    ∙ part_class_is t.variables.now t.things.now t.index.now t.settled.now c.args.held.now class holds c.args.j c.in-Part.field-0 c.requires.things
    (c.requires.at ∙ ap (λ (z : Tracked). Some z) c.in-Part.is) ∙ ap (λ (z : Tracked). class (thing z)) (sym c.in-Part.is)

pub returns-in-Number : goal.returns-in-Number
returns-in-Number c = λ class holds.
    let t = c.args.tracking.now in
    c.settled_class.ensures
    ∙ number_class_is t.variables.now t.things.now t.index.now t.settled.now c.args.held.now class holds c.args.j c.in-Number.field-0
    c.requires.tracked c.requires.index (c.requires.at ∙ ap (λ (z : Tracked). Some z) c.in-Number.is) ∙ ap (λ (z : Tracked). class (thing z)) (sym c.in-Number.is)

pub part_class-requires : goal.part_class-requires
part_class-requires c =
    part_within c.args.tracking.now.variables.now c.args.tracking.now.things.now c.args.j _ c.args.thing.now c.in-Part.field-0 c.requires.things
    c.requires.at c.in-Part.is c.requires.parts
