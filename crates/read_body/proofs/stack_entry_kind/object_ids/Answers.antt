use Rattle.std.proofs.Common.{None, refl}
use Rattle.read_declarations.specs.declared.stack.StackEntry.{StackEntry}
use Rattle.read_body.specs.StackEntryKind.{with_id, ids_behind, ids_of_objects}
use Rattle.read_body.proofs.Entries.{one_more, no_more}
use Rattle.read_body.proofs.stack_entry_kind.object_ids.Goals as goal

-- an entry that stands for none
none : StackEntry
none = record { id = 0; size = 0; align = 0; local_offset = None }

pub loop-entry-preserved : goal.loop-entry-preserved
unfolding ids_behind
loop-entry-preserved c =
    let named = c.args.named.now in
    one_more (ids_behind named) (with_id named) (λ s e es. refl) (λ s. refl) c.args.entries.now c.loop-entry.entry-index c.entry-item.result
    c.loop-entry.ids (ids_of_objects named c.args.entries.now) c.meet_object.new.ids c.loop-entry-test.true c.entry-item.is c.loop-entry.invariant
    c.in_ok-meet_object.ensures

pub returns : goal.returns
unfolding ids_behind
returns c =
    let named = c.args.named.now in
    no_more (ids_behind named) (with_id named) (λ s e es. refl) (λ s. refl) c.args.entries.now c.loop-entry.entry-index none
    c.loop-entry.ids (ids_of_objects named c.args.entries.now) c.loop-entry-test.false c.loop-entry.invariant
