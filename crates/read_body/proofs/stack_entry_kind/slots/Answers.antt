use Rattle.std.proofs.Common.{None, refl}
use Rattle.read_declarations.specs.declared.stack.StackEntry.{StackEntry}
use Rattle.read_body.specs.StackEntryKind.{with_slot, slots_behind, slots_of}
use Rattle.read_body.proofs.Entries.{one_more, no_more}
use Rattle.read_body.proofs.stack_entry_kind.slots.Goals as goal

-- an entry that stands for none
none : StackEntry
none = record { id = 0; size = 0; align = 0; local_offset = None }

pub loop-entry-preserved : goal.loop-entry-preserved
unfolding slots_behind
loop-entry-preserved c =
    let named = c.args.named.now in
    one_more (slots_behind named) (with_slot named) (λ s e es. refl) (λ s. refl) c.args.entries.now c.loop-entry.entry-index c.entry-item.result
    c.loop-entry.slots (slots_of named c.args.entries.now) c.add_slot.new.slots c.loop-entry-test.true c.entry-item.is c.loop-entry.invariant
    c.in_ok-add_slot.ensures

pub returns : goal.returns
unfolding slots_behind
returns c =
    let named = c.args.named.now in
    no_more (slots_behind named) (with_slot named) (λ s e es. refl) (λ s. refl) c.args.entries.now c.loop-entry.entry-index none
    c.loop-entry.slots (slots_of named c.args.entries.now) c.loop-entry-test.false c.loop-entry.invariant
