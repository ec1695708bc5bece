use Rattle.std.proofs.Common.{ℕ, List, None, refl, rules}
use Rattle.read_body.specs.read_declarations.declared.stack.StackEntry.{StackEntry}
use Rattle.read_body.specs.FirstUseOrder.{met}
use Rattle.read_body.proofs.Entries.{one_more, no_more}
use Rattle.read_program.specs.Closing.{ids_behind, entry_ids}
use Rattle.read_program.proofs.closing.entry_ids.Goals as goal

-- an entry that stands for none
none : StackEntry
none = record { id = 0; size = 0; align = 0; local_offset = None }

-- numbers with that of one entry more
abbrev with_entry : List ℕ → StackEntry → List ℕ
with_entry ids e = met e.id ids

pub loop-entry-preserved : goal.loop-entry-preserved
unfolding ids_behind none
loop-entry-preserved c =
    one_more ids_behind with_entry (λ s e es. refl) (λ s. refl) c.args.entries.now c.loop-entry.entry-index c.entry-item.result
    c.loop-entry.ids (entry_ids c.args.entries.now) c.meet.new.self c.loop-entry-test.true c.entry-item.is c.loop-entry.invariant
    (search rules)

pub returns : goal.returns
unfolding ids_behind none
returns c =
    no_more ids_behind with_entry (λ s e es. refl) (λ s. refl) c.args.entries.now c.loop-entry.entry-index none
    c.loop-entry.ids (entry_ids c.args.entries.now) c.loop-entry-test.false c.loop-entry.invariant
