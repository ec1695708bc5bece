use Rattle.std.proofs.Common.{ℕ, List, pos, refl, rules}
use Rattle.read_body.specs.read_declarations.declared.fixed.FixedEntry.{FixedEntry}
use Rattle.read_body.specs.FirstUseOrder.{met}
use Rattle.read_body.proofs.Entries.{one_more, no_more}
use Rattle.read_program.specs.Closing.{fixed_behind}
use Rattle.read_program.proofs.closing.meet_fixed.Goals as goal

-- an entry that stands for none
none : FixedEntry
none = record { id = 0; size = 0; offset = pos 0 }

-- numbers with that of one fixed object more
abbrev with_entry : List ℕ → FixedEntry → List ℕ
with_entry ids e = met e.id ids

pub loop-entry-preserved : goal.loop-entry-preserved
unfolding none
loop-entry-preserved c =
    one_more fixed_behind with_entry (λ s e es. refl) (λ s. refl) c.args.fixed.now c.loop-entry.entry-index c.entry-item.result
    c.loop-entry.ids (fixed_behind c.args.ids.now c.args.fixed.now) c.meet.new.self c.loop-entry-test.true c.entry-item.is c.loop-entry.invariant
    (search rules)

pub returns : goal.returns
unfolding none
returns c =
    no_more fixed_behind with_entry (λ s e es. refl) (λ s. refl) c.args.fixed.now c.loop-entry.entry-index none
    c.loop-entry.ids (fixed_behind c.args.ids.now c.args.fixed.now) c.loop-entry-test.false c.loop-entry.invariant
