use Rattle.std.proofs.Common.{◌≡◌, drop}
use Rattle.read_body.specs.StackEntryKind.{slots_behind, slots_of}
use Rattle.read_body.proofs.stack_entry_kind.slots.Given as goal

abbrev pub invariant-loop-entry : goal.invariant-loop-entry
invariant-loop-entry l = slots_behind l.named l.slots (drop l.entry-index l.entries) ≡ slots_of l.named l.entries
