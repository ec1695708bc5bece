use Rattle.std.proofs.Common.{◌≡◌, drop}
use Rattle.read_body.specs.StackEntryKind.{ids_behind, ids_of_objects}
use Rattle.read_body.proofs.stack_entry_kind.object_ids.Given as goal

abbrev pub invariant-loop-entry : goal.invariant-loop-entry
invariant-loop-entry l = ids_behind l.named l.ids (drop l.entry-index l.entries) ≡ ids_of_objects l.named l.entries
