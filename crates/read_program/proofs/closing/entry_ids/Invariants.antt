use Rattle.std.proofs.Common.{◌≡◌, drop}
use Rattle.read_program.specs.Closing.{ids_behind, entry_ids}
use Rattle.read_program.proofs.closing.entry_ids.Given as goal

abbrev pub invariant-loop-entry : goal.invariant-loop-entry
invariant-loop-entry l = ids_behind l.ids (drop l.entry-index l.entries) ≡ entry_ids l.entries
