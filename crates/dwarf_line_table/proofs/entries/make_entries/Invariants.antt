use Rattle.std.proofs.Common.{drop}
use Rattle.dwarf_line_table.proofs.EntrySteps.{EntriesSoFar}
use Rattle.dwarf_line_table.proofs.entries.make_entries.Given as goal

abbrev pub invariant-loop-key : goal.invariant-loop-key
invariant-loop-key l = EntriesSoFar l.keys (drop l.key-index l.keys) l.dirs l.files
