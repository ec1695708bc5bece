use Rattle.std.proofs.Common.{subst}
use Rattle.std.proofs.lemmas.List.{drop_all}
use Rattle.dwarf_line_table.proofs.EntrySteps.{EntriesSoFar, entries_done}
use Rattle.dwarf_line_table.proofs.entries.make_entries.Goals as goal

pub returns-clause-files : goal.returns-clause-files
returns-clause-files c =
    let so = subst (λ rest. EntriesSoFar c.args.keys.now rest c.loop-key.dirs c.loop-key.files)
    (drop_all c.loop-key.key-index c.args.keys.now c.loop-key-test.false) c.loop-key.invariant in
    (entries_done c.args.keys.now c.loop-key.dirs c.loop-key.files so).1
