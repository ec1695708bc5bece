use Rattle.std.proofs.Common.{arith}
use Rattle.dwarf_line_table.proofs.SourceTables.{entries_within}
use Rattle.dwarf_line_table.proofs.line_table.push_sequence.Goals as goal

pub rows-requires-clause-room : goal.rows-requires-clause-room
rows-requires-clause-room c =
    let few = entries_within _ _ _ _ c.code.invariant.stand c.as_slice-2.ensures in
    omega (arith, few, c.code.invariant.few, c.requires.room)

pub returns-clause-few : goal.returns-clause-few
returns-clause-few c =
    let few = entries_within _ _ _ _ c.code.invariant.stand c.as_slice-2.ensures in
    omega (arith, few, c.code.invariant.few, c.in_ok-rows.ensures.few)
