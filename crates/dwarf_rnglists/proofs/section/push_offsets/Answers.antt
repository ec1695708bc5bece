use Rattle.std.proofs.Common.{arith, ap, length}
use Rattle.dwarf_loclists.proofs.SpellingLemmas.{front_le, next_le}
use Rattle.dwarf_rnglists.specs.Spelling.{list_spelling}
use Rattle.dwarf_rnglists.proofs.section.push_offsets.Goals as goal

pub overflow_cast-offset : goal.overflow_cast-offset
overflow_cast-offset c = omega (arith, front_le list_spelling c.args.lists.now c.loop-list.list-index)

pub list_len-offset-requires : goal.list_len-offset-requires
list_len-offset-requires c =
    rw c.as_slice.ensures (omega (arith, next_le list_spelling c.args.lists.now _ _ c.loop-list-test.true c.list-item.is))

pub overflow_add-offset : goal.overflow_add-offset
overflow_add-offset c =
    omega (arith, next_le list_spelling c.args.lists.now _ _ c.loop-list-test.true c.list-item.is, ap (λ ys. length (list_spelling ys)) c.as_slice.ensures)
