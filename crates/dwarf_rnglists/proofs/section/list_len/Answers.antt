use Rattle.std.proofs.Common.{ℕ, arith, length-append}
use Rattle.dwarf_loclists.proofs.SpellingLemmas.{front_le}
use Rattle.dwarf_rnglists.specs.Spelling.{entry}
use Rattle.dwarf_rnglists.proofs.section.list_len.Goals as goal

pub overflow_add-size : goal.overflow_add-size
overflow_add-size c = omega (arith, front_le entry c.args.ranges.now c.loop-range.range-index, length-append {A = ℕ})
