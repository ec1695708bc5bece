use Rattle.std.proofs.Common.{ℕ, refl, arith, length-append}
use Rattle.dwarf_loclists.proofs.SpellingLemmas.{front_le}
use Rattle.dwarf_rnglists.specs.Spelling.{entry}
use Rattle.dwarf_rnglists.proofs.section.with_list.Goals as goal

pub returns-then-size-ge-SECTION_LIMIT-clause-none : goal.returns-then-size-ge-SECTION_LIMIT-clause-none
returns-then-size-ge-SECTION_LIMIT-clause-none c =
    ((λ _. omega (arith, front_le entry c.args.ranges.now c.loop-range.range-index, length-append {A = ℕ})), λ _. refl)
