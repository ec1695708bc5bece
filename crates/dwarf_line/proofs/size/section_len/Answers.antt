use Rattle.std.proofs.Common.{length, arith, ap}
use Rattle.dwarf_line.specs.Spelling.{program}
use Rattle.dwarf_line.proofs.SpellingLemmas.{length-spelling}
use Rattle.dwarf_line.proofs.size.section_len.Goals as goal

pub returns : goal.returns
returns c = omega (
  arith,
  length-spelling c.args.t.now,
  ap (λ ss. length (program ss)) c.as_slice.ensures,
  c.tables_len.ensures,
  c.program_len.ensures,
  c.saturating_add.ensures,
  c.saturating_add-2.ensures,
)
