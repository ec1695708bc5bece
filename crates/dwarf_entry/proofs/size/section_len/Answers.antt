use Rattle.std.proofs.Common.{arith}
use Rattle.dwarf_entry.proofs.Lengths.{length-spelling}
use Rattle.dwarf_entry.proofs.size.section_len.Goals as goal

pub returns : goal.returns
returns c =
    omega (arith, length-spelling c.args.abbreviations.now (λ _. 0) c.args.tree.now, c.tree_len.ensures (λ _. 0), c.saturating_add.ensures)
