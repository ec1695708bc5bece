use Rattle.std.proofs.Common.{◌∙◌, arith}
use Rattle.dwarf_entry.proofs.Lengths.{length-spelling}
use Rattle.dwarf_entry.proofs.Writing.{section_written}
use Rattle.dwarf_entry.proofs.write.write_entries.Goals as goal

pub overflow_sub-size : goal.overflow_sub-size
overflow_sub-size c =
    omega (arith, length-spelling c.args.abbreviations.now (λ _. 0) c.args.tree.now, c.requires.size, c.section_len-size.ensures)

pub returns : goal.returns
returns c =
    c.from.ensures
    ∙ section_written c.args.abbreviations.now c.args.tree.now _ _ _ _ _ _ c.in_ok-out.ensures.items c.in_ok-push_header.ensures
    (omega (arith, length-spelling c.args.abbreviations.now (λ _. 0) c.args.tree.now, c.requires.size, c.section_len-size.ensures))
    c.in_ok-offsets.ensures c.requires.references c.as_slice.ensures.value c.in_ok-push_items.ensures
