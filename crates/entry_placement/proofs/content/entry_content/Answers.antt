use Rattle.std.proofs.Common.{◌∙◌, arith}
use Rattle.dwarf_entry.proofs.Lengths.{length-spelling}
use Rattle.entry_placement.proofs.Units.{unit_grown}
use Rattle.entry_placement.proofs.content.entry_content.Goals as goal

pub overflow_sub-size : goal.overflow_sub-size
overflow_sub-size c =
    omega (arith, length-spelling c.args.abbreviations.now (λ _. 0) c.args.tree.now, c.requires.size, c.section_len-size.ensures)

pub returns-clause-bytes : goal.returns-clause-bytes
returns-clause-bytes c =
    let grown =
    unit_grown c.args.symbols.now c.args.abbreviations.now c.args.tree.now _ _ _ _ _ _ _ _ _ c.in_ok-bytes.ensures.items c.new-relocations.ensures
    (omega (arith, length-spelling c.args.abbreviations.now (λ _. 0) c.args.tree.now, c.requires.size, c.section_len-size.ensures))
    c.in_ok-offsets.ensures c.requires.references c.as_slice.ensures.value
    (record { written_are = c.in_ok-push_header.ensures.bytes; relocated = c.in_ok-push_header.ensures.relocations })
    (record { written_are = c.in_ok-push_items.ensures.bytes; relocated = c.in_ok-push_items.ensures.relocations }) in
    c.from.ensures ∙ grown.written_are

pub returns-clause-relocations : goal.returns-clause-relocations
returns-clause-relocations c =
    let grown =
    unit_grown c.args.symbols.now c.args.abbreviations.now c.args.tree.now _ _ _ _ _ _ _ _ _ c.in_ok-bytes.ensures.items c.new-relocations.ensures
    (omega (arith, length-spelling c.args.abbreviations.now (λ _. 0) c.args.tree.now, c.requires.size, c.section_len-size.ensures))
    c.in_ok-offsets.ensures c.requires.references c.as_slice.ensures.value
    (record { written_are = c.in_ok-push_header.ensures.bytes; relocated = c.in_ok-push_header.ensures.relocations })
    (record { written_are = c.in_ok-push_items.ensures.bytes; relocated = c.in_ok-push_items.ensures.relocations }) in
    grown.relocated
