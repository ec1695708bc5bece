use Rattle.dwarf_entry.specs.steps.Offsets.{in_table}
use Rattle.entry_placement.proofs.Units.{grows_entry}
use Rattle.entry_placement.proofs.content.push_entry.Goals as goal

pub returns-clause-bytes : goal.returns-clause-bytes
returns-clause-bytes c =
    let grown =
    grows_entry c.args.symbols.now c.args.abbreviations.now (in_table c.args.offsets.now) c.args.entry.now _ _ _ _ _ _ c.in_ok-push_code.ensures
    c.as_slice.ensures (record { written_are = c.in_ok-push_attributes.ensures.bytes; relocated = c.in_ok-push_attributes.ensures.relocations }) in
    grown.written_are

pub returns-clause-relocations : goal.returns-clause-relocations
returns-clause-relocations c =
    let grown =
    grows_entry c.args.symbols.now c.args.abbreviations.now (in_table c.args.offsets.now) c.args.entry.now _ _ _ _ _ _ c.in_ok-push_code.ensures
    c.as_slice.ensures (record { written_are = c.in_ok-push_attributes.ensures.bytes; relocated = c.in_ok-push_attributes.ensures.relocations }) in
    grown.relocated
