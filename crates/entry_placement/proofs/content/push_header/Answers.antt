use Rattle.entry_placement.proofs.Units.{grows_header}
use Rattle.entry_placement.proofs.content.push_header.Goals as goal

pub returns-clause-bytes : goal.returns-clause-bytes
returns-clause-bytes c =
    let grown =
    grows_header c.args.symbols.now c.args.length_after _ _ _ _ _ _ _ _ c.in_ok-push_u32.ensures c.in_ok-push_u16.ensures c.in_ok-push.ensures.items
    c.in_ok-push-2.ensures.items
    (record { written_are = c.in_ok-push_offset.ensures.bytes; relocated = c.in_ok-push_offset.ensures.relocations }) in
    grown.written_are

pub returns-clause-relocations : goal.returns-clause-relocations
returns-clause-relocations c =
    let grown =
    grows_header c.args.symbols.now c.args.length_after _ _ _ _ _ _ _ _ c.in_ok-push_u32.ensures c.in_ok-push_u16.ensures c.in_ok-push.ensures.items
    c.in_ok-push-2.ensures.items
    (record { written_are = c.in_ok-push_offset.ensures.bytes; relocated = c.in_ok-push_offset.ensures.relocations }) in
    grown.relocated
