use Rattle.dwarf_frame.proofs.WriteLoops.{appended, fields_written}
use Rattle.dwarf_frame.proofs.write.push_fields.Goals as goal

pub returns : goal.returns
returns c =
    appended c.extend_from_slice-4.result _ _ _ _ c.extend_from_slice-4.ensures.items
    (fields_written _ _ _ _ _ _ _ _ c.args.opcodes c.args.start c.args.size c.in_ok-extend_from_slice.ensures.items
    c.in_ok-extend_from_slice-2.ensures.items c.in_ok-extend_from_slice-3.ensures.items c.to_le_bytes.ensures c.to_le_bytes-2.ensures
    c.to_le_bytes-3.ensures c.to_le_bytes-4.ensures)
