use Rattle.std.proofs.Common.{◌∙◌}
use Rattle.dwarf_frame.proofs.WriteLoops.{appended, common_written, front_written}
use Rattle.dwarf_frame.proofs.write.push_common.Goals as goal

pub returns : goal.returns
returns c =
    appended c.extend_from_slice-4.result _ _ _ _ c.extend_from_slice-4.ensures.items
    (common_written c.args.undefined.now _ _ _ _ _ _ _ c.in_ok-extend_from_slice-2.ensures.items c.in_ok-extend_from_slice-3.ensures.items
    c.to_le_bytes.ensures c.to_le_bytes-2.ensures c.common_len.ensures
    (c.as_slice.ensures.value ∙ c.in_ok-push_padding.ensures
    ∙ front_written c.args.undefined.now _ _ _ c.new-opcodes.ensures.items c.in_ok-extend_from_slice.ensures.items c.in_ok-push_undefined.ensures))
