use Rattle.std.proofs.Common.{ap, ◌∙◌}
use Rattle.std.specs.Int.{w64, to_le_bytes}
use Rattle.elf_object.proofs.HeaderLemmas.{section_header_written}
use Rattle.elf_object.proofs.header.push_section_header.Goals as goal

pub returns-clause-bytes : goal.returns-clause-bytes
returns-clause-bytes c =
    section_header_written c.args.name_at c.args.offset c.args.section.now _ _ _ _ _ _ _ _ _ _ _ _ _ _ _ _ _ _ _ _ _
    c.in_ok-extend_from_slice.ensures.items c.in_ok-extend_from_slice-2.ensures.items c.in_ok-extend_from_slice-3.ensures.items c.in_ok-extend_from_slice-4.ensures.items c.in_ok-extend_from_slice-5.ensures.items c.in_ok-extend_from_slice-6.ensures.items c.in_ok-extend_from_slice-7.ensures.items c.in_ok-extend_from_slice-8.ensures.items c.in_ok-extend_from_slice-9.ensures.items c.in_ok-extend_from_slice-10.ensures.items
    c.to_le_bytes.ensures c.to_le_bytes-2.ensures c.to_le_bytes-3.ensures c.to_le_bytes-4.ensures c.to_le_bytes-5.ensures (c.to_le_bytes-6.ensures ∙ ap (to_le_bytes w64) c.len.ensures) c.to_le_bytes-7.ensures c.to_le_bytes-8.ensures c.to_le_bytes-9.ensures c.to_le_bytes-10.ensures
