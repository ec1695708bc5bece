use Rattle.std.proofs.Common.{refl}
use Rattle.elf_object.proofs.HeaderLemmas.{file_header_written}
use Rattle.elf_object.proofs.header.push_file_header.Goals as goal

pub returns : goal.returns
returns c =
    file_header_written c.args.flags c.args.table c.args.count _ _ _ _ _ _ _ _ _ _ _ _ _ _ _ _ _ _ _ _ _ _ _ _ _ _ _ _ _ _ _
    c.in_ok-extend_from_slice.ensures.items c.in_ok-extend_from_slice-2.ensures.items c.in_ok-extend_from_slice-3.ensures.items c.in_ok-extend_from_slice-4.ensures.items c.in_ok-extend_from_slice-5.ensures.items c.in_ok-extend_from_slice-6.ensures.items c.in_ok-extend_from_slice-7.ensures.items c.in_ok-extend_from_slice-8.ensures.items c.in_ok-extend_from_slice-9.ensures.items c.in_ok-extend_from_slice-10.ensures.items c.in_ok-extend_from_slice-11.ensures.items c.in_ok-extend_from_slice-12.ensures.items c.in_ok-extend_from_slice-13.ensures.items c.in_ok-extend_from_slice-14.ensures.items c.in_ok-extend_from_slice-15.ensures.items
    refl refl c.to_le_bytes.ensures c.to_le_bytes-2.ensures c.to_le_bytes-3.ensures c.to_le_bytes-4.ensures c.to_le_bytes-5.ensures c.to_le_bytes-6.ensures c.to_le_bytes-7.ensures c.to_le_bytes-8.ensures c.to_le_bytes-9.ensures c.to_le_bytes-10.ensures c.to_le_bytes-11.ensures c.to_le_bytes-12.ensures c.to_le_bytes-13.ensures
