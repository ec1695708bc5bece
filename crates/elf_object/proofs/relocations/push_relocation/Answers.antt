use Rattle.elf_object.proofs.TableLemmas.{relocation_written}
use Rattle.elf_object.proofs.relocations.push_relocation.Goals as goal

pub returns : goal.returns
returns c =
    relocation_written c.args.relocation.now _ _ _ _ _ _ _ _ _
    c.in_ok-extend_from_slice.ensures.items c.in_ok-extend_from_slice-2.ensures.items c.in_ok-extend_from_slice-3.ensures.items c.in_ok-extend_from_slice-4.ensures.items
    c.to_le_bytes.ensures c.to_le_bytes-2.ensures c.to_le_bytes-3.ensures c.to_le_bytes-4.ensures
