use Rattle.std.specs.List.{flat_map}
use Rattle.std.proofs.Common.{length, take, arith, ap, length-append}
use Rattle.dwarf_info.specs.steps.Front.{abstract_bytes}
use Rattle.dwarf_info.proofs.TreeLemmas.{front_le}
use Rattle.dwarf_info.proofs.inlined_write.push_abstracts.Goals as goal

pub overflow_cast-len : goal.overflow_cast-len
overflow_cast-len c =
    omega (
      arith,
      ap length c.loop-name.invariant.written,
      length-append c.args.out.now.items (flat_map abstract_bytes (take c.loop-name.name-index c.args.names.now)),
      front_le abstract_bytes c.args.names.now c.loop-name.name-index,
      c.requires.room,
      c.len.ensures,
    )
