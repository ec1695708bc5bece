use Rattle.std.specs.List.{flat_map}
use Rattle.std.proofs.Common.{length, take, arith, ap, length-append}
use Rattle.dwarf_info.specs.steps.Parts.{type_bytes}
use Rattle.dwarf_info.proofs.TreeLemmas.{front_le}
use Rattle.dwarf_info.proofs.write.push_types.Goals as goal

pub overflow_cast-len : goal.overflow_cast-len
overflow_cast-len c =
    omega (
      arith,
      ap length c.loop-base.invariant.written,
      length-append c.args.out.now.items (flat_map type_bytes (take c.loop-base.base-index c.args.types.now)),
      front_le type_bytes c.args.types.now c.loop-base.base-index,
      c.requires.room,
      c.len.ensures,
    )
