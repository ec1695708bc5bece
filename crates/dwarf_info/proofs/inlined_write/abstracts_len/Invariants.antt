use Rattle.std.proofs.Common.{◌≡◌, length, take}
use Rattle.std.specs.List.{flat_map}
use Rattle.dwarf_base.specs.Size.{capped}
use Rattle.dwarf_info.specs.steps.Front.{abstract_bytes}
use Rattle.dwarf_info.proofs.inlined_write.abstracts_len.Given as goal

abbrev pub invariant-loop-name : goal.invariant-loop-name
invariant-loop-name l = l.len ≡ capped (length (flat_map abstract_bytes (take l.name-index l.names)))
