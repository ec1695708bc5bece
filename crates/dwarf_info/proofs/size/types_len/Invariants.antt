use Rattle.std.proofs.Common.{◌≡◌, length, take}
use Rattle.std.specs.List.{flat_map}
use Rattle.dwarf_info.specs.steps.Parts.{type_bytes}
use Rattle.dwarf_base.specs.Size.{capped}
use Rattle.dwarf_info.proofs.size.types_len.Given as goal

abbrev pub invariant-loop-base : goal.invariant-loop-base
invariant-loop-base l = l.len ≡ capped (length (flat_map type_bytes (take l.base-index l.types)))
