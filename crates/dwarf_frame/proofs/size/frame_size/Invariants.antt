use Rattle.std.proofs.Common.{◌≡◌, ◌+◌, length, take}
use Rattle.std.specs.List.{flat_map}
use Rattle.dwarf_base.specs.Size.{capped}
use Rattle.dwarf_frame.specs.Spelling.{common_fields, description}
use Rattle.dwarf_frame.proofs.size.frame_size.Given as goal

abbrev pub invariant-loop-function : goal.invariant-loop-function
invariant-loop-function l = l.size ≡ capped (8 + length (common_fields l.undefined) + length (flat_map description (take l.function-index l.functions)))
