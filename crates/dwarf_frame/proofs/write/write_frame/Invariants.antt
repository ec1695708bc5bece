use Rattle.std.proofs.Common.{◌≡◌, ◌++◌, take}
use Rattle.std.specs.List.{flat_map}
use Rattle.dwarf_frame.specs.Spelling.{common_entry, description}
use Rattle.dwarf_frame.proofs.write.write_frame.Given as goal

abbrev pub invariant-loop-function : goal.invariant-loop-function
invariant-loop-function l = l.out.items ≡ common_entry l.undefined ++ flat_map description (take l.function-index l.functions)
