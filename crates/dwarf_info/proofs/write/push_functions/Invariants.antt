use Rattle.std.proofs.Common.{◌≡◌, ◌++◌, take}
use Rattle.std.specs.List.{flat_map}
use Rattle.dwarf_info.specs.steps.Parts.{function_bytes, in_table}
use Rattle.dwarf_info.proofs.write.push_functions.Given as goal

abbrev pub invariant-loop-function : goal.invariant-loop-function
invariant-loop-function l = l.out.items ≡ l.fn.out.items ++ flat_map (function_bytes (in_table l.offsets)) (take l.function-index l.functions)
