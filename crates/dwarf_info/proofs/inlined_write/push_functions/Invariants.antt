use Rattle.std.proofs.Common.{◌≡◌, ◌≤◌, ◌++◌, length, drop}
use Rattle.dwarf_info.specs.Inlined.{inlined_functions}
use Rattle.dwarf_info.specs.steps.Parts.{in_table}
use Rattle.dwarf_info.proofs.inlined_write.push_functions.Given as goal

abbrev pub invariant-loop-function : goal.invariant-loop-function
invariant-loop-function l = record {
  few : l.first ≤ length l.out.items;
  written : l.out.items ++ inlined_functions (in_table l.offsets) (in_table l.origins) l.first (drop l.function-index l.functions)
      ≡ l.fn.out.items ++ inlined_functions (in_table l.offsets) (in_table l.origins) 0 l.functions;
}
