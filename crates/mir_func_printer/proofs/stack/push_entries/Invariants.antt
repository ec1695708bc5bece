use Rattle.std.proofs.Common.{◌≡◌, ◌++◌, take}
use Rattle.std.specs.List.{flat_map}
use Rattle.mir_func_printer.specs.FuncText.{entry_line}
use Rattle.mir_func_printer.proofs.stack.push_entries.Given as goal

abbrev pub invariant-loop-entry : goal.invariant-loop-entry
invariant-loop-entry l = l.text ≡ l.initial.text ++ flat_map entry_line (take l.entry-index l.entries)
