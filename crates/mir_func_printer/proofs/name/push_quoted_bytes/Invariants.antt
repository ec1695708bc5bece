use Rattle.std.proofs.Common.{◌≡◌, ◌++◌, take}
use Rattle.std.specs.List.{flat_map}
use Rattle.mir_printer.specs.Spelling.{quoted_byte}
use Rattle.mir_func_printer.proofs.name.push_quoted_bytes.Given as goal

abbrev pub invariant-loop-b : goal.invariant-loop-b
invariant-loop-b l = l.text ≡ l.initial.text ++ flat_map quoted_byte (take l.b-index l.name)
