use Rattle.std.proofs.Common.{◌≡◌, ◌++◌, take}
use Rattle.std.specs.List.{flat_map}
use Rattle.mir_func_printer.specs.FuncText.{fixed_stack_line}
use Rattle.mir_func_printer.proofs.fixed.push_lines.Given as goal

abbrev pub invariant-loop-object : goal.invariant-loop-object
invariant-loop-object l = l.text ≡ l.initial.text ++ flat_map fixed_stack_line (take l.object-index l.objects)
