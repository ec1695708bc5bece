use Rattle.std.proofs.Common.{◌≡◌, ◌++◌, take}
use Rattle.std.specs.List.{flat_map}
use Rattle.mir_func_printer.specs.FuncText.{slot_line}
use Rattle.mir_func_printer.proofs.stack.push_slots.Given as goal

abbrev pub invariant-loop-slot : goal.invariant-loop-slot
invariant-loop-slot l = l.text ≡ l.initial.text ++ flat_map slot_line (take l.slot-index l.slots)
