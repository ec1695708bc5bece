use Rattle.std.proofs.Common.{◌≡◌, ◌++◌, take}
use Rattle.std.specs.List.{flat_map}
use Rattle.mir_func_printer.specs.FuncText.{item_line}
use Rattle.mir_func_printer.proofs.body.push_items.Given as goal

abbrev pub invariant-loop-item : goal.invariant-loop-item
invariant-loop-item l = l.text ≡ l.initial.text ++ flat_map item_line (take l.item-index l.items)
