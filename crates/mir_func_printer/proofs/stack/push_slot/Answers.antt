use Rattle.std.proofs.Common.{◌++◌, refl, codes}
use Rattle.std.specs.Fmt.{decimal}
use Rattle.mir_printer.proofs.Appends.{ended, numbered}
use Rattle.mir_func_printer.specs.FuncText.{slot_line}
use Rattle.mir_func_printer.proofs.stack.push_slot.Goals as goal

pub returns : goal.returns
returns c =
    let label = codes "  - { id: " in
    ended c.push_str.result c.args.text.now c.push_numbered.new.text c.push_str.new.text (label ++ decimal c.args.slot) _ (slot_line c.args.slot)
    (numbered c.args.text.now c.push_numbered.new.text label c.number.result c.args.slot c.in_ok-push_numbered.ensures.ok c.number.ensures)
    c.push_str.ensures.ok refl
