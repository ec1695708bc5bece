use Rattle.std.proofs.Common.{◌++◌, refl}
use Rattle.mir_printer.proofs.Appends.{ended, joined}
use Rattle.mir_func_printer.specs.FuncText.{local_text, object_numbers, object_line}
use Rattle.mir_func_printer.proofs.stack.push_object.Goals as goal

pub returns : goal.returns
returns c =
    let o = c.args.object.now in
    let old = c.args.text.now in
    let second = joined old c.push_numbers.new.text c.push_local_offset.new.text (object_numbers o) (local_text o.local_offset) c.in_ok-push_numbers.ensures
    c.in_ok-push_local_offset.ensures in
    ended c.push_str.result old c.push_local_offset.new.text c.push_str.new.text (object_numbers o ++ local_text o.local_offset) _ (object_line o) second
    c.push_str.ensures.ok refl
