use Rattle.std.proofs.Common.{append_assoc, codes}
use Rattle.mir_printer.specs.Spelling.{value_mark_text, variable_text}
use Rattle.mir_printer.proofs.Appends.{ended}
use Rattle.mir_printer.proofs.mark.push_nothing.Goals as goal

pub returns-clause-ok : goal.returns-clause-ok
returns-clause-ok c =
    let variable = variable_text c.args.variable.now in
    ended c.push_variable.result c.args.text.now c.push_str.new.text c.push_variable.new.text (codes "DBG_VALUE $noreg") variable
    (value_mark_text (codes "$noreg") c.args.variable.now)
    c.in_ok-push_str.ensures.ok c.push_variable.ensures.ok (simp append_assoc)
