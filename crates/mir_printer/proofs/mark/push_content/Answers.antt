use Rattle.std.proofs.Common.{◌++◌, append_assoc, codes}
use Rattle.mir_printer.specs.Spelling.{value_mark_text, variable_text, register_text}
use Rattle.mir_printer.proofs.Appends.{joined, ended}
use Rattle.mir_printer.proofs.mark.push_content.Goals as goal

pub returns-clause-ok : goal.returns-clause-ok
returns-clause-ok c =
    let variable = variable_text c.args.variable.now in
    let start = codes "DBG_VALUE " in
    let value = register_text c.args.r in
    ended c.push_variable.result c.args.text.now c.push_register.new.text c.push_variable.new.text (start ++ value) variable
    (value_mark_text value c.args.variable.now)
    (joined c.args.text.now c.push_str.new.text c.push_register.new.text start value
    c.in_ok-push_str.ensures.ok c.in_ok-push_register.ensures.ok) c.push_variable.ensures.ok
    (simp append_assoc)
