use Rattle.std.proofs.Common.{◌≡◌, ◌++◌, rules, append_assoc, codes}
use Rattle.std.specs.Fmt.{signed_decimal}
use Rattle.mir_printer.specs.Spelling.{value_mark_text, variable_text}
use Rattle.mir_printer.proofs.Appends.{joined, ended}
use Rattle.mir_printer.proofs.mark.push_constant.Goals as goal

pub returns-clause-ok : goal.returns-clause-ok
returns-clause-ok c =
    let variable = variable_text c.args.variable.now in
    let start = codes "DBG_VALUE " in
    let value = signed_decimal c.args.c in
    let signed : c.push_signed.new.text ≡ c.push_str.new.text ++ value = search rules in
    ended c.push_variable.result c.args.text.now c.push_signed.new.text c.push_variable.new.text (start ++ value) variable
    (value_mark_text value c.args.variable.now)
    (joined c.args.text.now c.push_str.new.text c.push_signed.new.text start value c.in_ok-push_str.ensures.ok signed) c.push_variable.ensures.ok
    (simp append_assoc)
