use Rattle.std.proofs.Common.{◌++◌, append_assoc, codes}
use Rattle.std.specs.Fmt.{decimal}
use Rattle.mir_printer.specs.Spelling.{expression_text, variable_text}
use Rattle.mir_printer.proofs.Appends.{joined, ended, numbered}
use Rattle.mir_printer.proofs.mark.push_variable.Goals as goal

pub returns-clause-ok : goal.returns-clause-ok
returns-clause-ok c =
    let v = c.args.variable.now in
    let label = codes ", $noreg, !" in
    let node = label ++ decimal v.node in
    ended c.push_expression.result c.args.text.now c.push_str.new.text c.push_expression.new.text (node ++ codes ", ") (expression_text v.fragment)
    (variable_text v)
    (joined c.args.text.now c.push_numbered.new.text c.push_str.new.text node (codes ", ")
    (numbered c.args.text.now c.push_numbered.new.text label c.number.result v.node c.in_ok-push_numbered.ensures.ok c.number.ensures)
    c.in_ok-push_str.ensures.ok)
    c.push_expression.ensures.ok (simp append_assoc)
