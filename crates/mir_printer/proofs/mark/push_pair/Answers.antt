use Rattle.std.proofs.Common.{◌++◌, codes}
use Rattle.std.specs.Fmt.{decimal}
use Rattle.mir_printer.specs.Spelling.{pair_expression_text, pair_mark_text}
use Rattle.mir_printer.proofs.Appends.{joined, ended, labelled_pair, numbered}
use Rattle.mir_printer.proofs.mark.push_pair.Goals as goal

pub returns-clause-ok : goal.returns-clause-ok
returns-clause-ok c =
    let v = c.args.variable.now in
    let q = c.args.pair.now in
    let old = c.args.text.now in
    let start = codes "DBG_INSTR_REF !" in
    let reference = codes ", dbg-instr-ref(" in
    let comma = codes ", " in
    let node = start ++ decimal v.node in
    let expression = pair_expression_text v.fragment in
    let number = reference ++ decimal q.number in
    let operand = comma ++ decimal q.operand in
    ended c.push_str-2.result old c.push_numbered-3.new.text c.push_str-2.new.text ((((node ++ comma) ++ expression) ++ number) ++ operand) (codes ")")
    (pair_mark_text v q)
    (joined old c.push_numbered-2.new.text c.push_numbered-3.new.text (((node ++ comma) ++ expression) ++ number) operand
    (joined old c.push_pair_expression.new.text c.push_numbered-2.new.text ((node ++ comma) ++ expression) number
    (joined old c.push_str.new.text c.push_pair_expression.new.text (node ++ comma) expression
    (joined old c.push_numbered.new.text c.push_str.new.text node comma
    (numbered old c.push_numbered.new.text start c.number.result v.node c.in_ok-push_numbered.ensures.ok c.number.ensures)
    c.in_ok-push_str.ensures.ok)
    c.in_ok-push_pair_expression.ensures.ok)
    (numbered c.push_pair_expression.new.text c.push_numbered-2.new.text reference c.number-2.result q.number
    c.in_ok-push_numbered-2.ensures.ok c.number-2.ensures))
    (numbered c.push_numbered-2.new.text c.push_numbered-3.new.text comma c.number-3.result q.operand c.in_ok-push_numbered-3.ensures.ok c.number-3.ensures))
    c.push_str-2.ensures.ok
    (labelled_pair start (decimal v.node) comma expression reference (decimal q.number) comma (decimal q.operand) (codes ")"))
