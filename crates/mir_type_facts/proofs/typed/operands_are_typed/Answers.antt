use Rattle.std.proofs.Common.{sym, subst}
use Rattle.std.proofs.lemmas.List.{take_all}
use Rattle.std.proofs.lemmas.List.Elements.{All-more, All-same}
use Rattle.mir_printer.specs.Printable.{HasNumbers}
use Rattle.mir_type_facts.proofs.typed.operands_are_typed.Goals as goal

pub loop-operand-preserved : goal.loop-operand-preserved
loop-operand-preserved c =
    All-more HasNumbers c.args.operands.now c.loop-operand.operand-index c.operand-item.result c.loop-operand-test.true c.loop-operand.invariant
    (subst HasNumbers c.operand-item.is c.operand_is_typed.ensures)

pub returns : goal.returns
returns c =
    All-same HasNumbers c.args.operands.now _ (sym (take_all c.loop-operand.operand-index c.args.operands.now c.loop-operand-test.false))
    c.loop-operand.invariant
