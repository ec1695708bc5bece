use Rattle.std.proofs.Common.{sym, ◌∙◌}
use Rattle.pass_salvage.proofs.Found.{first_on, first_found}
use Rattle.pass_salvage.proofs.salvage_action.first_in.Goals as goal

pub returns-then-is_definition : goal.returns-then-is_definition
returns-then-is_definition c =
    sym (first_found c.args.call c.args.s c.args.operands.now c.loop-o.o c.index-operands-o.result c.loop-o-test.true c.index-operands-o.is c.loop-o.invariant
    (sym c.is_definition.ensures ∙ c.if-is_definition.true))

pub loop-o-preserved : goal.loop-o-preserved
loop-o-preserved c =
    first_on c.args.call c.args.s c.args.operands.now c.loop-o.o c.index-operands-o.result c.loop-o-test.true c.index-operands-o.is c.loop-o.invariant
    (sym c.is_definition.ensures ∙ c.if-is_definition.false)
