use Rattle.std.proofs.Common.{sym, ap, ◌∙◌}
use Rattle.read_item.specs.declared.place.OperandKind.{OperandKind}
use Rattle.read_item.specs.Code.{operand_at}
use Rattle.read_item.proofs.Operands.{placed-none, placed-some, placed-end}
use Rattle.read_item.proofs.operand.placed.Goals as goal

pub returns-in-None : goal.returns-in-None
returns-in-None c =
    placed-none c.loop-form.operands c.loop-form.rest.now c.args.forms.now c.loop-form.form-index c.form-item.result _ c.loop-form-test.true c.form-item.is
    (sym c.in-None.is ∙ (c.in_ok-operand.ensures ∙ ap (λ (p : OperandKind). operand_at p c.form-item.result) c.front.ensures)) c.loop-form.invariant

pub loop-form-preserved : goal.loop-form-preserved
loop-form-preserved c =
    rw (c.behind-rest.ensures, c.in_ok-push-in-Some.ensures.ok) (placed-some c.loop-form.operands c.loop-form.rest.now c.args.forms.now c.loop-form.form-index
    c.form-item.result c.in-Some.operand _ c.loop-form-test.true c.form-item.is
    (sym c.in-Some.is ∙ (c.in_ok-operand.ensures ∙ ap (λ (p : OperandKind). operand_at p c.form-item.result) c.front.ensures)) c.loop-form.invariant)

pub returns : goal.returns
returns c = placed-end c.loop-form.operands c.loop-form.rest.now c.args.forms.now c.loop-form.form-index _ c.loop-form-test.false c.loop-form.invariant
