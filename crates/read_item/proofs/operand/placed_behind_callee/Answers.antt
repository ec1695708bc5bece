use Rattle.std.proofs.Common.{◌≡◌, ◌-◌, List, Option, length, take, drop, subst}
use Rattle.std.specs.Prelude.{IfOk}
use Rattle.rv64_instr.specs.declared.operand.Operand.{Operand}
use Rattle.read_line.specs.declared.form.OperandForm.{OperandForm}
use Rattle.read_item.specs.declared.place.OperandKind.{OperandKind}
use Rattle.read_item.specs.Place.{behind}
use Rattle.read_item.specs.Code.{before, append_to, placed, placed_behind_callee}
use Rattle.read_item.proofs.Operands.{callee_none, first_and_rest}
use Rattle.read_item.proofs.operand.placed_behind_callee.Goals as goal

pub returns-in-empty : goal.returns-in-empty
returns-in-empty c = callee_none c.args.first c.args.places.now c.args.forms.now c.in-empty.len_below

pub returns-in-len1-up : goal.returns-in-len1-up
returns-in-len1-up c =
    let xs = c.args.first in
    let ps = c.args.places.now in
    let os = c.args.forms.now in
    let o = c.callee-item.result in
    let rest : List OperandForm = take (length os - 1) (drop 1 os) in
    let read = c.placed_behind_some in
    let whole = first_and_rest os o c.in-len1-up.len_at_least c.callee-item.is in
    subst (λ (zs : List OperandForm). IfOk read.result (λ operands. operands ≡ append_to xs (placed_behind_callee ps zs))) whole
    (subst (λ (d : Option Operand). IfOk read.result (λ operands. operands ≡ append_to xs (before d (placed (behind ps) rest)))) c.callee_operand.ensures
    (subst (λ (qs : List OperandKind). IfOk read.result (λ operands. operands ≡ append_to xs (before c.callee_operand.result (placed qs rest))))
    c.behind.ensures read.ensures))
