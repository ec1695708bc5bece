use Rattle.std.proofs.Common.{arith, subst, sym, ◌∙◌}
use Rattle.std.proofs.lemmas.Bool.{cond-true, cond-false, le-leb, lt-leb}
use Rattle.std.proofs.lemmas.Result.{err_from_is_err_and}
use Rattle.dwarf_frame.specs.declared.table.Row.{Row}
use Rattle.dwarf_frame.proofs.ReadLoops.{RowsGoing, rows_begin, rows_more, row_smaller, row_fault, padding_fault, rows_end}
use Rattle.dwarf_frame.proofs.read.rules_of_rows.Goals as goal

pub loop-before-init : goal.loop-before-init
loop-before-init c =
    subst (λ (b : Row). RowsGoing c.args.range c.args.bytes.now c.args.address b c.args.bytes.now b.rules) (sym c.initial-before.ensures)
    (rows_begin _ _ _ (λ i. omega (arith, c.type_inv.bytes i)))

pub returns-in_err-row : goal.returns-in_err-row
returns-in_err-row c =
    let p = err_from_is_err_and c.from_residual.result c.from_residual.ensures.1 in
    rw (p.1, p.2) (row_fault _ _ _ _ _ _ _ c.loop-before.invariant (sym c.is_row.ensures ∙ c.loop-before-test.true) c.in_err-row.ensures)

pub loop-before-smaller-then-row-address : goal.loop-before-smaller-then-row-address
loop-before-smaller-then-row-address c =
    row_smaller _ _ _ _ _ c.loop-before.invariant.are c.loop-before.invariant.fits c.in_ok-row.ensures

pub loop-before-preserved-then-row-address : goal.loop-before-preserved-then-row-address
loop-before-preserved-then-row-address c =
    rows_more _ _ _ _ _ _ _ _ _ c.loop-before.invariant (sym c.is_row.ensures ∙ c.loop-before-test.true) c.in_ok-row.ensures
    (sym (cond-true _ _ _ (le-leb _ _ c.if-row-address.true)))

pub loop-before-smaller : goal.loop-before-smaller
loop-before-smaller c = row_smaller _ _ _ _ _ c.loop-before.invariant.are c.loop-before.invariant.fits c.in_ok-row.ensures

pub loop-before-preserved : goal.loop-before-preserved
loop-before-preserved c =
    rows_more _ _ _ _ _ _ _ _ _ c.loop-before.invariant (sym c.is_row.ensures ∙ c.loop-before-test.true) c.in_ok-row.ensures
    (sym (cond-false _ _ _ (lt-leb _ _ c.if-row-address.false)))

pub returns-in_err-after_padding : goal.returns-in_err-after_padding
returns-in_err-after_padding c =
    let p = err_from_is_err_and c.from_residual-in_err-after_padding.result c.from_residual-in_err-after_padding.ensures.1 in
    rw (p.1, p.2)
    (padding_fault _ _ _ _ _ _ _ c.loop-before.invariant (sym c.is_row.ensures ∙ c.loop-before-test.false) c.in_err-after_padding.ensures)

pub returns : goal.returns
returns c = rows_end _ _ _ _ _ _ _ c.loop-before.invariant (sym c.is_row.ensures ∙ c.loop-before-test.false) c.in_ok-after_padding.ensures
