use Rattle.std.proofs.Common.{[], arith, ap, sym, ◌∙◌}
use Rattle.dwarf_line.specs.declared.table.Row.{Row}
use Rattle.std.proofs.lemmas.List.{drop_all}
use Rattle.dwarf_line_table.proofs.Split.{split_at}
use Rattle.prologue_rows.specs.Rows.{line_file}
use Rattle.prologue_rows.proofs.Numbered.{starts, next, done}
use Rattle.prologue_rows.proofs.RowWith.{row_with}
use Rattle.prologue_rows.proofs.rows.rows_of.Goals as goal

pub loop-line-init : goal.loop-line-init
loop-line-init c = starts (line_file c.args.meta.now c.args.unit.now) row_with c.args.files.now c.args.lines.now [] _ c.new-rows.ensures

pub row-requires : goal.row-requires
row-requires c = omega (arith, c.loop-line.invariant.few, c.requires, c.loop-line-test.true)

pub loop-line-preserved : goal.loop-line-preserved
loop-line-preserved c =
    let r = c.in_ok-row.field-0 in
    next (line_file c.args.meta.now c.args.unit.now) row_with _ _ _ _ _ _ c.line-item.result [] _ _ r.file r c.loop-line.invariant
    (split_at c.args.lines.now c.loop-line.line-index c.line-item.result c.loop-line-test.true c.line-item.is)
    c.in_ok-row.ensures.known (λ more. ap (λ (q : Row). q.file) (c.in_ok-row.ensures.row more)) c.in_ok-row.ensures.few
    (let is = c.in_ok-row.ensures.row [] in is ∙ ap (λ n. row_with n c.line-item.result) (sym (ap (λ (q : Row). q.file) is))) c.in_ok-push.ensures.ok

pub returns : goal.returns
returns c =
    let all = done (line_file c.args.meta.now c.args.unit.now) row_with _ _ _ _ [] _ c.loop-line.invariant
    (drop_all c.loop-line.line-index c.args.lines.now c.loop-line-test.false) in
    record { known = all.known; rows = all.listed; few = all.few }
