use Rattle.std.specs.Option.{option_copied}
use Rattle.std.proofs.Common.{◌+◌, ◌*◌, arith, ap, length, inl, inr}
use Rattle.std.proofs.lemmas.Result.{err_from_is_err_and}
use Rattle.dwarf_loclists.proofs.SplitLemmas.{is_empty, not_empty}
use Rattle.dwarf_loclists.specs.Fault.{ListOffset}
use Rattle.dwarf_loclists.proofs.ListLemmas.{offset_is, offset_stands, only_offset, list_start, lists_more, no_lists, whole_slice, lists_end, lists_past}
use Rattle.dwarf_loclists.proofs.list_reader.read_lists.Goals as goal
use Rattle.dwarf_loclists.proofs.list_reader.read_lists.Goals.{then-number-k, else-number-k}

pub overflow_cast-offset : goal.overflow_cast-offset
overflow_cast-offset c = omega (arith, c.loop-number.invariant.at.within, c.requires.size)

pub loop-number-init : goal.loop-number-init
loop-number-init c =
    let table = whole_slice 12 c.args.bytes.now in
    let lists = whole_slice (12 + 4 * c.args.count) c.args.bytes.now in
    rw (table, lists) (no_lists c.args.bytes.now c.args.count c.args.k c.args.address _ _ c.requires.at)

pub returns-in_err-table-clause-err : goal.returns-in_err-table-clause-err
returns-in_err-table-clause-err c =
    let r = c.loop-number.invariant in
    let p = err_from_is_err_and c.from_residual.result c.from_residual.ensures.1 in
    let offset = offset_is c.args.bytes.now c.args.count r.done c.loop-number.table.now c.loop-number.rest.now r.at c.to_le_bytes.result c.to_le_bytes.ensures
    in
    rw (p.1, p.2) (c.in_err-table.ensures.err (ListOffset c.args.count r.done)
    (offset_stands c.args.bytes.now c.args.count c.loop-number.number c.args.k c.args.address _ c.loop-number.table.now c.loop-number.rest.now r
    c.loop-number-test.true) (λ done e. cc)
    (only_offset (length c.args.bytes.now) c.args.count r.done c.to_le_bytes.result (omega (arith, r.count, c.loop-number-test.true)) offset))

pub returns-in_err-list-clause-err : goal.returns-in_err-list-clause-err
returns-in_err-list-clause-err c =
    let r = c.loop-number.invariant in
    let p = err_from_is_err_and c.from_residual-in_err-list.result c.from_residual-in_err-list.ensures.1 in
    let offset = offset_is c.args.bytes.now c.args.count r.done c.loop-number.table.now c.loop-number.rest.now r.at c.to_le_bytes.result c.to_le_bytes.ensures
    in
    let start =
    list_start c.args.bytes.now c.args.count r.done c.to_le_bytes.result c.loop-number.table.now c.loop-number.rest.now c.in_ok-table.table.now r.at
    (omega (arith, r.count, c.loop-number-test.true))
    c.in_ok-table.ensures.front offset in
    rw (p.1, p.2) (c.in_err-list.ensures.err c.args.count r.done start)

pub loop-number-preserved : goal.loop-number-preserved
loop-number-preserved c =
    let r = c.loop-number.invariant in
    let offset = offset_is c.args.bytes.now c.args.count r.done c.loop-number.table.now c.loop-number.rest.now r.at c.to_le_bytes.result c.to_le_bytes.ensures
    in
    let start =
    list_start c.args.bytes.now c.args.count r.done c.to_le_bytes.result c.loop-number.table.now c.loop-number.rest.now c.in_ok-table.table.now r.at
    (omega (arith, r.count, c.loop-number-test.true))
    c.in_ok-table.ensures.front offset in
    lists_more c.args.bytes.now c.args.count c.loop-number.number c.args.k c.args.address (option_copied c.loop-number.found) c.to_le_bytes.result
    c.loop-number.table.now
    c.loop-number.rest.now c.in_ok-table.table.now (option_copied c.in_ok-list.list.found) c.in_ok-list.list.rest.now r c.loop-number-test.true
    c.in_ok-table.ensures.front
    (omega (arith, ap length c.to_le_bytes.ensures)) (c.in_ok-list.ensures.ok c.args.count r.done start) (option_copied c.if-number-k.found)
    (elim c.if-number-k.branch [
      | then-number-k w ↦ inl (w.if-number-k.true, ap option_copied w.found-is)
      | else-number-k w ↦ inr (w.if-number-k.false, ap option_copied w.found-is)
    ])

pub returns-then-is_empty-clause-ok : goal.returns-then-is_empty-clause-ok
returns-then-is_empty-clause-ok c =
    lists_end c.args.bytes.now c.args.count c.loop-number.number c.args.k c.args.address _ c.loop-number.table.now c.loop-number.rest.now
    c.loop-number.invariant c.loop-number-test.false
    (is_empty c.loop-number.rest.now _ c.is_empty.ensures c.if-is_empty.true)

pub returns-else-is_empty-clause-err : goal.returns-else-is_empty-clause-err
returns-else-is_empty-clause-err c =
    lists_past c.args.bytes.now c.args.count c.loop-number.number c.args.k c.args.address _ _ c.loop-number.table.now c.loop-number.rest.now
    c.loop-number.invariant c.loop-number-test.false
    (not_empty c.loop-number.rest.now _ c.is_empty.ensures c.if-is_empty.false) c.at.ensures
