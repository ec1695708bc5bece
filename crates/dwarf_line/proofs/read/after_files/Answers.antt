use Rattle.std.proofs.lemmas.Result.{err_from_is_err_and}
use Rattle.dwarf_line.proofs.ReadLoops.{files_more, files_fault, files_fault_behind, files_done}
use Rattle.dwarf_line.proofs.read.after_files.Goals as goal

pub returns-in_err-name : goal.returns-in_err-name
returns-in_err-name c =
    let p = err_from_is_err_and c.from_residual.result c.from_residual.ensures.1 in
    rw (p.1, p.2) (files_fault _ _ _ _ _ c.loop-test.true c.in_err-name.ensures c.loop.invariant)

pub returns-in_err-after : goal.returns-in_err-after
returns-in_err-after c =
    let p = err_from_is_err_and c.from_residual-in_err-after.result c.from_residual-in_err-after.ensures.1 in
    rw (p.1, p.2) (files_fault_behind _ _ _ _ _ _ c.loop-test.true c.in_ok-name.ensures c.in_err-after.ensures c.loop.invariant)

pub loop-preserved : goal.loop-preserved
loop-preserved c = files_more _ _ _ _ _ _ _ c.loop-test.true c.in_ok-name.ensures c.in_ok-after.ensures c.loop.invariant

pub returns : goal.returns
returns c = files_done _ _ _ _ c.loop-test.false c.loop.invariant
