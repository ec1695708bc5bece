use Rattle.std.proofs.lemmas.Result.{err_from_is_err_and}
use Rattle.dwarf_line.proofs.ReadLoops.{dirs_more, dirs_fault, dirs_done}
use Rattle.dwarf_line.proofs.read.after_dirs.Goals as goal

pub returns-in_err-rest : goal.returns-in_err-rest
returns-in_err-rest c =
    let p = err_from_is_err_and c.from_residual.result c.from_residual.ensures.1 in
    rw (p.1, p.2) (dirs_fault _ _ _ _ _ c.loop-test.true c.in_err-rest.ensures c.loop.invariant)

pub loop-preserved : goal.loop-preserved
loop-preserved c = dirs_more _ _ _ _ _ c.loop-test.true c.in_ok-rest.ensures c.loop.invariant

pub returns : goal.returns
returns c = dirs_done _ _ _ _ c.loop-test.false c.loop.invariant
