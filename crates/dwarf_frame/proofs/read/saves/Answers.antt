use Rattle.std.proofs.Common.{◌∙◌, length-set}
use Rattle.std.proofs.lemmas.Result.{err_from_is_err_and}
use Rattle.dwarf_frame.proofs.ReadLoops.{saves_more, saves_fault, saves_done}
use Rattle.dwarf_frame.proofs.read.saves.Goals as goal

pub returns-in_err-distance : goal.returns-in_err-distance
returns-in_err-distance c =
    let p = err_from_is_err_and c.from_residual.result c.from_residual.ensures.1 in
    rw (p.1, p.2) (saves_fault _ _ _ _ _ c.loop-register-test.true c.loop-register.invariant.so_far c.in_err-distance.ensures)

pub loop-register-preserved : goal.loop-register-preserved
loop-register-preserved c = record {
  count = length-set _ _ _ ∙ c.loop-register.invariant.count;
  so_far = saves_more _ _ _ _ _ _ c.loop-register-test.true c.loop-register.invariant.count c.loop-register.invariant.so_far c.in_ok-distance.ensures;
}

pub returns : goal.returns
returns c = saves_done _ _ _ _ c.loop-register-test.false c.loop-register.invariant.count c.loop-register.invariant.so_far
