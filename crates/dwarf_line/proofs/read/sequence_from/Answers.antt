use Rattle.std.proofs.lemmas.Result.{err_from_is_err_and}
use Rattle.dwarf_line.proofs.ReadLoops.{group_fault, group_smaller, row_fits, reads_more, reads_all, fault_more}
use Rattle.dwarf_line.proofs.read.sequence_from.Goals as goal

pub returns-in_err-group : goal.returns-in_err-group
returns-in_err-group c =
    let p = err_from_is_err_and c.from_residual.result c.from_residual.ensures.1 in
    rw (p.1, p.2) (group_fault _ _ _ _ _ c.in_err-group.ensures c.loop-rows.invariant.faults)

pub returns-in-Ended : goal.returns-in-Ended
returns-in-Ended c = reads_all _ _ _ _ _ _ _ _ _ c.in_ok-group.ensures c.in-Ended.is c.loop-rows.invariant.reads

pub loop-rows-smaller : goal.loop-rows-smaller
loop-rows-smaller c = group_smaller _ _ _ _ _ _ c.loop-rows.invariant.fits c.in_ok-group.ensures c.in-Copied.is

pub loop-rows-preserved : goal.loop-rows-preserved
loop-rows-preserved c = record {
  fits = row_fits _ _ _ _ _ _ c.loop-rows.invariant.fits c.in_ok-group.ensures c.in-Copied.is;
  reads = λ rows end rest h. reads_more _ _ _ _ _ _ _ _ _ _ rows end rest c.in_ok-group.ensures c.in-Copied.is c.in_ok-push-in-Copied.ensures.ok
      c.loop-rows.invariant.reads h;
  faults = λ left h. fault_more _ _ _ _ _ _ _ _ left c.in_ok-group.ensures c.in-Copied.is c.loop-rows.invariant.faults h;
}
