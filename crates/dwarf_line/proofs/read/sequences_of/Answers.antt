use Rattle.std.proofs.Common.{sym, eqb-true}
use Rattle.std.proofs.lemmas.Result.{err_from_is_err_and}
use Rattle.dwarf_line.proofs.ReadLoops.{some_left, start_fault, sequence_fault, sequence_behind, sequences_more, sequences_all, sequences_fault}
use Rattle.dwarf_line.proofs.read.sequences_of.Goals as goal

pub returns-in_err-address : goal.returns-in_err-address
returns-in_err-address c =
    let p = err_from_is_err_and c.from_residual.result c.from_residual.ensures.1 in
    rw (p.1, p.2) (start_fault _ _ _ (some_left _ _ c.is_empty.ensures c.loop-rest-test.true) c.in_err-address.ensures c.loop-rest.invariant.faults)

pub returns-in_err-sequence : goal.returns-in_err-sequence
returns-in_err-sequence c =
    let p = err_from_is_err_and c.from_residual-in_err-sequence.result c.from_residual-in_err-sequence.ensures.1 in
    rw (p.1, p.2) (sequence_fault _ _ _ _ _ c.in_ok-address.ensures c.in_err-sequence.ensures c.loop-rest.invariant.faults)

pub loop-rest-smaller : goal.loop-rest-smaller
loop-rest-smaller c = (sequence_behind _ _ _ _ _ _ c.loop-rest.invariant.are c.in_ok-address.ensures c.in_ok-sequence.ensures).fewer

pub loop-rest-preserved : goal.loop-rest-preserved
loop-rest-preserved c = record {
  are = (sequence_behind _ _ _ _ _ _ c.loop-rest.invariant.are c.in_ok-address.ensures c.in_ok-sequence.ensures).are;
  reads = λ ss h. sequences_more _ _ _ _ _ _ _ _ ss c.in_ok-address.ensures c.in_ok-sequence.ensures c.in_ok-push.ensures.ok c.loop-rest.invariant.reads h;
  faults = λ left h. sequences_fault _ _ _ _ _ _ left c.in_ok-address.ensures c.in_ok-sequence.ensures c.loop-rest.invariant.faults h;
}

pub returns : goal.returns
returns c = sequences_all _ _ _ (eqb-true _ _ (sym c.loop-rest-test.ensures)) c.loop-rest.invariant.reads
