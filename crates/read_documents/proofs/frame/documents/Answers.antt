use Rattle.std.proofs.Common.{sym, ◌∙◌, arith}
use Rattle.std.proofs.lemmas.Bool.{eqb-true}
use Rattle.read_documents.proofs.Reading.{stops, goes_on, ends}
use Rattle.read_documents.proofs.Scanned.{scan-lines_of}
use Rattle.read_documents.proofs.frame.documents.Goals as goal

pub loop-rest-init : goal.loop-rest-init
loop-rest-init c = record { counted = omega arith; read = rw c.new-scan.ensures (scan-lines_of c.args.linked c.args.text.now) }

pub returns-then-is_some : goal.returns-then-is_some
returns-then-is_some c =
    let here = stops c.loop-rest.scan c.loop-rest.last c.loop-rest.rest.now c.first_line.result.0.now c.first_line.result.1.now c.trimmed-line.result.now
    c.first_line.ensures.cut c.trimmed-line.ensures in
    c.found.ensures ∙ here c.fault-bad.result c.fault-bad.ensures (sym c.if-is_some.ensures) ∙ c.loop-rest.invariant.read

pub loop-rest-preserved : goal.loop-rest-preserved
loop-rest-preserved c =
    let here = goes_on c.loop-rest.scan c.loop-rest.last c.loop-rest.rest.now c.first_line.result.0.now c.first_line.result.1.now c.trimmed-line.result.now
    c.first_line.ensures.cut c.trimmed-line.ensures in
    record {
      counted = omega (arith, c.first_line.ensures.shorter);
      read = rw c.in_ok-take.ensures (here c.fault-bad.result c.fault-bad.ensures (sym c.if-is_some.ensures) ∙ c.loop-rest.invariant.read);
    }

pub returns : goal.returns
returns c =
    let empty = eqb-true _ 0 (sym c.loop-rest-test.ensures) in
    c.found-2.ensures ∙ rw c.fault_at_end-bad.ensures (ends c.loop-rest.scan c.loop-rest.last c.loop-rest.rest.now empty ∙ c.loop-rest.invariant.read)
