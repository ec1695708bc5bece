use Rattle.std.proofs.Common.{◌≡◌, ◌+◌, ◌≤◌, length}
use Rattle.std.specs.Str.Lines.{lines}
use Rattle.read_documents.specs.Lines.{numbered}
use Rattle.read_documents.specs.steps.Scan.{scan}
use Rattle.read_documents.specs.Documents.{documents_of}
use Rattle.read_documents.proofs.frame.documents.Given as goal

abbrev pub invariant-loop-rest : goal.invariant-loop-rest
invariant-loop-rest l = record {
  counted : l.last + length l.rest ≤ length l.text;
  read : scan l.scan l.last (numbered (l.last + 1) (lines l.rest)) ≡ documents_of l.linked l.text;
}

abbrev pub decreases-loop-rest : goal.decreases-loop-rest
decreases-loop-rest l = length l.rest
