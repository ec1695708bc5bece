use Rattle.readback_functions.proofs.Scans.{documents_read_back}
use Rattle.readback_functions.proofs.document_laws.documents_read_back.Goals as goal

pub returns : goal.returns
returns c = documents_read_back
